-- The steps of a session, by what they make of its state.
use mathlib.Core.Path.{◌≡◌, refl, sym, ◌∙◌, ap, ap₂}
use mathlib.Core.Bool.{Bool, true, false, false≢true, not, ◌&&◌}
use mathlib.Core.List.{List, [], append-nil}
use Prim.Native.Nat.{ℕ}
use native.Mathlib.Decide.{ℕ_discrete}
use borrow.Author.Tests.{eq-eqb, ne_eqb}
use lib.Dec.{eqb}
use lib.IntN.{ℤ}
use Rattle.prelude.specs.Checks.{Check, settle, first_broken}
use Rattle.prelude.specs.Choice.{pick}
use Rattle.prelude.proofs.Choice.{on, off, eqb_on, eqb_off}
use Rattle.prelude.proofs.Settle.{settled, settle_map, Numbered, none_broken, part_refused}
use Rattle.arc_records.specs.Arcs.{Arc}
use Rattle.network.specs.Network.{Load}
use Rattle.network.specs.Question.{Setting}
use Rattle.network.specs.Tests.{answer_of}
use Rattle.points.specs.declared.Point.{Point}
use Rattle.state.specs.Answers.{answered}
use Rattle.state.specs.State.{is_claimed, setting_held, claim_held, idle, open_checks, opened, read_checks, with_read, end_checks, with_end, claim_checks, with_claim}
use Rattle.state.specs.State.{number_checks, with_number, repeat_checks, with_repeat, finish_checks}
use Rattle.state.specs.Turns.{turned, open_turn, read_turn, end_turn, claim_turn, number_turn, repeat_turn}
use Rattle.session.specs.Session.{by_turn_of, potentials_in, sums_in, with_arrays, with_state, fresh, void, hand, accept, refuse}
use Rattle.session.specs.Steps.{opening, read_step, end_step, claim_step, numbered_arrays, number_step, repeated_arrays, repeat_step, finish_step}
use Rattle.state.specs.Answers.{Response}
use Rattle.state.specs.Answers.{Accepted, Refused}
use Rattle.session.specs.declared.Arrays.{Arrays}
use Rattle.session.specs.Session.{Reply}
use Rattle.session.specs.declared.Session.{Session}
use Rattle.state.specs.declared.State.{State}
use Rattle.state.specs.Turns.{Turn}
use Rattle.state.proofs.Laws.{stays, goes}

-- ---- any step

module _ (x y : State) (cs : List Check) (n : Numbered cs) (t : Turn) (e : t ≡ turned x cs y) where
  found : t.why ≡ first_broken cs
  found = ap (λ (u : Turn). u.why) e ∙ settle_map (λ (u : Turn). u.why) (stays x) cs (goes y)

  same_state : (t.why ≡ 0 → ⊥) → t.state ≡ x
  same_state h =
      ap (λ (u : Turn). u.state)
      (e ∙ sym (part_refused (stays x) cs [] (goes y) n t.why found h ∙ ap (λ (ds : List Check). turned x ds y) (append-nil cs)))

  next_state : t.why ≡ 0 → t.state ≡ y
  next_state z = ap (λ (u : Turn). u.state) (e ∙ settled (stays x) cs (goes y) (none_broken cs n (sym found ∙ z)))

module _ {A : Type 0} (g : ℕ → A) (cs : List Check) (n : Numbered cs) (v : A) (why : ℕ) (broken : why ≡ first_broken cs) where
  at_refusal : (why ≡ 0 → ⊥) → g why ≡ settle g cs v
  at_refusal h = part_refused g cs [] v n why broken h ∙ ap (λ (ds : List Check). settle g ds v) (append-nil cs)

  at_end : why ≡ 0 → v ≡ settle g cs v
  at_end z = sym (settled g cs v (none_broken cs n (sym broken ∙ z)))

-- ---- opening

module _ (st : Setting) (r : Point) (u : Turn) (e : u ≡ open_turn st r) where
  four : Numbered (open_checks st r)
  four = (refl, (refl, (refl, (refl, tt))))

  pub open_found : u.why ≡ first_broken (open_checks st r)
  unfolding open_turn
  open_found = found idle (opened st r) (open_checks st r) four u e

  pub open_refused : (u.why ≡ 0 → ⊥) → hand (fresh u.state) (Refused u.why) ≡ opening st r
  unfolding open_turn opening
  open_refused h =
      ap (λ (y : State). hand (fresh y) (Refused u.why)) (same_state idle (opened st r) (open_checks st r) four u e h)
      ∙ at_refusal (λ why. hand void (Refused why)) (open_checks st r) four _ u.why open_found h

  pub open_accepted : u.why ≡ 0 → accept (fresh u.state) ≡ opening st r
  unfolding open_turn opening
  open_accepted z =
      ap (λ (y : State). accept (fresh y)) (next_state idle (opened st r) (open_checks st r) four u e z)
      ∙ at_end (λ why. hand void (Refused why)) (open_checks st r) four _ u.why open_found z

-- ---- the steps

-- A step of the session x by the turn u of its state replies v; where it is accepted, the next session is y but for the state.
pub record Replies (x y : Session) (u : Turn) (v : Reply) : Type 0 where
  pub kept : (u.why ≡ 0 → ⊥) → u.state ≡ x.state
  pub refused : (u.why ≡ 0 → ⊥) → refuse x u.why ≡ v
  pub accepted : u.why ≡ 0 → accept (with_state y u.state) ≡ v

by_turn : (x y : Session) (s : State) (cs : List Check) → Numbered cs → (u : Turn) → u ≡ turned x.state cs s
    → Replies x y u (settle (refuse x) cs (accept (with_state y s)))
by_turn x y s cs n u e = record {
  kept = same_state x.state s cs n u e;
  refused = λ h. at_refusal (refuse x) cs n (accept (with_state y s)) u.why first h;
  accepted = λ z.
      ap (λ (t : State). accept (with_state y t)) (next_state x.state s cs n u e z)
      ∙ at_end (refuse x) cs n (accept (with_state y s)) u.why first z;
}
  where
    first : u.why ≡ first_broken cs
    first = found x.state s cs n u e

pub read_replies : (x : Session) (a : Arc) (u : Turn) → u ≡ read_turn x.state a → Replies x x u (read_step x a)
unfolding read_turn read_step
read_replies x a u e = by_turn x x (with_read x.state a) (read_checks x.state a) (refl, (refl, (refl, (refl, tt)))) u e

pub end_replies : (x : Session) (u : Turn) → u ≡ end_turn x.state → Replies x x u (end_step x)
unfolding end_turn end_step
end_replies x u e = by_turn x x (with_end x.state) (end_checks x.state) (refl, tt) u e

pub claim_replies : (x : Session) (k : ℕ) (u : Turn) → u ≡ claim_turn x.state k → Replies x x u (claim_step x k)
unfolding claim_turn claim_step
claim_replies x k u e = by_turn x x (with_claim x.state k) (claim_checks x.state k) (refl, (refl, tt)) u e

pub number_replies : (x : Session) (z : ℤ) (u : Turn) → u ≡ number_turn x.state z → Replies x (with_arrays x (numbered_arrays x z)) u (number_step x z)
unfolding number_turn number_step
number_replies x z u e =
    by_turn x (with_arrays x (numbered_arrays x z)) (with_number x.state z) (number_checks x.state z) (refl, (refl, (refl, tt))) u e

pub repeat_replies : (x : Session) (l : Load) (u : Turn) → u ≡ repeat_turn x.state (potentials_in x) l → Replies x (with_arrays x (repeated_arrays x l)) u (repeat_step x l)
unfolding repeat_turn repeat_step
repeat_replies x l u e =
    by_turn x (with_arrays x (repeated_arrays x l)) (with_repeat x.state l) (repeat_checks x.state (potentials_in x) l)
    (refl, (refl, (refl, (refl, (refl, (refl, (refl, tt))))))) u e

-- a step that changes nothing but the state
pub by_state : {x : Session} {u : Turn} {v : Reply} → Replies x x u v → by_turn_of x u ≡ v
by_state {x} {u} {v} g = go (ℕ_discrete u.why 0)
  where
    go : Dec (u.why ≡ 0) → by_turn_of x u ≡ v
    go (yes z) = sym (eqb_on Reply v _ (refuse x u.why) u.why 0 z (sym (g.accepted z)))
    go (no n) = sym (eqb_off Reply v (accept (with_state x u.state)) _ u.why 0 n (sym (g.refused n)))

-- ---- finishing

module _ (x : Session) (why : ℕ) (broken : why ≡ first_broken (finish_checks x.state (potentials_in x) (sums_in x))) where
  six : Numbered (finish_checks x.state (potentials_in x) (sums_in x))
  six = (refl, (refl, (refl, (refl, (refl, (refl, tt))))))

  pub finish_refused : (why ≡ 0 → ⊥) → refuse x why ≡ finish_step x
  unfolding finish_step
  finish_refused h = at_refusal (refuse x) (finish_checks x.state (potentials_in x) (sums_in x)) six _ why broken h

  pub finish_answered : (y : Session) (a : Response) → y ≡ void → a ≡ answered (answer_of (setting_held x.state) (claim_held x.state) (sums_in x)) → why ≡ 0 → hand y a ≡ finish_step x
  unfolding finish_step
  finish_answered y a p q z =
      ap₂ (λ (y : Session) (a : Response). hand y a) p q
      ∙ at_end (refuse x) (finish_checks x.state (potentials_in x) (sums_in x)) six _ why broken z
