-- What holds of the lists that a session has accepted: the checks that each element passed.
use mathlib.Core.Path.{◌≡◌, refl, sym}
use mathlib.Core.Logic.{◌⊎◌, inl, inr}
use mathlib.Core.Bool.{Bool, true, false}
use mathlib.Core.List.{List, [], ◌∷◌, ◌++◌}
use Prim.Native.Nat.{ℕ, ◌≤◌, ◌<◌}
use native.Mathlib.Omega.{arith}
use native.Mathlib.Decide.{ℕ_discrete}
use lib.Dec.{T, eqb, ltb→lt, eqb→eq}
use lib.IntN.{ℤ, pos}
use lib.ListN.{length, length-append, get_or-append}
use lib.Seq.{get_or_at}
use Rattle.prelude.specs.Checks.{Check, ◌unless◌, settle, Hold}
use Rattle.prelude.specs.Choice.{pick}
use Rattle.prelude.specs.Lists.{Every, at}
use Rattle.prelude.proofs.Lists.{every_snoc}
use Rattle.prelude.proofs.Settle.{hold_left, hold_right}
use Rattle.arc_records.specs.Limits.{most_arcs}
use Rattle.arc_records.specs.Arcs.{Arc}
use Rattle.network.specs.Network.{Load}
use Rattle.network.specs.Question.{Setting, Allowed}
use Rattle.network.specs.Tests.{arc_checks, reading_checks, claim_of, claim_ok, Numbers, node_ok, numbering_checks, amount_ok, rule_ok, repeating_checks}
use Rattle.network.proofs.Allowed.{arc_rule}
use Rattle.runs.specs.Run.{Step, read, end, claim, number, repeat, finish}
use Rattle.runs.specs.Exchange.{Readable}
use Rattle.runs.specs.AcceptedLists.{AcceptedLists, over, reading, has_read, claimed, is_claimed, numbers_of, step_checks, with_step, after_refusal, next}

-- a repeated arc with its amount that passes checks 7, 8, 11 and 12
pub record LoadPassed (st : Setting) (a : Numbers) (b : Load) : Type 0 where
  pub allowed : Allowed st b.arc
  pub amount_holds : T (amount_ok st a.claim b)
  pub rule_holds : T (rule_ok st a b)

-- the claim, the node numbers and the repeated arcs, after the arcs l were read
pub record AnnotationPassed (st : Setting) (l : List Arc) (k : ℕ) (ys : List ℤ) (f : List Load) : Type 0 where
  pub list : Readable st l
  pub claim_holds : T (claim_ok st k)
  pub numbered : length ys ≤ st.n
  pub nodes : (v : ℕ) → v < length ys → T (node_ok st (claim_of k) v (at ys v))
  pub loads : Every (LoadPassed st (numbers_of (claim_of k) ys)) f
  pub repeated : length f ≤ length l
  pub in_turn : (length ys ≡ st.n) ⊎ (f ≡ [])

abbrev pub Invariant : Setting → AcceptedLists → Type 0
Invariant st over = Unit {0}
Invariant st (reading l) = Readable st l
Invariant st (has_read l) = Readable st l
Invariant st (claimed l k ys f) = AnnotationPassed st l k ys f

-- what holds of every refusal, and of the value where the checks hold
pub settle_keeps : {A : Type 0} (P : A → Type 0) (g : ℕ → A) (cs : List Check) (v : A) → ((k : ℕ) → P (g k)) → (Hold cs → P v) → P (settle g cs v)
settle_keeps P g [] v r h = h tt
settle_keeps P g ((k unless true) ∷ cs) v r h = settle_keeps P g cs v r (λ a. h (tt, a))
settle_keeps P g ((k unless false) ∷ cs) v r h = r k

-- what holds of the lists and where all is over
pub refusal_keeps : (P : AcceptedLists → Type 0) (x : AcceptedLists) → P x → P over → (k : ℕ) → P (after_refusal x k)
refusal_keeps P x h c k = go (is_claimed x) (eqb k 5)
  where
    go : (a b : Bool) → P (pick a (pick b x over) x)
    go true true = h
    go true false = c
    go false b = h

module _ (st : Setting) where
  read_more : (l : List Arc) (e : Arc) → Readable st l → Hold (reading_checks st (length l) e) → Readable st (l ++ e ∷ [])
  read_more l e g h = record {
    allowed = every_snoc (Allowed st) l e g.allowed (arc_rule st e h.1);
    few = omega (arith, ltb→lt (length l) most_arcs h.0, length-append l (e ∷ []));
  }

  -- no arc is repeated before the node numbers are complete
  pub none_yet : (ys : List ℤ) (f : List Load) → length ys < st.n → (length ys ≡ st.n) ⊎ (f ≡ []) → f ≡ []
  none_yet ys f h (inl e) = absurd (omega arith)
  none_yet ys f h (inr e) = e

  pub repeat_passed : (a : Numbers) (m i : ℕ) (b : Load) → Hold (repeating_checks st a m i b) → LoadPassed st a b
  repeat_passed a m i b h =
      let rest = 11 unless amount_ok st a.claim b ∷ 12 unless rule_ok st a b ∷ [] in
      let late = hold_right (arc_checks st b.arc) rest h.1.1 in
      record { allowed = arc_rule st b.arc (hold_left (arc_checks st b.arc) rest h.1.1); amount_holds = late.0; rule_holds = late.1.0 }

  module _ (l : List Arc) (k : ℕ) (ys : List ℤ) (f : List Load) (g : AnnotationPassed st l k ys f) where
    number_more : (z : ℤ) → Hold (numbering_checks st (claim_of k) (length ys) z) → AnnotationPassed st l k (ys ++ z ∷ []) f
    number_more z h = record {
      list = g.list;
      claim_holds = g.claim_holds;
      numbered = omega (arith, room, length-append ys (z ∷ []));
      nodes = λ v b. node v b (ℕ_discrete v (length ys));
      loads = rw nothing tt;
      repeated = g.repeated;
      in_turn = inr nothing;
    }
      where
        room : length ys < st.n
        room = ltb→lt (length ys) st.n h.0

        nothing : f ≡ []
        nothing = none_yet ys f room g.in_turn

        node : (v : ℕ) → v < length (ys ++ z ∷ []) → Dec (v ≡ length ys) → T (node_ok st (claim_of k) v (at (ys ++ z ∷ []) v))
        node v b (yes e) = rw (get_or_at ys z [] (pos 0) v (sym e)) (rw e h.1.0)
        node v b (no ne) =
            let below : v < length ys = omega (arith, length-append ys (z ∷ [])) in
            rw (get_or-append ys (z ∷ []) (pos 0) v below) (g.nodes v below)

    repeat_more : (b : Load) → Hold (repeating_checks st (numbers_of (claim_of k) ys) (length l) (length f) b) → AnnotationPassed st l k ys (f ++ b ∷ [])
    repeat_more b h = record {
      list = g.list;
      claim_holds = g.claim_holds;
      numbered = g.numbered;
      nodes = g.nodes;
      loads = every_snoc (LoadPassed st (numbers_of (claim_of k) ys)) f b g.loads (repeat_passed (numbers_of (claim_of k) ys) (length l) (length f) b h);
      repeated = omega (arith, ltb→lt (length f) (length l) h.1.0, length-append f (b ∷ []));
      in_turn = inl (eqb→eq (length ys) st.n h.0);
    }

  -- every step keeps it
  pub invariant_next : (agree : List Arc → List Arc → Bool) (x : AcceptedLists) → Invariant st x → (a : Step) → Invariant st (next agree st x a)
  invariant_next agree x g a = settle_keeps (Invariant st) (after_refusal x) (step_checks agree st x a) (with_step x a) (refusal_keeps (Invariant st) x g tt) (more x g a)
    where
      more : (x : AcceptedLists) → Invariant st x → (a : Step) → Hold (step_checks agree st x a) → Invariant st (with_step x a)
      more over g (read e) h = absurd h.0
      more over g end h = absurd h.0
      more over g (claim k) h = absurd h.0
      more over g (number z) h = absurd h.0
      more over g (repeat b) h = absurd h.0
      more (reading l) g (read e) h = read_more l e g h.1
      more (reading l) g end h = g
      more (reading l) g (claim k) h = absurd h.0
      more (reading l) g (number z) h = absurd h.0
      more (reading l) g (repeat b) h = absurd h.0
      more (has_read l) g (read e) h = absurd h.0
      more (has_read l) g end h = absurd h.0
      more (has_read l) g (claim k) h = record {
        list = g;
        claim_holds = h.1.0;
        numbered = omega arith;
        nodes = λ v b. absurd (omega arith);
        loads = tt;
        repeated = omega arith;
        in_turn = inr refl;
      }
      more (has_read l) g (number z) h = absurd h.0
      more (has_read l) g (repeat b) h = absurd h.0
      more (claimed l k ys f) g (read e) h = absurd h.0
      more (claimed l k ys f) g end h = absurd h.0
      more (claimed l k ys f) g (claim j) h = absurd h.0
      more (claimed l k ys f) g (number z) h = number_more l k ys f g z h.1
      more (claimed l k ys f) g (repeat b) h = repeat_more l k ys f g b h.1
      more over g finish h = tt
      more (reading l) g finish h = tt
      more (has_read l) g finish h = tt
      more (claimed l k ys f) g finish h = tt
