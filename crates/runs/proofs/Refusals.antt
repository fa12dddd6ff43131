-- What refusals change, for every session and every step: demand 1's second sentence.
use mathlib.Core.Path.{◌≡◌, refl, sym, ◌∙◌, ap, subst}
use mathlib.Core.Bool.{Bool, true, false}
use mathlib.Core.List.{List, [], ◌∷◌}
use Prim.Native.Nat.{ℕ}
use native.Mathlib.Omega.{arith}
use borrow.Author.Tests.{ne_eqb}
use Rattle.prelude.specs.Checks.{Check, ◌unless◌, settle}
use Rattle.prelude.specs.Choice.{pick}
use Rattle.prelude.specs.Lists.{Every}
use Rattle.network.specs.Question.{Answer, value, none}
use Rattle.state.specs.Answers.{refused, answered}
use Rattle.network.specs.Tests.{answer_of}
use Rattle.state.specs.State.{is_claimed, setting_held, claim_held, open_checks, read_checks, end_checks, claim_checks, number_checks, repeat_checks, finish_checks, opened}
use Rattle.state.specs.Answers.{Accepted, Refused}
use Rattle.session.specs.Session.{potentials_in, sums_in, fresh, void, hand, accept, leaves, refuse}
use Rattle.session.specs.Steps.{opening, read_step, end_step, claim_step, number_step, repeat_step, finish_step}
use Rattle.session.specs.Session.{Reply}
use Rattle.session.specs.declared.Session.{Session}
use Rattle.runs.specs.Run.{Step, read, end, claim, number, repeat, finish, step, run, session_after}
use Rattle.runs.specs.Promises.{IsOver, VoidIsOver, OverForEver, RefusalLeaves, FiveChangesNothing, FinishEnds, RefusedOpeningVoid, OnlyRefusals}

-- ---- the answers differ

not_refused : (why : ℕ) → Accepted ≡ Refused why → ⊥
not_refused why e = let z : ◌≡◌ {A = ℕ} 0 1 = cc in omega arith

answer_not_refused : (a : Answer) (why : ℕ) → answered a ≡ Refused why → ⊥
answer_not_refused (value v) why e = let z : ◌≡◌ {A = ℕ} 0 1 = cc in omega arith
answer_not_refused none why e = let z : ◌≡◌ {A = ℕ} 0 1 = cc in omega arith

-- ---- a refusal hands back what its number leaves

refused_session : (left : ℕ → Session) (cs : List Check) (y : Reply) (why : ℕ) → (y.answer ≡ Refused why → ⊥)
    → (settle (λ k. hand (left k) (Refused k)) cs y).answer ≡ Refused why → (settle (λ k. hand (left k) (Refused k)) cs y).session ≡ left why
refused_session left [] y why n e = absurd (n e)
refused_session left ((k unless true) ∷ cs) y why n e = refused_session left cs y why n e
refused_session left ((k unless false) ∷ cs) y why n e = let same : k ≡ why = cc in ap left same

pub refusal_leaves : RefusalLeaves
unfolding read_step end_step claim_step number_step repeat_step finish_step
refusal_leaves x (read e) why h = refused_session (leaves x) (read_checks x.state e) _ why (not_refused why) h
refusal_leaves x end why h = refused_session (leaves x) (end_checks x.state) _ why (not_refused why) h
refusal_leaves x (claim k) why h = refused_session (leaves x) (claim_checks x.state k) _ why (not_refused why) h
refusal_leaves x (number z) why h = refused_session (leaves x) (number_checks x.state z) _ why (not_refused why) h
refusal_leaves x (repeat b) why h = refused_session (leaves x) (repeat_checks x.state (potentials_in x) b) _ why (not_refused why) h
refusal_leaves x finish why h = refused_session (leaves x) (finish_checks x.state (potentials_in x) (sums_in x)) _ why (answer_not_refused (answer_of (setting_held x.state) (claim_held x.state) (sums_in x)) why) h

pub refused_opening_void : RefusedOpeningVoid
unfolding opening
refused_opening_void st r why e = refused_session (λ k. void) (open_checks st r) (accept (fresh (opened st r))) why (not_refused why) e

-- ---- refusal 5 changes nothing

five_leaves : (x : Session) → leaves x 5 ≡ x
five_leaves x = go (is_claimed x.state)
  where
    go : (b : Bool) → pick b x x ≡ x
    go true = refl
    go false = refl

pub five_changes_nothing : FiveChangesNothing
five_changes_nothing x a e = refusal_leaves x a 5 e ∙ five_leaves x

-- ---- what is over stays so

five_refused : (x : Session) → refuse x 5 ≡ hand x (Refused 5)
five_refused x = ap (λ (z : Session). hand z (Refused 5)) (five_leaves x)

over_step : (x : Session) → IsOver x → (a : Step) → step x a ≡ hand x (Refused 5)
unfolding read_step end_step claim_step number_step repeat_step finish_step
over_step x o (read e) = rw o.not_reading (five_refused x)
over_step x o end = rw o.not_reading (five_refused x)
over_step x o (claim k) = rw o.not_read (five_refused x)
over_step x o (number z) = rw o.not_claimed refl
over_step x o (repeat b) = rw o.not_claimed refl
over_step x o finish = rw o.not_claimed refl

pub void_is_over : VoidIsOver
void_is_over = record { not_reading = refl; not_read = refl; not_claimed = refl }

pub over_for_ever : OverForEver
unfolding run session_after
over_for_ever x o [] = (tt, refl)
over_for_ever x o (a ∷ steps) = rw (over_step x o a) ((refl, (over_for_ever x o steps).0), (over_for_ever x o steps).1)

pub only_refusals : OnlyRefusals
only_refusals st r why steps e =
    subst (λ (x : Session). Every (λ a. a ≡ refused 5) (run x steps)) (sym (refused_opening_void st r why e)) (over_for_ever void void_is_over steps).0

-- ---- finishing ends the session

-- where a claim stands, a refusal other than 5 leaves a void session
ends_by : (x : Session) → is_claimed x.state ≡ true → (cs : List Check) (y : Reply) → y.session ≡ void
    → ¬ ((settle (refuse x) cs y).answer ≡ Refused 5) → (settle (refuse x) cs y).session ≡ void
ends_by x c [] y e n = e
ends_by x c ((k unless true) ∷ cs) y e n = ends_by x c cs y e n
ends_by x c ((k unless false) ∷ cs) y e n = rw (c, ne_eqb k 5 (λ d. n (ap Refused d))) refl

pub finish_ends : FinishEnds
unfolding finish_step
finish_ends x n = go (is_claimed x.state) refl
  where
    go : (b : Bool) → is_claimed x.state ≡ b → (finish_step x).session ≡ void
    go true c = ends_by x c (finish_checks x.state (potentials_in x) (sums_in x)) _ refl n
    go false c = absurd (n (rw c refl))
