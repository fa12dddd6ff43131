-- The exit of a `?`: the error is handed on, and its number is not 0.
use mathlib.Core.Path.{refl, sym}
use Rattle.std.proofs.Common.{◌≡◌, Result, Ok, Err, rules}
use borrow.Author.Tests.{ne_eqb}
use lib.Dec.{eqb}
use Rattle.std.specs.Result.{IsErrAnd, is_ok}
use Rattle.std.proofs.lemmas.Result.{err_from_is_err_and}
use Rattle.refusals.specs.declared.Refusal.{Refusal}
use Rattle.refusals.specs.declared.Refusal.TheVariants.{UnknownQuestion, SizeOutOfRange, EndsNotAllowed, PointTooLarge, NotNow, TooManyArcs, ArcNotAllowed, WeightTooLarge, ClaimNotAllowed, NumberNotAllowed, AmountNotAllowed, ArcRuleBroken, ArcsMissing, FingerprintsDiffer, BalanceWrong, SumsDisagree, WrongMark, WrongVersion, WrongLength, BufferTooShort, TooManyWindows, WindowNotAllowed}
use Rattle.refusals.specs.Refusals.{number, why}

-- no refusal has the number 0
pub number_not_0 : (r : Refusal) → number r ≡ 0 → ⊥
number_not_0 r e = search rules depth 4

-- whatever is made of the result of such an exit is made of the error
pub exit_as : {A X : Type 0} (f : Result A Refusal → X) (r : Result A Refusal) (e : Refusal) → IsErrAnd r (λ y. y ≡ e) → f r ≡ f (Err e)
exit_as f r e h = let p = err_from_is_err_and r h in rw (p.1, p.2) refl

-- nothing refuses just where the number is 0
pub ok_number : {A : Type 0} (r : Result A Refusal) → is_ok r ≡ eqb (why r) 0
ok_number (Ok a) = refl
ok_number (Err e) = sym (ne_eqb (number e) 0 (number_not_0 e))
