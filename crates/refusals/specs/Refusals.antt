-- The numbers of the refusals (PANEL 11), and of what a check answers.
use Rattle.std.specs.Prelude.{ℕ, Result, Ok, Err}
use Rattle.refusals.specs.declared.Refusal.{Refusal}
use Rattle.refusals.specs.declared.Refusal.TheVariants.{UnknownQuestion, SizeOutOfRange, EndsNotAllowed, PointTooLarge, NotNow, TooManyArcs, ArcNotAllowed, WeightTooLarge, ClaimNotAllowed, NumberNotAllowed, AmountNotAllowed, ArcRuleBroken, ArcsMissing, FingerprintsDiffer, BalanceWrong, SumsDisagree, WrongMark, WrongVersion, WrongLength, BufferTooShort, TooManyWindows, WindowNotAllowed}

-- The number of a refusal.
abbrev pub number : Refusal → ℕ
number UnknownQuestion = 1
number SizeOutOfRange = 2
number EndsNotAllowed = 3
number PointTooLarge = 4
number NotNow = 5
number TooManyArcs = 6
number ArcNotAllowed = 7
number WeightTooLarge = 8
number ClaimNotAllowed = 9
number NumberNotAllowed = 10
number AmountNotAllowed = 11
number ArcRuleBroken = 12
number ArcsMissing = 13
number FingerprintsDiffer = 14
number BalanceWrong = 15
number SumsDisagree = 16
number WrongMark = 17
number WrongVersion = 18
number WrongLength = 19
number BufferTooShort = 20
number TooManyWindows = 21
number WindowNotAllowed = 22

-- The number of what refuses, and 0 where nothing does.
abbrev pub why : {A : Type 0} → Result A Refusal → ℕ
why (Ok a) = 0
why (Err r) = number r
