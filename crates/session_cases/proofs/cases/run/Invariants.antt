-- `session_cases::cases::run` is safe and ends: the words that cases start with are text, as the script is.
use denote.Text.{Utf8}
use denote.Shadow.{shadow}
use Rattle.session_cases.proofs.cases.run.Given as goal

abbrev pub invariant-loop-line : goal.invariant-loop-line
invariant-loop-line g l =
    (goal.iterator-loop-line g).can_next l.line-iterator ×
    (goal.iterator-loop-line g).is_finite l.line-iterator ×
    shadow (Utf8 l.start)
