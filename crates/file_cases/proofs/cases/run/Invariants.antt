-- `file_cases::cases::run` is safe and ends: the two files that cases start from are text, as the script is.
use denote.Text.{Utf8}
use denote.Shadow.{shadow}
use Rattle.file_cases.proofs.cases.run.Given as goal

abbrev pub invariant-loop-line : goal.invariant-loop-line
invariant-loop-line g l =
    (goal.iterator-loop-line g).can_next l.line-iterator ×
    (goal.iterator-loop-line g).is_finite l.line-iterator ×
    shadow (Utf8 l.net) ×
    shadow (Utf8 l.ann)
