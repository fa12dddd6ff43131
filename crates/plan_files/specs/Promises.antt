-- What is promised of the judging program (PANEL 10); proofs/Promises.antt keeps it.
use Rattle.std.specs.Prelude.{◌≡◌, List, ℕ}
use Rattle.state.specs.Answers.{accepted}
use Rattle.plan_files.specs.AnswerLine.{program_answer}

-- Judging gives an answer or refuses, for any bytes: it never merely accepts, so there is always a line to print.
abbrev pub NeverAccepted : Type 0
NeverAccepted = (point net ann : List ℕ) → ¬ (program_answer point net ann ≡ accepted)
