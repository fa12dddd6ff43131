-- What the results of the code say: the answer of an annotation that passes, a step, and a session or two files judged to the end (PANEL 6).
use Rattle.std.specs.Prelude.{ℕ, Option, Some, None, Result, Ok, Err}
use Rattle.refusals.specs.declared.Refusal.{Refusal}
use Rattle.refusals.specs.Refusals.{number}
use Rattle.network.specs.Question.{Answer, value, none}
use Rattle.state.specs.Answers.{Said, gives, refused, Response, Accepted, Refused, answered}

-- A value, or none.
abbrev pub answer_held : Option ℕ → Answer
answer_held (Some v) = value v
answer_held None = none

-- What a step before finishing answers.
abbrev pub response_of : {A : Type 0} → Result A Refusal → Response
response_of (Ok a) = Accepted
response_of (Err r) = Refused (number r)

-- What finishing answers.
abbrev pub finished_as : Result (Option ℕ) Refusal → Response
finished_as (Ok a) = answered (answer_held a)
finished_as (Err r) = Refused (number r)

-- What two files come out as.
abbrev pub verdict : Result (Option ℕ) Refusal → Said
verdict (Ok a) = gives (answer_held a)
verdict (Err r) = refused (number r)
