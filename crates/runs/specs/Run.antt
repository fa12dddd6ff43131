-- Lists of session steps, and what demand 3 counts (PANEL 12).
use Rattle.std.specs.Prelude.{Bool, true, false, not, List, [], ◌∷◌, ◌++◌, ℕ, eqb, ℤ, length}
use Rattle.prelude.specs.Checks.{settle}
use Rattle.prelude.specs.Lists.{Some}
use Rattle.arc_records.specs.Arcs.{Arc}
use Rattle.network.specs.Network.{Load}
use Rattle.network.specs.Question.{Setting, Answer, value, none, TrueAnswer}
use Rattle.network.specs.Tests.{reading_checks}
use Rattle.points.specs.Points.{IsPoint}
use Rattle.points.specs.declared.Point.{Point}
use Rattle.state.specs.Answers.{Said, accepted, gives, refused, said}
use Rattle.session.specs.Steps.{opening, read_step, end_step, claim_step, number_step, repeat_step, finish_step}
use Rattle.session.specs.Session.{Reply}
use Rattle.session.specs.declared.Session.{Session}

-- The six steps, each with any arguments (PANEL 6).
pub data Step : Type 0 where
  read : Arc → Step
  end : Step
  claim : ℕ → Step
  number : ℤ → Step
  repeat : Load → Step
  finish : Step

-- What a session replies to a step.
abbrev pub step : Session → Step → Reply
step x (read e) = read_step x e
step x end = end_step x
step x (claim k) = claim_step x k
step x (number z) = number_step x z
step x (repeat l) = repeat_step x l
step x finish = finish_step x

-- What a list of steps answers: the session goes from each step to the next, whether the step was refused or not.
unfoldable pub run : Session → List Step → List Said
run x [] = []
run x (a ∷ steps) = said (step x a).answer ∷ run (step x a).session steps

-- The session that a list of steps hands back.
unfoldable pub session_after : Session → List Step → Session
session_after x [] = x
session_after x (a ∷ steps) = session_after (step x a).session steps

-- The same from a fresh opening, for a setting and a pair of points.
abbrev pub run_from : Setting → Point → List Step → List Said
run_from st r steps = run (opening st r).session steps

-- What the step a answers after the steps before it, accepted or refused.
abbrev pub answer_to : Setting → Point → List Step → Step → Said
answer_to st r before a = said (step (session_after (opening st r).session before) a).answer

-- ---- what demand 3 counts (PANEL 12)

-- A reading step adds its arc at the end of the list l, unless check 6, 7 or 8 refuses it.
abbrev pub with_arc : Setting → List Arc → Arc → List Arc
with_arc st l e = settle (λ why. l) (reading_checks st (length l) e) (l ++ e ∷ [])

-- The list read, found from the steps alone, where l stands there already: the first ending of the reading closes it.
unfoldable pub list_from : Setting → List Arc → List Step → List Arc
list_from st l [] = l
list_from st l (read e ∷ steps) = list_from st (with_arc st l e) steps
list_from st l (end ∷ steps) = l
list_from st l (claim k ∷ steps) = list_from st l steps
list_from st l (number z ∷ steps) = list_from st l steps
list_from st l (repeat b ∷ steps) = list_from st l steps
list_from st l (finish ∷ steps) = list_from st l steps

-- The list read, empty at opening.
abbrev pub list_read : Setting → List Step → List Arc
list_read st steps = list_from st [] steps

-- An answer is wrong where it is given and differs from the true one; acceptances and refusals never are.
abbrev pub Wrong : Setting → List Arc → Said → Type 0
Wrong st net accepted = ⊥
Wrong st net (gives a) = ¬ (TrueAnswer st net a)
Wrong st net (refused k) = ⊥

-- The pairs of points that are counted: some step answers wrongly there.
abbrev pub WrongAt : Setting → List Step → Point → Type 0
WrongAt st steps r = IsPoint r × Some (Wrong st (list_read st steps)) (run_from st r steps)

-- Are two answers the same?
abbrev pub same_answer : Answer → Answer → Bool
same_answer (value v) (value w) = eqb v w
same_answer (value v) none = false
same_answer none (value w) = false
same_answer none none = true

-- Is an answer given that is not a? Where a is the true one this is the test of a wrong answer.
abbrev pub is_other : Answer → Said → Bool
is_other a accepted = false
is_other a (gives b) = not (same_answer b a)
is_other a (refused k) = false
