-- A short point is refused, and what counts of the files is judged at a whole one.
use mathlib.Core.Path.{refl, ◌∙◌}
use native.Mathlib.Omega.{arith}
use lib.ListN.{length}
use Rattle.prelude.proofs.Choice.{leb_on, leb_off}
use Rattle.state.specs.Answers.{Said}
use Rattle.judging.specs.Judging.{judged}
use Rattle.plan_files.specs.AnswerLine.{program_answer}
use Rattle.plan_files.proofs.answer_line.answer.Goals as goal

pub returns-then-point-lt8 : goal.returns-then-point-lt8
unfolding program_answer
returns-then-point-lt8 c = leb_off Said _ _ _ 8 (length c.args.point.now) (omega arith) refl

pub returns : goal.returns
unfolding program_answer
returns c =
    leb_on Said _ _ _ 8 (length c.args.point.now) (omega arith)
    (c.judge.ensures ∙ (λ i. judged (c.counted.ensures i) (c.counted-2.ensures i) (c.point_in.ensures i)))
