use mathlib.Core.Path.{refl, ap}
use Rattle.refusals.specs.Refusals.{number}
use Rattle.refusals.proofs.Exits.{number_not_0}
use Rattle.network.specs.Question.{Answer}
use Rattle.state.specs.Answers.{answered}
use Rattle.session.proofs.TurnsToSteps.{finish_refused, finish_answered}
use Rattle.session.proofs.Session.finish.Goals as goal

pub returns-in-Ok : goal.returns-in-Ok
returns-in-Ok c =
    finish_answered c.args.self 0 c.in-Ok.ensures c.ended.result _ c.ended.ensures (ap (λ (a : Answer). answered a) c.answer.ensures) refl

pub returns-in-Err : goal.returns-in-Err
returns-in-Err c =
    rw (c.refuse.ensures.session_left, c.refuse.ensures.answer_value)
    (finish_refused c.args.self (number c.in-Err.refusal) c.in-Err.ensures (number_not_0 _))
