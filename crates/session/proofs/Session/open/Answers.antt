use mathlib.Core.Path.{refl, ◌∙◌, ap}
use Rattle.checks.specs.Held.{handed}
use Rattle.refusals.specs.Refusals.{number}
use Rattle.refusals.proofs.Exits.{number_not_0}
use Rattle.state.specs.Answers.{Refused}
use Rattle.state.specs.State.{idle}
use Rattle.state.proofs.Laws.{stays, goes}
use Rattle.session.specs.Session.{hand, accept}
use Rattle.session.specs.declared.Session.{Session}
use Rattle.session.proofs.TurnsToSteps.{open_refused, open_accepted}
use Rattle.session.proofs.Session.open.Goals as goal

pub returns-in-Ok : goal.returns-in-Ok
returns-in-Ok c =
    ap (λ (y : Session). accept y) c.fresh.ensures ∙ open_accepted (handed c.args.o) c.args.point (goes c.in-Ok.state) c.in-Ok.ensures refl

pub returns-in-Err : goal.returns-in-Err
returns-in-Err c =
    let k = number c.in-Err.refusal in
    ap (λ (y : Session). hand y (Refused k)) c.ended.ensures ∙ open_refused (handed c.args.o) c.args.point (stays idle k) c.in-Err.ensures (number_not_0 _)
