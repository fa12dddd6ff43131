use mathlib.Core.Path.{refl, ◌∙◌, ap}
use lib.IntN.{ℤ}
use mathlib.Core.List.{List}
use Rattle.refusals.specs.Refusals.{number}
use Rattle.refusals.proofs.Exits.{number_not_0}
use Rattle.network.specs.Network.{load_of}
use Rattle.state.proofs.Laws.{stays, goes}
use Rattle.session.specs.Session.{with_balances, joined, accept}
use Rattle.session.proofs.TurnsToSteps.{repeat_replies}
use Rattle.session.proofs.Session.repeat_channel.Goals as goal

pub returns-in-Ok : goal.returns-in-Ok
returns-in-Ok c =
    let x = c.args.self in
    c.accept.ensures
    ∙ ap (λ (bs : List ℤ). accept (joined (with_balances x.arrays bs) c.in-Ok.next)) c.move_amount.ensures
    ∙ (repeat_replies x (load_of c.args.a c.args.b c.args.w c.args.x) (goes c.in-Ok.next) c.in-Ok.ensures).accepted refl

pub returns-in-Err : goal.returns-in-Err
returns-in-Err c =
    let x = c.args.self in
    let k = number c.in-Err.refusal in
    rw (c.refuse.ensures.session_left, c.refuse.ensures.answer_value)
    ((repeat_replies x (load_of c.args.a c.args.b c.args.w c.args.x) (stays x.state k) c.in-Err.ensures).refused (number_not_0 _))
