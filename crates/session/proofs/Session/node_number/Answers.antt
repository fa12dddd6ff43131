use mathlib.Core.Path.{refl, ◌∙◌, ap}
use lib.IntN.{ℤ}
use lib.ListN.{set}
use mathlib.Core.List.{List}
use mir.Facts.{to_z-of_z}
use Rattle.refusals.specs.Refusals.{number}
use Rattle.refusals.proofs.Exits.{number_not_0}
use Rattle.state.specs.Turns.{number_turn}
use Rattle.state.proofs.Laws.{stays, goes}
use Rattle.session.specs.Session.{with_potentials, joined, accept}
use Rattle.session.proofs.TurnsToSteps.{number_replies}
use Rattle.session.proofs.Session.node_number.Goals as goal

pub returns-in-Ok : goal.returns-in-Ok
returns-in-Ok c =
    let x = c.args.self in
    let back = to_z-of_z c.ranges.y in
    c.accept.ensures
    ∙ ap (λ (ys : List ℤ). accept (joined (with_potentials x.arrays ys) c.in-Ok.next)) (c.store_number.ensures ∙ ap (λ (z : ℤ). set x.arrays.potentials x.state.numbering.given z) back)
    ∙ (number_replies x c.args.y (goes c.in-Ok.next) (c.in-Ok.ensures ∙ ap (number_turn x.state) back)).accepted refl

pub returns-in-Err : goal.returns-in-Err
returns-in-Err c =
    let x = c.args.self in
    let k = number c.in-Err.refusal in
    rw (c.refuse.ensures.session_left, c.refuse.ensures.answer_value)
    ((number_replies x c.args.y (stays x.state k) (c.in-Err.ensures ∙ ap (number_turn x.state) (to_z-of_z c.ranges.y))).refused (number_not_0 _))
