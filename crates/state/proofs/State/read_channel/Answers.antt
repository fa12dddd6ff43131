use mathlib.Core.Path.{refl, ◌∙◌}
use lib.Dec.{ltb→lt}
use Rattle.arc_records.specs.Arcs.{arc_held}
use Rattle.state.specs.State.{read_checks, with_read}
use Rattle.state.specs.Turns.{turn_of, read_turn}
use Rattle.refusals.proofs.Exits.{exit_as, number_not_0}
use Rattle.state.proofs.Laws.{turn_refused, turn_holds, turn_accepted, read_done}
use Rattle.state.proofs.State.read_channel.Goals as goal

pub returns-in_err-read_check : goal.returns-in_err-read_check
unfolding read_turn
returns-in_err-read_check c =
    exit_as (turn_of c.args.self) _ _ c.from_residual.ensures.1
    ∙ turn_refused c.args.self (with_read c.args.self (arc_held c.args.arc)) (read_checks c.args.self (arc_held c.args.arc)) (refl, (refl, (refl, (refl, tt)))) _ c.in_err-read_check.ensures (number_not_0 _)

pub with_arc-next-requires : goal.with_arc-next-requires
with_arc-next-requires c =
    let h = turn_holds c.args.self (with_read c.args.self (arc_held c.args.arc)) (read_checks c.args.self (arc_held c.args.arc)) (refl, (refl, (refl, (refl, tt)))) 0 c.in_ok-read_check.ensures refl in
    ltb→lt c.args.self.reading.list.count 4096 h.1.0

pub returns : goal.returns
unfolding read_turn
returns c =
    turn_accepted c.args.self (with_read c.args.self (arc_held c.args.arc)) (read_checks c.args.self (arc_held c.args.arc)) (refl, (refl, (refl, (refl, tt)))) 0 c.in_ok-read_check.ensures refl _
    (read_done c.args.self (arc_held c.args.arc) c.with_arc-next.result c.with_arc-next.ensures)
