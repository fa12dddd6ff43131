use native.Mathlib.Omega.{arith}
use Rattle.packed_arcs.proofs.LentParts.{zero_list_part}
use Rattle.flow_maximum.proofs.PhasesAfter.{prepared_state, finished}
use Rattle.flow_maximum.proofs.finish.Goals as goal

pub prepare-requires-clause-need_value : goal.prepare-requires-clause-need_value
prepare-requires-clause-need_value c =
    zero_list_part _ 255 (omega (arith, c.requires.solve_ready.1.left_len, c.requires.solve_ready.1.small))

pub run-requires-clause-chains : goal.run-requires-clause-chains
run-requires-clause-chains c = (
  c.requires.chains.0,
  c.requires.chains.1,
  prepared_state c.args.supply c.requires.solve_ready.0 c.prepare.ensures
      (zero_list_part _ 255 (omega (arith, c.requires.solve_ready.1.left_len, c.requires.solve_ready.1.small))),
)

pub returns : goal.returns
returns c = finished c.args.supply c.requires.solve_ready.0 c.prepare.ensures c.run.ensures
