use native.Mathlib.Omega.{arith}
use Rattle.packed_arcs.proofs.ArcColumns.{columns}
use Rattle.flow_path.proofs.Outcomes.{indexed_tails}
use Rattle.flow_path.proofs.sending.index_and_send.Goals as goal

pub search_and_push-requires-clause-chains : goal.search_and_push-requires-clause-chains
search_and_push-requires-clause-chains c = (
  indexed_tails c.args.arcs.now c.args.out.now _ (omega (arith, c.requires.packed_phase_state.sized.few, columns c.args.arcs.now))
      c.requires.out_len.0 c.index_packed.ensures.1,
  c.requires.out_len.1,
)
