use native.Mathlib.Omega.{arith}
use Rattle.arc_index.proofs.Columns.{tails_len}
use Rattle.match_least_cost.proofs.Finding.{begun}
use Rattle.match_least_cost.proofs.arrange_and_bid.Goals as goal

pub write_rows-requires : goal.write_rows-requires
write_rows-requires c =
    (omega (arith, c.requires.bipartite.0.few, tails_len c.args.records.now), c.requires.bipartite.1)

pub bid_all-requires : goal.bid_all-requires
bid_all-requires c =
    (begun c.args.records.now c.requires.bipartite.0 c.requires.mate_value.0 c.requires.mate_value.1, c.write_rows.ensures)

pub returns : goal.returns
returns c = record { state = c.bid_all.ensures; rows = c.write_rows.ensures }
