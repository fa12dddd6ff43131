-- The loop's invariant: the state.
use lib.ListN.{length}
use Rattle.arc_index.specs.Columns.{record_tails, record_heads, record_weights}
use Rattle.match_state.specs.Matching.{State}
use Rattle.match_bids.proofs.bid_round.Given as goal

abbrev pub invariant-loop-t : goal.invariant-loop-t
invariant-loop-t l = State l.h (length l.initial.pi) (record_tails l.records) (record_heads l.records) (record_weights l.records) l.mate l.pi
