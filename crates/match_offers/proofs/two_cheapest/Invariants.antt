-- The loop's invariant: the two cheapest of the arcs in the row before i.
use Rattle.arc_index.specs.Columns.{record_tails, record_heads, record_weights}
use Rattle.match_offers.proofs.Costs.{Looking}
use Rattle.match_offers.proofs.two_cheapest.Given as goal

abbrev pub invariant-loop-i : goal.invariant-loop-i
invariant-loop-i l = Looking (record_tails l.records) (record_heads l.records) (record_weights l.records) l.rows l.pi l.t l.i l.two
