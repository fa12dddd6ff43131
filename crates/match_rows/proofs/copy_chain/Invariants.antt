-- The loop's invariant: the arcs of the chain before e are copied to the positions below i.
use Prim.Native.Nat.{◌-◌}
use Rattle.arc_index.specs.ArcIndex.{no_arc}
use Rattle.arc_index.specs.Columns.{record_tails, record_heads, record_weights}
use Rattle.match_rows.proofs.OneRow.{Copying}
use Rattle.match_rows.proofs.copy_chain.Given as goal

abbrev pub invariant-loop-e : goal.invariant-loop-e
invariant-loop-e l = Copying (record_tails l.records) (record_heads l.records) (record_weights l.records) l.initial.rows l.rows l.v l.from l.i l.e

abbrev pub decreases-loop-e : goal.decreases-loop-e
decreases-loop-e l = no_arc - l.e
