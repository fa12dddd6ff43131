-- The loop's invariant: the arcs into the vertices of the path, from where the cycle starts up to the next, are marked.
use Prim.Native.Nat.{◌+◌}
use Rattle.arc_index.specs.Columns.{record_tails, record_heads}
use Rattle.order_cycle.proofs.Cycles.{Marking}
use Rattle.order_cycle.proofs.mark.Given as goal

abbrev pub invariant-loop-v : goal.invariant-loop-v
invariant-loop-v l = Marking (record_tails l.records) (record_heads l.records) l.into l.path l.spot l.marks l.first l.len (l.first + l.v-index)
