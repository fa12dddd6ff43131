-- The loop's invariant: the least among the first e entries.
use Rattle.vertex_queue.proofs.LeastPlaces.{ScannedLeast}
use Rattle.vertex_queue.proofs.least_entry.Given as goal

abbrev pub invariant-loop-e : goal.invariant-loop-e
invariant-loop-e l = ScannedLeast l.l l.from l.e l.best
