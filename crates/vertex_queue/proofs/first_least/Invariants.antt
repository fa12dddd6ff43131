-- The loop's invariant: the least among the first i entries.
use Rattle.vertex_queue.proofs.LeastPlaces.{Scanned}
use Rattle.vertex_queue.proofs.first_least.Given as goal

abbrev pub invariant-loop-i : goal.invariant-loop-i
invariant-loop-i l = Scanned l.l l.from l.i l.at l.best
