-- The loop's invariant: the best of the vertices below v.
use Rattle.flow_phases.proofs.NearestVertex.{SoFar}
use Rattle.flow_phases.proofs.nearest.Given as goal

abbrev pub invariant-loop-v : goal.invariant-loop-v
invariant-loop-v l = SoFar l.need l.key l.v l.best l.k
