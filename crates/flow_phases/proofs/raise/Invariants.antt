-- The loop's invariant: the potentials below v are raised, the others are as they were.
use Rattle.flow_residual.proofs.FallingKeys.{Raising}
use Rattle.flow_phases.proofs.raise.Given as goal

abbrev pub invariant-loop-v : goal.invariant-loop-v
invariant-loop-v l = Raising l.d l.key l.initial.pi l.pi l.v
