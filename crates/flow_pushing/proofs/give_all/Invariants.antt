use Rattle.std.proofs.Common.{length, ◌-◌}
use Rattle.flow_moves.specs.Preflow.{Moves}
use Rattle.flow_pushing.proofs.give_all.Given as goal

abbrev pub invariant-loop-e : goal.invariant-loop-e
invariant-loop-e g l = Moves l.net.arcs.now l.initial.x l.initial.left l.x l.left

abbrev pub decreases-loop-e : goal.decreases-loop-e
decreases-loop-e g l = length l.net.arcs.now - l.e
