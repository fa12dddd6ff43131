use Rattle.flow_moves.specs.Preflow.{Moves}
use Rattle.flow_stages.proofs.push_toward.Given as goal

abbrev pub invariant-loop : goal.invariant-loop
invariant-loop l = Moves l.net.arcs.now l.initial.x l.initial.left l.x l.left
