use Rattle.packed_arcs.specs.PackedArcs.{tails_of, heads_of, costs_of, capacities_of}
use Rattle.packed_arcs.specs.Entries.{sum}
use Rattle.flow_residual.proofs.PhaseLaws.{Running}
use Rattle.flow_phases.proofs.run.Given as goal

abbrev pub invariant-loop-t : goal.invariant-loop-t
invariant-loop-t l =
    Running (tails_of l.arcs) (heads_of l.arcs) (costs_of l.arcs) (capacities_of l.arcs) l.initial.x l.initial.left l.initial.need l.x l.pi l.left l.need l.key l.par

abbrev pub decreases-loop-t : goal.decreases-loop-t
decreases-loop-t l =
    sum l.need
