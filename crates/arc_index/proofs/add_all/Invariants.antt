-- The loop's invariant: the arcs below e are added.
use mathlib.Core.List.{map}
use Rattle.arc_index.specs.ArcIndex.{index_of}
use Rattle.arc_index.proofs.Building.{AddedTo}
use Rattle.arc_index.proofs.add_all.Given as goal

abbrev pub invariant-loop-e : goal.invariant-loop-e
invariant-loop-e g l = AddedTo l.arcs (map (g.T.Arc.end_of l.end) l.arcs) (index_of l.initial.links l.initial.last) (index_of l.links l.last) l.e
