-- The loop's invariant: each vertex below v has its own place.
use Rattle.packed_arcs.specs.Entries.{zero_list}
use Rattle.arc_index.proofs.Filled.{Numbering}
use Rattle.arc_index.proofs.first_places.Given as goal

abbrev pub invariant-loop-v : goal.invariant-loop-v
invariant-loop-v l = Numbering (zero_list 256) l.last l.v
