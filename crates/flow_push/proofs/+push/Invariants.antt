-- The measure is the vertex's key, which is lower at the other end of its parent arc.
use Rattle.packed_arcs.specs.Entries.{entry}
use Rattle.flow_push.proofs.+push.Given as goal

abbrev pub decreases-push : goal.decreases-push
decreases-push l = entry l.key.now l.v
