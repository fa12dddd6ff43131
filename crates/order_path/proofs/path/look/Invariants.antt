-- The loop's invariant: only the current arc of v moved on. Fewer arcs are left at each turn.
use Prim.Native.Nat.{◌-◌}
use Rattle.packed_arcs.specs.Entries.{entry}
use Rattle.arc_index.specs.ArcIndex.{no_arc}
use Rattle.arc_index.specs.Columns.{record_tails, record_heads}
use Rattle.order_path.specs.Steps.{MovedOn}
use Rattle.order_path.proofs.path.look.Given as goal

abbrev pub invariant-loop-into : goal.invariant-loop-into
invariant-loop-into l = MovedOn (record_tails l.records) (record_heads l.records) l.ranks l.initial.into l.v l.into

abbrev pub decreases-loop-into : goal.decreases-loop-into
decreases-loop-into l = no_arc - entry l.into l.v
