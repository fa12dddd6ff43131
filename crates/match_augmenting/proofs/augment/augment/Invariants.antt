use Prim.Native.Nat.{ℕ, ◌<◌, ◌≤◌}
use lib.ListN.{length}
use Rattle.packed_arcs.specs.Entries.{entry}
use Rattle.arc_index.specs.ArcIndex.{no_arc}
use Rattle.arc_index.specs.Columns.{record_tails, record_heads, record_weights}
use Rattle.match_augmenting.specs.Augmenting.{Alternating}
use Rattle.match_augmenting.proofs.augment.augment.Given as goal

abbrev pub invariant-loop-r : goal.invariant-loop-r
invariant-loop-r l =
    Alternating (length l.order) (length l.pi) (record_tails l.records) (record_heads l.records) (record_weights l.records) l.mate l.pi l.par l.order l.t l.a
    × ((v : ℕ) → length l.order ≤ v → v < length l.pi → entry l.initial.mate v < no_arc → entry l.mate v < no_arc)

abbrev pub decreases-loop-r : goal.decreases-loop-r
decreases-loop-r l = entry l.order l.a
