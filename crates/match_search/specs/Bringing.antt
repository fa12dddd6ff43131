-- The end of a search: matched vertices that are farther than the last key are brought nearer.
use Rattle.std.specs.Prelude.{◌≡◌, List, ℕ, ◌<◌, ◌≤◌, min, ltb, length}
use Rattle.prelude.specs.Choice.{pick}
use Rattle.packed_arcs.specs.Entries.{entry}
use Rattle.arc_index.specs.ArcIndex.{no_arc}

-- The nearest exposed vertex is at the distance best, and the last key is k: where that is less, matched left vertices are no farther than k now.
pub data BroughtNear (best k : ℕ) (mate dist dist' : List ℕ) : Type 0 where
  kept : best ≤ k → dist' ≡ dist → BroughtNear best k mate dist dist'
  brought :
      k < best → length dist' ≡ length dist → ((a : ℕ) → a < length dist → entry dist' a ≡ pick (ltb (entry mate a) no_arc) (min (entry dist a) k) (entry dist a))
      → BroughtNear best k mate dist dist'
