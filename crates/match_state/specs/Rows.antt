-- The arcs to each vertex side by side, in any order. The row of the vertex v stands from the position at v on, up to the one at v + 1; its front, arcs from vertices that were exposed, ends before the position at 257 + v,
-- and at 513 + v stands how many of the last arcs of the front are in order of weight. An arc in a row has its number above its record.
use Rattle.std.specs.Prelude.{◌≡◌, List, ℕ, ◌+◌, ◌*◌, ◌-◌, ◌/◌, ◌%◌, ◌<◌, ◌≤◌, length}
use Rattle.packed_arcs.specs.Entries.{entry}
use Rattle.arc_records.specs.Arcs.{word_arc}
use Rattle.arc_index.specs.ArcIndex.{no_arc}

-- The arc e of the record k, as it stands in a row.
abbrev pub numbered : ℕ → ℕ → ℕ
numbered e k = e * 4294967296 + k

-- The number of an arc in a row.
abbrev pub row_number : ℕ → ℕ
row_number arc = arc / 4294967296

-- Its tail.
abbrev pub row_tail : ℕ → ℕ
row_tail arc = (word_arc (arc % 4294967296)).tail

-- Its weight.
abbrev pub row_weight : ℕ → ℕ
row_weight arc = (word_arc (arc % 4294967296)).weight

-- At the position i stands an arc to v, with its tail and its weight.
pub record RowArc (T H W rows : List ℕ) (v i : ℕ) : Type 0 where
  pub number : row_number (entry rows i) < length H
  pub head : entry H (row_number (entry rows i)) ≡ v
  pub tail : row_tail (entry rows i) ≡ entry T (row_number (entry rows i))
  pub weight : row_weight (entry rows i) ≡ entry W (row_number (entry rows i))

-- The arc e stands in the row of v.
pub record InRow (rows : List ℕ) (v e : ℕ) : Type 0 where
  pub at : ℕ
  pub from : entry rows v ≤ at
  pub before : at < entry rows (v + 1)
  pub is : row_number (entry rows at) ≡ e

-- The front of the row of v ends before the position s: of its last c arcs, two at most, each weighs no more than any before it.
pub record Front (rows : List ℕ) (v s c : ℕ) : Type 0 where
  pub within : s ≤ entry rows (v + 1)
  pub many : entry rows v + c ≤ s
  pub two : c ≤ 2
  pub ordered : (d j : ℕ) → d < c → entry rows v ≤ j → j + d + 1 < s → row_weight (entry rows (s - d - 1)) ≤ row_weight (entry rows j)

-- Every vertex has the row of the arcs to it.
pub record Rows (T H W rows : List ℕ) : Type 0 where
  pub few : length H ≤ no_arc
  pub len : length rows ≡ 769 + length H
  pub begins : (v : ℕ) → v ≤ 256 → 769 ≤ entry rows v
  pub ends : (v : ℕ) → v ≤ 256 → entry rows v ≤ length rows
  pub fronts : (v : ℕ) → v < 256 → Front rows v (entry rows (257 + v)) (entry rows (513 + v))
  pub own : (v i : ℕ) → v < 256 → entry rows v ≤ i → i < entry rows (v + 1) → RowArc T H W rows v i
  pub all : (e : ℕ) → e < length H → entry H e < 256 → InRow rows (entry H e) e

-- The row of b was put in another order: at the position i stands an arc from an exposed vertex, or i is where the row begins, and the arcs before it weigh no less.
pub record Parted (T H W mate rows rows' : List ℕ) (b i : ℕ) : Type 0 where
  pub rows_are : Rows T H W rows'
  pub same : (v : ℕ) → v ≤ 256 → entry rows' v ≡ entry rows v
  pub from : entry rows' b ≤ i
  pub within : i ≤ entry rows' (b + 1)
  pub here : entry rows' b < i → (i < entry rows' (b + 1)) × (entry mate (row_tail (entry rows' i)) ≡ no_arc)
  pub dearer : (j : ℕ) → entry rows' b ≤ j → j < i → row_weight (entry rows' i) ≤ row_weight (entry rows' j)
