-- What is owed of one row: that it holds the arcs to its vertex, and that later rows still have room.
use Rattle.std.specs.Prelude.{◌≡◌, List, ℕ, ◌+◌, ◌*◌, ◌<◌, ◌≤◌, ltb, length}
use Rattle.prelude.specs.Sums.{count}
use Rattle.packed_arcs.specs.Entries.{entry}
use Rattle.arc_index.specs.ArcIndex.{no_arc}
use Rattle.match_state.specs.Rows.{row_number, RowArc}

-- How many arcs are copied before b, where the arc e to v is copied at v * no_arc + e: vertex by vertex, in file order.
abbrev pub copied : List ℕ → ℕ → ℕ
copied H b = count (λ e. ltb (entry H e * no_arc + e) b) (length H)

-- The arc e stands at one of the positions from start on, up to end - 1.
pub record StandsBetween (rows : List ℕ) (start end e : ℕ) : Type 0 where
  pub at : ℕ
  pub from : start ≤ at
  pub before : at < end
  pub is : row_number (entry rows at) ≡ e

-- The arcs to v stand from the position start on, up to end - 1.
pub record Row (T H W rows : List ℕ) (v start end : ℕ) : Type 0 where
  pub own : (i : ℕ) → start ≤ i → i < end → RowArc T H W rows v i
  pub all : (e : ℕ) → e < length H → entry H e ≡ v → StandsBetween rows start end e

-- The row of v was copied to the positions from start on, up to end - 1, of a list that was `before`.
pub record RowCopied (T H W before rows : List ℕ) (v start end : ℕ) : Type 0 where
  pub len : length rows ≡ length before
  pub kept : (j : ℕ) → j < start → entry rows j ≡ entry before j
  pub forward : start ≤ end
  pub room : end ≤ 769 + copied H ((v + 1) * no_arc)
  pub row : Row T H W rows v start end
