-- What is owed where a row is put in another order.
use Rattle.std.specs.Prelude.{◌≡◌, List, ◌≢◌, ℕ, ◌+◌, ◌<◌, ◌≤◌, length}
use Rattle.packed_arcs.specs.Entries.{entry}
use Rattle.arc_index.specs.ArcIndex.{no_arc}
use Rattle.match_state.specs.Rows.{row_tail, row_weight, Rows}

-- What stood at i stands at j, and the other way round.
pub record Exchanged (rows rows' : List ℕ) (i j : ℕ) : Type 0 where
  pub len : length rows' ≡ length rows
  pub left : entry rows' i ≡ entry rows j
  pub right : entry rows' j ≡ entry rows i
  pub others : (k : ℕ) → k ≢ i → k ≢ j → entry rows' k ≡ entry rows k

-- The front of the row of b ends before s, and of its last arcs c are said to be in order; all else is as it was.
pub record FrontNoted (rows rows' : List ℕ) (b s c : ℕ) : Type 0 where
  pub len : length rows' ≡ length rows
  pub end : entry rows' (257 + b) ≡ s
  pub count : entry rows' (513 + b) ≡ c
  pub others : (k : ℕ) → k ≢ 257 + b → k ≢ 513 + b → entry rows' k ≡ entry rows k

-- The row of b was put in another order: the arcs before the position `end` come from exposed vertices, and where there are any, none of them weighs less than the one at `at`, and none of the others less than the one at `second`.
pub record ExposedFirst (T H W mate rows rows' : List ℕ) (b end at second : ℕ) : Type 0 where
  pub rows_are : Rows T H W rows'
  pub same : (v : ℕ) → v ≤ 256 → entry rows' v ≡ entry rows v
  pub loose : entry rows' (513 + b) ≡ 0
  pub from : entry rows' b ≤ end
  pub within : end ≤ entry rows' (b + 1)
  pub exposed : (j : ℕ) → entry rows' b ≤ j → j < end → entry mate (row_tail (entry rows' j)) ≡ no_arc
  pub found : entry rows' b < end → (entry rows' b ≤ at) × (at < end)
  pub lightest : (j : ℕ) → entry rows' b ≤ j → j < end → row_weight (entry rows' at) ≤ row_weight (entry rows' j)
  pub found_next : entry rows' b + 1 < end → (entry rows' b ≤ second) × (second < end) × (second ≢ at)
  pub next : (j : ℕ) → entry rows' b ≤ j → j < end → j ≢ at → row_weight (entry rows' second) ≤ row_weight (entry rows' j)
