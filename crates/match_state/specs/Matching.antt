-- A bipartite network, a matching in it, and potentials that show how cheap the matching is.
use Rattle.std.specs.Prelude.{◌≡◌, List, ◌⊎◌, ℕ, ◌+◌, ◌<◌, ◌≤◌, length}
use Rattle.packed_arcs.specs.Entries.{entry}
use Rattle.arc_index.specs.ArcIndex.{no_arc}

-- Every arc leads from a left vertex, below h, to a right one, from h on and below n; tails, heads and weights by column.
pub record Bipartite (h n : ℕ) (T H W : List ℕ) : Type 0 where
  pub within : h ≤ n
  pub small : n ≤ 255
  pub few : length T ≤ 4096
  pub heads_len : length H ≡ length T
  pub weights_len : length W ≡ length T
  pub from_left : (e : ℕ) → e < length T → entry T e < h
  pub to_right : (e : ℕ) → e < length T → h ≤ entry H e
  pub below : (e : ℕ) → e < length T → entry H e < n
  pub weights : (e : ℕ) → e < length T → entry W e ≤ 32767

-- The arc e ends at the vertex v, and is noted as matched at both its ends.
pub record Noted (T H mate : List ℕ) (v e : ℕ) : Type 0 where
  pub arc : e < length T
  pub end : (entry T e ≡ v) ⊎ (entry H e ≡ v)
  pub at_tail : entry mate (entry T e) ≡ e
  pub at_head : entry mate (entry H e) ≡ e

-- A matching: every vertex is exposed, or one arc of it is matched.
pub record Matching (n : ℕ) (T H mate : List ℕ) : Type 0 where
  pub len : length mate ≡ n
  pub each : (v : ℕ) → v < n → (entry mate v ≡ no_arc) ⊎ Noted T H mate v (entry mate v)

-- Potentials: no arc has a negative reduced cost, a matched arc has none.
pub record Priced (n : ℕ) (T H W mate pi : List ℕ) : Type 0 where
  pub len : length pi ≡ n
  pub feasible : (e : ℕ) → e < length T → entry pi (entry H e) ≤ entry pi (entry T e) + entry W e
  pub tight : (v : ℕ) → v < n → entry mate v < no_arc → entry pi (entry H (entry mate v)) ≡ entry pi (entry T (entry mate v)) + entry W (entry mate v)

-- Between searches: besides, an exposed left vertex has the potential 0, and no potential is above what a node number may be.
pub record State (h n : ℕ) (T H W mate pi : List ℕ) : Type 0 where
  pub graph : Bipartite h n T H W
  pub pairs : Matching n T H mate
  pub priced : Priced n T H W mate pi
  pub exposed : (a : ℕ) → a < h → entry mate a ≡ no_arc → entry pi a ≡ 0
  pub range : (v : ℕ) → v < n → entry pi v ≤ 8322818
