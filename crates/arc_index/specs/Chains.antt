-- What the links say of each chain: where it begins, and where it goes on.
use Rattle.std.specs.Prelude.{◌≡◌, List, ◌≢◌, ℕ, ◌+◌, ◌<◌, ◌≤◌, length}
use Rattle.packed_arcs.specs.Entries.{entry}
use Rattle.arc_index.specs.ArcIndex.{no_arc, first_arc, next_arc}

-- e is the first arc from lo on whose end is v, or no_arc where there is none.
pub data First (ends : List ℕ) (v lo e : ℕ) : Type 0 where
  found : lo ≤ e → e < length ends → entry ends e ≡ v → ((j : ℕ) → lo ≤ j → j < e → entry ends j ≢ v) → First ends v lo e
  none : e ≡ no_arc → ((j : ℕ) → lo ≤ j → j < length ends → entry ends j ≢ v) → First ends v lo e

-- The links name for each vertex its first arc, and for each arc the next one with the same end.
pub record Chains (ends links : List ℕ) : Type 0 where
  pub few : length ends ≤ no_arc
  pub len : length links ≡ 256 + length ends
  pub firsts : (v : ℕ) → v < 256 → First ends v 0 (first_arc links v)
  pub nexts : (e : ℕ) → e < length ends → First ends (entry ends e) (e + 1) (next_arc links e)
