-- What an arc from a left vertex weighs at least, and how much dearer the arcs from exposed ones are than what matched right vertices pay.
use Rattle.std.specs.Prelude.{◌≡◌, List, ℕ, ◌+◌, ◌<◌, ◌≤◌, length}
use Rattle.packed_arcs.specs.Entries.{entry}
use Rattle.arc_index.specs.ArcIndex.{no_arc}

-- No arc from a left vertex weighs less than what is noted for it.
pub record Lightest (T W lightest : List ℕ) : Type 0 where
  pub least : (e : ℕ) → e < length T → entry lightest (entry T e) ≤ entry W e

-- Where s is not 0, every arc from an exposed left vertex weighs at least s more than the potential of any matched right vertex; and all are small.
pub record Slack (lightest mate pi : List ℕ) (s : ℕ) : Type 0 where
  pub most : s ≤ 32767
  pub dearer : 0 < s → (a b : ℕ) → a < length lightest → entry mate a ≡ no_arc → length lightest ≤ b → b < length pi → entry mate b < no_arc → entry pi b + s ≤ entry lightest a
  pub small : 0 < s → (b : ℕ) → length lightest ≤ b → b < length pi → entry mate b < no_arc → entry pi b + s ≤ 32767
