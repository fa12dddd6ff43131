-- What comes of matching exposed right vertices: a matching that has them, or one of them that no exposed left vertex reaches.
use Rattle.std.specs.Prelude.{◌≡◌, Bool, true, false, List, ℕ, ◌<◌, ◌≤◌, length}
use Rattle.packed_arcs.specs.Entries.{entry}
use Rattle.arc_index.specs.ArcIndex.{no_arc}
use Rattle.vertex_queue.specs.VertexQueue.{waits_not}
use Rattle.match_state.specs.Matching.{State}
use Rattle.match_tree.specs.Tree.{Tree}

-- A search from t ended with nobody who waits: every left vertex that was reached was taken.
pub record Stuck (h n : ℕ) (T H W mate pi : List ℕ) (t : ℕ) (dist : List ℕ) : Type 0 where
  pub par : List ℕ
  pub order : List ℕ
  pub keys : List ℕ
  pub k : ℕ
  pub nd : ℕ
  pub tree : Tree h n T H W mate pi t dist par order keys k nd n waits_not
  pub none : (a : ℕ) → a < h → entry order a ≡ 0 → waits_not ≤ entry dist a

-- Matching t: it is matched, and every right vertex that was; or the search from it ended with nobody.
pub data Served (h n : ℕ) (T H W mate : List ℕ) (t : ℕ) (dist' mate' pi' : List ℕ) : Bool → Type 0 where
  grown :
      length dist' ≡ h → State h n T H W mate' pi' → entry mate' t < no_arc → ((b : ℕ) → h ≤ b → b < n → entry mate b < no_arc → entry mate' b < no_arc)
      → Served h n T H W mate t dist' mate' pi' true
  stuck : length dist' ≡ h → State h n T H W mate' pi' → Stuck h n T H W mate' pi' t dist' → Served h n T H W mate t dist' mate' pi' false

-- Matching right vertices, every one where the step is 1: the reply is the number of vertices, or a right vertex from which a search ended with nobody.
pub data PassOutcome (h n : ℕ) (T H W : List ℕ) (step : ℕ) (dist' mate' pi' : List ℕ) (r : ℕ) : Type 0 where
  whole :
      length dist' ≡ h → State h n T H W mate' pi' → r ≡ n → (step ≡ 1 → (b : ℕ) → h ≤ b → b < n → entry mate' b < no_arc)
      → PassOutcome h n T H W step dist' mate' pi' r
  stuck : length dist' ≡ h → State h n T H W mate' pi' → r < n → h ≤ r → Stuck h n T H W mate' pi' r dist' → PassOutcome h n T H W step dist' mate' pi' r
