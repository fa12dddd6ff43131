-- What one phase keeps: the state between phases, what a search found, and the vertex with need that is nearest.
use Rattle.std.specs.Prelude.{◌≡◌, List, ◌⊎◌, ℕ, ◌+◌, ◌<◌, ◌≤◌, ltb, length}
use Rattle.prelude.specs.Choice.{pick}
use Rattle.packed_arcs.specs.Entries.{entry, flow_at, sum}
use Rattle.vertex_queue.specs.VertexQueue.{waits_not, Kept}
use Rattle.flow_residual.specs.Residual.{unreached, ResidualNetwork, residual, WithinLimits, NonnegativeReducedCosts, ParentTree, AllRelaxed}

-- The key that a search starts with: 0 where supply is left.
abbrev pub first_key : ℕ → ℕ
first_key l = pick (ltb 0 l) 0 unreached

-- The keys that a search starts with, by the supply left.
pub record FirstKeys (left key : List ℕ) : Type 0 where
  pub len : length key ≡ length left
  pub keys : (v : ℕ) → v < length left → entry key v ≡ first_key (entry left v)

-- The keys that a search starts with, and who waits: each vertex with its key, so those with supply.
pub record StartOutcome (left key keys low : List ℕ) : Type 0 where
  pub started : FirstKeys left key
  pub queue : Kept keys low
  pub same : (v : ℕ) → v < length left → entry keys v ≡ entry key v
  pub nobody : (v : ℕ) → length left ≤ v → v < 256 → waits_not ≤ entry keys v

-- What a search found.
pub record SearchResult (N : ResidualNetwork) (left key par : List ℕ) : Type 0 where
  pub key_len : length key ≡ length left
  pub par_len : length par ≡ length left
  pub tree : ParentTree N key par
  pub relaxed : AllRelaxed N key (length N.from)
  pub roots : (v : ℕ) → v < length key → entry key v ≡ 0 → 0 < entry left v
  pub sources : (v : ℕ) → v < length key → 0 < entry left v → entry key v ≡ 0

-- best is the vertex below v with need and the least key, k, or the number of vertices where none is reached.
pub record NearestSoFar (need key : List ℕ) (v best k : ℕ) : Type 0 where
  pub within : v ≤ length key
  pub which : ((best ≡ length key) × (k ≡ unreached)) ⊎ ((best < length key) × (0 < entry need best) × (entry key best ≡ k) × (k < unreached))
  pub least : (j : ℕ) → j < v → 0 < entry need j → k ≤ entry key j

-- best is the vertex with need that is nearest, or the number of vertices where none is reached.
pub record Nearest (need key : List ℕ) (best : ℕ) : Type 0 where
  pub k : ℕ
  pub best_of : NearestSoFar need key (length key) best k

-- The state between phases.
pub record PhaseState (from to cost cap x pi left need : List ℕ) : Type 0 where
  pub sized : WithinLimits (residual from to cost cap x pi) (length left)
  pub nonnegative : NonnegativeReducedCosts (residual from to cost cap x pi)
  pub within : (e : ℕ) → e < length from → entry x e ≤ entry cap e
  pub need_len : length need ≡ length left
  pub small : length left ≤ 255
  pub zero : (v : ℕ) → v < length left → 0 < entry left v → entry pi v ≡ 0
  pub top : (t v : ℕ) → t < length left → v < length left → 0 < entry need t → entry pi v ≤ entry pi t

-- One phase that reached a vertex with need: the state again, balances that agree with what was taken and delivered, and less need.
pub record Advanced (from to cost cap x pi left need x' pi' left' need' : List ℕ) : Type 0 where
  pub state : PhaseState from to cost cap x' pi' left' need'
  pub left_len : length left' ≡ length left
  pub left_less : (w : ℕ) → entry left' w ≤ entry left w
  pub need_less : (w : ℕ) → entry need' w ≤ entry need w
  pub balance :
      (w : ℕ) → flow_at from x' w + entry left' w + entry need w + flow_at to x w ≡ flow_at from x w + entry left w + entry need' w + flow_at to x' w
  pub less : sum need' < sum need

-- What the whole run gives back: the state, the last search, no reached need, and balances since the beginning.
pub record Solved (from to cost cap x pi left need x' pi' left' need' key' par' : List ℕ) : Type 0 where
  pub state : PhaseState from to cost cap x' pi' left' need'
  pub found : SearchResult (residual from to cost cap x' pi') left' key' par'
  pub none : (v : ℕ) → v < length key' → 0 < entry need' v → unreached ≤ entry key' v
  pub left_len : length left' ≡ length left
  pub left_less : (w : ℕ) → entry left' w ≤ entry left w
  pub need_less : (w : ℕ) → entry need' w ≤ entry need w
  pub balance :
      (w : ℕ) → flow_at from x' w + entry left' w + entry need w + flow_at to x w ≡ flow_at from x w + entry left w + entry need' w + flow_at to x' w
