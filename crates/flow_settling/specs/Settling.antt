-- What phases start from, after a preflow.
use Rattle.std.specs.Prelude.{◌≡◌, Bool, true, not, ◌&&◌, List, ℕ, ◌+◌, ◌-◌, ◌<◌, ◌≤◌, eqb, length}
use Rattle.prelude.specs.Lists.{all}
use Rattle.packed_arcs.specs.Entries.{entry, flow_at}
use Rattle.packed_arcs.specs.PackedArcs.{tails_of, heads_of, costs_of, capacities_of}
use Rattle.packed_arcs.specs.Limits.{arcs_fit, is_free}
use Rattle.flow_moves.specs.Preflow.{standing_at}

-- What a preflow's end takes for granted: vertices s and t, and arcs within the limits.
pub record SolveReady (arcs : List ℕ) (s t n : ℕ) : Type 0 where
  pub source : s < n
  pub sink : t < n
  pub fit : arcs_fit arcs (length arcs) n ≡ true

-- Nothing is left over: what is not at s has arrived at t, which is another vertex; and no arc costs anything.
abbrev pub settled : ℕ → ℕ → ℕ → List ℕ → List ℕ → Bool
settled s t supply arcs left = not (eqb s t) && eqb (supply - entry left s) (entry left t) && all is_free arcs

-- What phases start from: amounts within capacity, on arcs that cost nothing, and balances by what stood at s, what is left, and what has arrived at t.
pub record Prepared (arcs : List ℕ) (s t supply n : ℕ) (x left need : List ℕ) : Type 0 where
  pub x_len : length x ≡ length arcs
  pub left_len : length left ≡ n
  pub need_len : length need ≡ n
  pub within : (e : ℕ) → e < length arcs → entry x e ≤ entry (capacities_of arcs) e
  pub free : (e : ℕ) → e < length arcs → 0 < entry x e → entry (costs_of arcs) e ≡ 0
  pub left_less : (w : ℕ) → entry left w ≤ entry (standing_at n s supply) w
  pub need_less : (w : ℕ) → entry need w ≤ entry (standing_at n t supply) w
  pub balance :
      (w : ℕ) → flow_at (tails_of arcs) x w + entry left w + entry (standing_at n t supply) w ≡ entry (standing_at n s supply) w + entry need w + flow_at (heads_of arcs) x w
