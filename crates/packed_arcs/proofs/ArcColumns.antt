-- The columns of packed arcs: how long they are, and what stands in them.
use mathlib.Core.Path.{◌≡◌}
use mathlib.Core.List.{List}
use Prim.Native.Nat.{ℕ, ◌<◌}
use native.Mathlib.Omega.{arith}
use lib.ListN.{length, length-map, get_or-map}
use Rattle.packed_arcs.specs.Entries.{entry}
use Rattle.packed_arcs.specs.PackedArcs.{tail_of, head_of, cost_of, capacity_of, tails_of, heads_of, costs_of, capacities_of}

pub columns : (arcs : List ℕ) → length (tails_of arcs) ≡ length arcs
columns arcs = length-map arcs tail_of

-- an arc is one of the column's
pub listed : (arcs : List ℕ) (e : ℕ) → e < length arcs → e < length (tails_of arcs)
listed arcs e h = omega (arith, columns arcs)

pub tail_at : (arcs : List ℕ) (e : ℕ) → entry (tails_of arcs) e ≡ tail_of (entry arcs e)
tail_at arcs e = get_or-map tail_of arcs e 0

pub head_at : (arcs : List ℕ) (e : ℕ) → entry (heads_of arcs) e ≡ head_of (entry arcs e)
head_at arcs e = get_or-map head_of arcs e 0

pub cost_at : (arcs : List ℕ) (e : ℕ) → entry (costs_of arcs) e ≡ cost_of (entry arcs e)
cost_at arcs e = get_or-map cost_of arcs e 0

pub capacity_at : (arcs : List ℕ) (e : ℕ) → entry (capacities_of arcs) e ≡ capacity_of (entry arcs e)
capacity_at arcs e = get_or-map capacity_of arcs e 0

pub capacity_fits : (arcs : List ℕ) (e : ℕ) → entry (capacities_of arcs) e < 65536
capacity_fits arcs e = omega (arith, capacity_at arcs e)
