-- Arcs packed in one number each, and their columns.
use Rattle.std.specs.Prelude.{List, map, ℕ, ◌+◌, ◌*◌, ◌/◌, ◌%◌}

-- The number that packs an arc from a to b of cost c and capacity k.
abbrev pub packed_arc : ℕ → ℕ → ℕ → ℕ → ℕ
packed_arc a b c k = a + 256 * b + 65536 * c + 4294967296 * k

-- The vertex that the arc leads from.
abbrev pub tail_of : ℕ → ℕ
tail_of k = k % 256

-- The vertex that it leads to.
abbrev pub head_of : ℕ → ℕ
head_of k = k / 256 % 256

-- Its cost.
abbrev pub cost_of : ℕ → ℕ
cost_of k = k / 65536 % 65536

-- Its capacity.
abbrev pub capacity_of : ℕ → ℕ
capacity_of k = k / 4294967296 % 65536

-- The column of tails.
abbrev pub tails_of : List ℕ → List ℕ
tails_of arcs = map tail_of arcs

-- The column of heads.
abbrev pub heads_of : List ℕ → List ℕ
heads_of arcs = map head_of arcs

-- The column of costs.
abbrev pub costs_of : List ℕ → List ℕ
costs_of arcs = map cost_of arcs

-- The column of capacities.
abbrev pub capacities_of : List ℕ → List ℕ
capacities_of arcs = map capacity_of arcs
