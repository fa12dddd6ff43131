-- Lists of numbers: their entries and the sum of them, zeros and how many there are, and the sum of amounts at a vertex.
use Rattle.std.specs.Prelude.{List, [], ◌∷◌, ℕ, zero, suc, ◌+◌, ◌*◌, eqb, get_or, replicate}
use Rattle.prelude.specs.Choice.{indicator}

-- The entry of a list of numbers at the index i, 0 past the end.
abbrev pub entry : List ℕ → ℕ → ℕ
entry l i = get_or l i 0

-- n zeros.
abbrev pub zero_list : ℕ → List ℕ
zero_list n = replicate n 0

-- How many entries are 0.
unfoldable pub zero_count : List ℕ → ℕ
zero_count [] = 0
zero_count (zero ∷ l) = 1 + zero_count l
zero_count (suc a ∷ l) = zero_count l

-- The sum of the entries.
unfoldable pub sum : List ℕ → ℕ
sum [] = 0
sum (a ∷ l) = a + sum l

-- The sum of x over the arcs whose vertex in the column is w.
unfoldable pub flow_at : List ℕ → List ℕ → ℕ → ℕ
flow_at [] xs w = 0
flow_at (a ∷ l) [] w = 0
flow_at (a ∷ l) (x ∷ xs) w = indicator (eqb a w) * x + flow_at l xs w
