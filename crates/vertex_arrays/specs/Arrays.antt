-- The balances of the vertices, as a list: an amount that moves along an arc.
use Rattle.std.specs.Prelude.{List, ℕ, ℤ, pos, set}
use Rattle.prelude.specs.Lists.{at}
use Rattle.words.specs.Bounded.{bounded_sum, bounded_difference}

-- The balances with x added at the vertex v.
abbrev pub added_at : List ℤ → ℕ → ℕ → List ℤ
added_at l v x = set l v (bounded_sum (at l v) (pos x))

-- The balances with x taken off at the vertex v.
abbrev pub taken_at : List ℤ → ℕ → ℕ → List ℤ
taken_at l v x = set l v (bounded_difference (at l v) (pos x))

-- The amount x on an arc (PANEL 6, a repeated channel): added at the tail a, and then taken off at the head b.
unfoldable pub moved : List ℤ → ℕ → ℕ → ℕ → List ℤ
moved l a b x = taken_at (added_at l a x) b x
