-- The ranges of node numbers (PANEL 5, check 10): the table that the code has, as a definition.
use Rattle.std.specs.Prelude.{Bool, ◌&&◌, List, [], ◌∷◌, ℕ, eqb, ℤ, pos, neg_ℤ}
use Rattle.prelude.specs.Integers.{between}
use Rattle.prelude.specs.Lists.{any}
use Rattle.ranges.specs.declared.Range.{Range}

-- A row of the table: the question and the claim by their numbers, the lowest and the highest node number.
pub record NodeRange : Type 0 where
  pub question : ℕ
  pub claim : ℕ
  pub low : ℤ
  pub high : ℤ

-- The row of these four.
abbrev pub range : ℕ → ℕ → ℤ → ℤ → NodeRange
range q k l h = record { question = q; claim = k; low = l; high = h }

-- The table (PANEL 5), in the order of its rows there.
abbrev pub node_ranges : List NodeRange
node_ranges =
    range 1 1 (neg_ℤ (pos 8322818)) (pos 8322818)
    ∷ range 1 2 (pos 0) (pos 1)
    ∷ range 2 1 (pos 0) (pos 1)
    ∷ range 3 1 (neg_ℤ (pos 8322818)) (pos 8322818)
    ∷ range 3 2 (pos 0) (pos 1)
    ∷ range 4 1 (neg_ℤ (pos 8322818)) (pos 8322818)
    ∷ range 4 2 (pos 0) (pos 0)
    ∷ []

-- Past the end of the table: a row that no index below 7 finds.
abbrev pub no_range : NodeRange
no_range = range 0 0 (pos 0) (pos 0)

-- Is the row for the question q and the claim k?
abbrev pub is_for : ℕ → ℕ → NodeRange → Bool
is_for q k r = eqb q r.question && eqb k r.claim

-- Is it that, and is z in its range?
abbrev pub covers : ℕ → ℕ → ℤ → NodeRange → Bool
covers q k z r = is_for q k r && between r.low r.high z

-- Is there a row for the question q and the claim k with z in its range (PANEL 6, check 10)?
unfoldable pub in_table : ℕ → ℕ → ℤ → Bool
in_table q k z = any (covers q k z) node_ranges

-- A row as the code holds it.
abbrev pub range_held : Range → NodeRange
range_held r = range r.0 r.1 r.2 r.3
