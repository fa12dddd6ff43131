-- Numbered checks, one after the other: the first that does not hold decides (PANEL 6).
use Rattle.std.specs.Prelude.{Bool, List, [], ◌∷◌, ℕ, T}
use Rattle.prelude.specs.Choice.{pick}

infix 68 ◌unless◌
-- The refusal k, unless the test holds.
pub data Check : Type 0 where
  ◌unless◌ : ℕ → Bool → Check

-- What a refusal gives at the first check that does not hold, and the value where all hold.
abbrev pub settle : {A : Type 0} → (ℕ → A) → List Check → A → A
settle refuse [] v = v
settle refuse ((k unless ok) ∷ cs) v = pick ok (settle refuse cs v) (refuse k)

-- The number of the first check that does not hold, and 0 where all hold.
abbrev pub first_broken : List Check → ℕ
first_broken cs = settle (λ k. k) cs 0

-- Every check holds.
abbrev pub Hold : List Check → Type 0
Hold [] = Unit {0}
Hold ((k unless ok) ∷ cs) = T ok × Hold cs
