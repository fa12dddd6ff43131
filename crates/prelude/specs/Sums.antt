-- Sums and counts over the numbers below a bound.
use Rattle.std.specs.Prelude.{Bool, true, ◌&&◌, ℕ, zero, suc, ◌+◌, ℤ, pos, ◌+ℤ◌}
use Rattle.prelude.specs.Choice.{indicator}

-- g 0 + … + g (n - 1).
unfoldable pub sum_to : ℕ → (ℕ → ℕ) → ℕ
sum_to zero g = 0
sum_to (suc n) g = sum_to n g + g n

-- The same sum of integers.
unfoldable pub sum_to_ℤ : ℕ → (ℕ → ℤ) → ℤ
sum_to_ℤ zero g = pos 0
sum_to_ℤ (suc n) g = sum_to_ℤ n g +ℤ g n

-- How many numbers below n pass the test.
abbrev pub count : (ℕ → Bool) → ℕ → ℕ
count p n = sum_to n (λ i. indicator (p i))

-- How many pairs of numbers below n pass the test, pairs of equal numbers among them.
abbrev pub count_pairs : (ℕ → ℕ → Bool) → ℕ → ℕ
count_pairs p n = sum_to n (λ i. count (p i) n)

-- The test holds of every number below n.
unfoldable pub all_to : ℕ → (ℕ → Bool) → Bool
all_to zero p = true
all_to (suc n) p = all_to n p && p n
