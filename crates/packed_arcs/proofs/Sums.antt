-- The sum of a list's entries, where one entry changes.
use mathlib.Core.Path.{◌≡◌}
use mathlib.Core.List.{List, [], ◌∷◌}
use Prim.Native.Nat.{ℕ, zero, suc, ◌+◌, ◌<◌, ◌≤◌}
use native.Mathlib.Omega.{arith}
use lib.ListN.{length, set}
use Rattle.packed_arcs.specs.Entries.{entry, zero_list, sum}

pub sum_none : (n : ℕ) → sum (zero_list n) ≡ 0
unfolding sum
sum_none zero = omega arith
sum_none (suc n) = omega (arith, sum_none n)

pub sum_at : (l : List ℕ) (i k : ℕ) → i < length l → sum (set l i k) + entry l i ≡ sum l + k
unfolding sum
sum_at [] i k h = absurd (omega arith)
sum_at (a ∷ l) zero k h = omega arith
sum_at (a ∷ l) (suc i) k h = omega (arith, sum_at l i k (omega arith))

-- a lower entry, a lower sum
pub sum_set : (l : List ℕ) (i k : ℕ) → i < length l → k < entry l i → sum (set l i k) < sum l
sum_set l i k h g = omega (arith, sum_at l i k h)

pub entry_sum : (l : List ℕ) (i : ℕ) → entry l i ≤ sum l
unfolding sum
entry_sum [] i = omega arith
entry_sum (a ∷ l) zero = omega arith
entry_sum (a ∷ l) (suc i) = omega (arith, entry_sum l i)
