-- How many entries of a list are 0, after one was set.
use mathlib.Core.Path.{◌≡◌, refl}
use mathlib.Core.List.{List, [], ◌∷◌}
use Prim.Native.Nat.{ℕ, zero, suc, ◌+◌, ◌<◌}
use native.Mathlib.Omega.{arith}
use lib.ListN.{length, set}
use Rattle.packed_arcs.specs.Entries.{entry, zero_list, zero_count}

pub zeros_all : (n : ℕ) → zero_count (zero_list n) ≡ n
unfolding zero_count
zeros_all zero = refl
zeros_all (suc n) = omega (arith, zeros_all n)

-- one fewer, where a 0 is set to another number
pub zeros_fewer : (l : List ℕ) (i k : ℕ) → i < length l → entry l i ≡ 0 → 0 < k → zero_count (set l i k) + 1 ≡ zero_count l
unfolding zero_count
zeros_fewer [] i k h q p = absurd (omega arith)
zeros_fewer (zero ∷ l) zero zero h q p = absurd (omega arith)
zeros_fewer (zero ∷ l) zero (suc k) h q p = omega arith
zeros_fewer (suc a ∷ l) zero k h q p = absurd (omega arith)
zeros_fewer (zero ∷ l) (suc i) k h q p = omega (arith, zeros_fewer l i k (omega arith) q p)
zeros_fewer (suc a ∷ l) (suc i) k h q p = zeros_fewer l i k (omega arith) q p

-- one more, where another number is set to 0
pub zeros_more : (l : List ℕ) (i : ℕ) → i < length l → 0 < entry l i → zero_count (set l i 0) ≡ zero_count l + 1
unfolding zero_count
zeros_more [] i h p = absurd (omega arith)
zeros_more (zero ∷ l) zero h p = absurd (omega arith)
zeros_more (suc a ∷ l) zero h p = omega arith
zeros_more (zero ∷ l) (suc i) h p = omega (arith, zeros_more l i (omega arith) p)
zeros_more (suc a ∷ l) (suc i) h p = zeros_more l i (omega arith) p
