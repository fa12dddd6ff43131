-- Sums over the numbers below a bound, and tests of all of them.
use mathlib.Core.Path.{◌≡◌, refl, ap, subst}
use mathlib.Core.Bool.{Bool}
use Prim.Native.Nat.{ℕ, zero, suc, ◌+◌, ◌*◌, ◌≤◌, ◌<◌}
use native.Mathlib.Nat.{add-zero, add-suc}
use native.Mathlib.Omega.{arith}
use native.Mathlib.Decide.{ℕ_discrete}
use lib.Dec.{T}
use Rattle.prelude.specs.Sums.{sum_to, all_to}
use Rattle.prelude.proofs.Booleans.{and_left, and_right, both}

-- ---- sums

pub sum_to_ext : (n : ℕ) (g h : ℕ → ℕ) → ((v : ℕ) → v < n → g v ≡ h v) → sum_to n g ≡ sum_to n h
unfolding sum_to
sum_to_ext zero g h e = refl
sum_to_ext (suc n) g h e = omega (arith, sum_to_ext n g h (λ v l. e v (omega arith)), e n (omega arith))

pub sum_to_add : (n : ℕ) (g h : ℕ → ℕ) → sum_to n (λ v. g v + h v) ≡ sum_to n g + sum_to n h
unfolding sum_to
sum_to_add zero g h = refl
sum_to_add (suc n) g h = omega (arith, sum_to_add n g h)

pub sum_to_none : (n : ℕ) (g : ℕ → ℕ) → ((v : ℕ) → v < n → g v ≡ 0) → sum_to n g ≡ 0
unfolding sum_to
sum_to_none zero g e = refl
sum_to_none (suc n) g e = omega (arith, sum_to_none n g (λ v l. e v (omega arith)), e n (omega arith))

-- 0 to h - 1, then h to h + k - 1
pub sum_to_split : (h k : ℕ) (g : ℕ → ℕ) → sum_to (h + k) g ≡ sum_to h g + sum_to k (λ i. g (h + i))
unfolding sum_to
sum_to_split h zero g = rw (add-zero h) (omega arith)
sum_to_split h (suc k) g = rw add-suc (omega (arith, sum_to_split h k g))

pub sum_to_le : (n : ℕ) (g h : ℕ → ℕ) → ((v : ℕ) → v < n → g v ≤ h v) → sum_to n g ≤ sum_to n h
unfolding sum_to
sum_to_le zero g h e = omega arith
sum_to_le (suc n) g h e = omega (arith, sum_to_le n g h (λ v l. e v (omega arith)), e n (omega arith))

-- strictly, where one is less
pub sum_to_less : (n : ℕ) (g h : ℕ → ℕ) (w : ℕ) → ((v : ℕ) → v < n → g v ≤ h v) → w < n → g w < h w → sum_to n g < sum_to n h
unfolding sum_to
sum_to_less zero g h w f l s = absurd (omega arith)
sum_to_less (suc n) g h w f l s = go (λ b. sum_to_less n g h w (λ v i. f v (omega arith)) b s) (ℕ_discrete w n)
  where
    go : (w < n → sum_to n g < sum_to n h) → Dec (w ≡ n) → sum_to n g + g n < sum_to n h + h n
    go rest (yes q) = omega (arith, sum_to_le n g h (λ v i. f v (omega arith)), ap g q, ap h q)
    go rest (no q) = omega (arith, rest (omega arith), f n (omega arith))

pub sum_to_same : (n c : ℕ) → sum_to n (λ v. c) ≡ c * n
unfolding sum_to
sum_to_same zero c = omega arith
sum_to_same (suc n) c = omega (arith, sum_to_same n c)

-- n numbers that are at most 1 and sum to n are all 1
pub sum_to_full : (n : ℕ) (g : ℕ → ℕ) → ((v : ℕ) → v < n → g v ≤ 1) → n ≤ sum_to n g → (v : ℕ) → v < n → g v ≡ 1
sum_to_full n g f s v h = go (ℕ_discrete (g v) 1)
  where
    go : Dec (g v ≡ 1) → g v ≡ 1
    go (yes q) = q
    go (no q) = absurd (omega (arith, sum_to_less n g (λ i. 1) v f h (omega (arith, f v h)), sum_to_same n 1))

-- ---- tests

pub all_to_at : (n : ℕ) (p : ℕ → Bool) → T (all_to n p) → (i : ℕ) → i < n → T (p i)
unfolding all_to
all_to_at zero p t i h = absurd (omega arith)
all_to_at (suc n) p t i h = go (all_to_at n p (and_left (all_to n p) (p n) t) i) (ℕ_discrete n i)
  where
    go : (i < n → T (p i)) → Dec (n ≡ i) → T (p i)
    go below (yes e) = subst (λ (k : ℕ). T (p k)) e (and_right (all_to n p) (p n) t)
    go below (no ne) = below (omega arith)

pub at_all_to : (n : ℕ) (p : ℕ → Bool) → ((i : ℕ) → i < n → T (p i)) → T (all_to n p)
unfolding all_to
at_all_to zero p h = tt
at_all_to (suc n) p h = both (all_to n p) (p n) (at_all_to n p (λ i b. h i (omega arith))) (h n (omega arith))
