-- What the loops of finishing reach: the test of every vertex, and sums of node numbers, each of which fits 32 bits.
use mathlib.Core.Path.{◌≡◌, ◌∙◌, ap, subst}
use mathlib.Core.Bool.{Bool, true, false}
use mathlib.Core.List.{List, [], ◌∷◌}
use Prim.Native.Nat.{ℕ, zero, suc, ◌+◌, ◌-◌, ◌*◌, ◌≤◌, ◌<◌, ◌^◌}
use native.Mathlib.Nat.{zero-add}
use native.Mathlib.Numerals.{add-one}
use native.Mathlib.Omega.{arith}
use lib.Dec.{T, leb, le→leb}
use lib.IntN.{ℤ, pos, negsuc, ◌-ℤ◌}
use lib.Signed.{mag}
use mir.Syntax.{w32}
use mir.Val.{Val}
use denote.Array.{each}
use denote.Shadow.{shadow}
use denote.Signed.{SInt}
use Rattle.words.specs.Bounded.{small, bounded_sum, bounded_difference}
use Rattle.prelude.specs.Lists.{at}
use Rattle.prelude.specs.Sums.{sum_to_ℤ, all_to}
use Rattle.prelude.proofs.Booleans.{both, fails}
use Rattle.words.proofs.Signs.{mag_add, plus_small, minus_small}
use Rattle.prelude.proofs.Sums.{all_to_at}

-- ---- the test of every vertex

module _ (p : ℕ → Bool) where
  pub all_more : (k : ℕ) → T (all_to k p) → T (p k) → T (all_to (k + 1) p)
  unfolding all_to
  all_more k a b = rw add-one (both (all_to k p) (p k) a b)

  pub all_fails : (k n : ℕ) → k < n → p k ≡ false → all_to n p ≡ false
  all_fails k n h e = fails (all_to n p) (λ t. subst T e (all_to_at n p t k h))

-- ---- sums of node numbers

-- the numbers of an array of i32, 0 past its end
pub each_sized : (ys : List ℤ) (us : List Val) → shadow (each ℤ (SInt w32).own_val ys us) → (i : ℕ) → mag (at ys i) < 2 ^ 31
each_sized [] us p i = omega arith
each_sized (y ∷ ys) [] p i = absurd p
each_sized (y ∷ ys) (u ∷ us) p zero = p.0.1
each_sized (y ∷ ys) (u ∷ us) p (suc i) = each_sized ys us p.1 i

mag_small : (z : ℤ) → mag z < 2305843009213693952 → T (small z)
mag_small (pos k) h = le→leb k 2305843009213693952 (omega arith)
mag_small (negsuc k) h = both (leb k 2305843009213693951) true (le→leb k 2305843009213693951 (omega arith)) tt

sum_sized : (g : ℕ → ℤ) → ((i : ℕ) → mag (g i) < 2 ^ 31) → (n : ℕ) → mag (sum_to_ℤ n g) ≤ n * 2 ^ 31
unfolding sum_to_ℤ
sum_sized g sized zero = omega arith
sum_sized g sized (suc n) = omega (arith, sum_sized g sized n, sized n, mag_add (sum_to_ℤ n g) (g n))

module _ (ys : List ℤ) (sized : (i : ℕ) → mag (at ys i) < 2 ^ 31) where
  -- the sum of n numbers from the index k on
  sum_small : (k n : ℕ) → n ≤ 255 → T (small (sum_to_ℤ n (λ i. at ys (k + i))))
  sum_small k n h = mag_small (sum_to_ℤ n (λ i. at ys (k + i))) (omega (arith, sum_sized (λ i. at ys (k + i)) (λ i. sized (k + i)) n))

  -- one number more
  pub sum_more : (low v : ℕ) (s r : ℤ) → low ≤ v → v < 255 → s ≡ sum_to_ℤ (v - low) (λ i. at ys (low + i)) → r ≡ bounded_sum s (at ys v)
      → r ≡ sum_to_ℤ (v + 1 - low) (λ i. at ys (low + i))
  unfolding sum_to_ℤ
  sum_more low v s r h l e f =
      let more : v + 1 - low ≡ suc (v - low) = omega arith in
      let last : low + (v - low) ≡ v = omega arith in
      let total = sum_to_ℤ (v - low) (λ i. at ys (low + i)) in
      let one = mag_small (at ys v) (omega (arith, sized v)) in
      rw (more, last) (f ∙ ap (λ (z : ℤ). bounded_sum z (at ys v)) e ∙ plus_small total (at ys v) (sum_small low (v - low) (omega arith)) one)

  -- the first h numbers from the k after them
  pub difference : (h k : ℕ) → h ≤ 255 → k ≤ 255 → (r : ℤ) → r ≡ bounded_difference (sum_to_ℤ k (λ i. at ys (h + i))) (sum_to_ℤ h (λ i. at ys (0 + i)))
      → r ≡ sum_to_ℤ k (λ i. at ys (h + i)) -ℤ sum_to_ℤ h (at ys)
  difference h k p q r e =
      let start : sum_to_ℤ h (λ i. at ys (0 + i)) ≡ sum_to_ℤ h (at ys) = simp zero-add in
      e ∙ minus_small (sum_to_ℤ k (λ i. at ys (h + i))) (sum_to_ℤ h (λ i. at ys (0 + i))) (sum_small h k q) (sum_small 0 h p) ∙ ap (λ (z : ℤ). sum_to_ℤ k (λ i. at ys (h + i)) -ℤ z) start
