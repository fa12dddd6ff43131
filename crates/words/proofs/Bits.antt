-- Bits of a word: one bit in its place, and the ones of a range of bits, as a sum.
use mathlib.Core.Path.{◌≡◌, refl, sym, ◌∙◌, ap}
use Prim.Native.Nat.{ℕ, zero, suc, ◌+◌, ◌-◌, ◌*◌, ◌/◌, ◌%◌, ◌^◌, ◌≤◌, ◌<◌}
use native.Mathlib.Nat.{one-mul, mod-eq_of_lt, mod-lt, lt_of_le_of_lt, add-zero}
use native.Mathlib.Decide.{dec_le}
use native.Mathlib.Omega.{arith}
use lib.Dec.{T, ltb, ltb→lt, lit<}
use lib.Pow.{pow-lt, pow_pos, mod-pow-add, shr-shr}
use lib.Bits.{bit_and, and_zero_r, and_le_r, and_mask, and_high}
use lib.Count.{ones, ones_cat}
use Rattle.prelude.specs.Sums.{sum_to}
use Rattle.prelude.proofs.Sums.{sum_to_ext}

pub low1 : (n : ℕ) → bit_and n 1 ≡ n % 2
low1 n = and_mask n 1

-- for `search (and_lit, tt)`, whatever the mask's literal is
pub and_lit : (a m n : ℕ) → T (ltb m n) → bit_and a m < n
and_lit a m n t = lt_of_le_of_lt (and_le_r a m) (ltb→lt m n t)

-- one bit, shifted to its place in a word
pub bit : (k : ℕ) → k < 64 → (1 * 2 ^ k) % 18446744073709551616 ≡ 2 ^ k
bit k h = rw (one-mul (2 ^ k)) (mod-eq_of_lt (pow-lt {i = k} {j = 64} h))

-- ---- the ones of a range of bits

ones_bit : (b : ℕ) → b < 2 → ones b ≡ b
unfolding ones
ones_bit zero h = refl
ones_bit (suc zero) h = refl
ones_bit (suc (suc b)) h = absurd (omega arith)

ones_first : (v d : ℕ) → ones (v % 2 ^ d) ≡ sum_to d (λ i. v / 2 ^ i % 2)
unfolding sum_to
ones_first v zero = let e : v % 1 ≡ 0 = omega arith in ap ones e ∙ ones_bit 0 (lit< tt)
ones_first v (suc d) =
    let e : suc d ≡ 1 + d = omega arith in
    ap (λ (k : ℕ). ones (v % 2 ^ k)) e ∙ ap ones (mod-pow-add v 1 d)
    ∙ ones_cat d (v / 2 ^ d % 2) (v % 2 ^ d) (mod-lt v (pow_pos d))
    ∙ omega (arith, ones_bit (v / 2 ^ d % 2) (mod-lt (v / 2 ^ d) {m = 2} (lit< tt)), ones_first v d)

ones_from : (v a j : ℕ) → ones (bit_and v (2 ^ (j + a) - 2 ^ a)) ≡ sum_to j (λ i. v / 2 ^ (a + i) % 2)
ones_from v a j =
    ap ones (and_high v j a ∙ sym (add-zero _))
    ∙ ones_cat a (v / 2 ^ a % 2 ^ j) 0 (pow_pos a)
    ∙ omega (arith, ones_bit 0 (lit< tt), ones_first (v / 2 ^ a) j)
    ∙ sum_to_ext j (λ i. v / 2 ^ a / 2 ^ i % 2) (λ i. v / 2 ^ (a + i) % 2) (λ i h. ap (λ (k : ℕ). k % 2) (shr-shr v a i))

-- the bits from a to b - 1
pub ones_range : (v a b : ℕ) → ones (bit_and v (2 ^ b - 2 ^ a)) ≡ sum_to (b - a) (λ i. v / 2 ^ (a + i) % 2)
unfolding sum_to
ones_range v a b = by (dec_le a b)
  where
    by : Dec (a ≤ b) → ones (bit_and v (2 ^ b - 2 ^ a)) ≡ sum_to (b - a) (λ i. v / 2 ^ (a + i) % 2)
    by (yes h) = let e : b ≡ b - a + a = omega arith in ap (λ (k : ℕ). ones (bit_and v (2 ^ k - 2 ^ a))) e ∙ ones_from v a (b - a)
    by (no h) =
        let l : b < a = omega arith in
        let e : 2 ^ b - 2 ^ a ≡ 0 = omega (arith, pow-lt l) in
        let z : b - a ≡ 0 = omega arith in
        rw (e, z) (ap ones (and_zero_r v) ∙ ones_bit 0 (lit< tt))
