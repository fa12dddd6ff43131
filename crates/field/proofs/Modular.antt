-- Numbers modulo q: sums and products of congruent numbers, and Euclid's lemma.
-- `Congruent q a b` is a record, so that the numbers can be implicit arguments of the laws. A rearrangement of sums and products is
-- `by (omega arith)`. Values are not reduced and none is negative: -b is (q - 1) * b.
use mathlib.Core.Path.{◌≡◌, refl, sym, ◌∙◌, ap}
use mathlib.Core.Logic.{◌⊎◌, inl, inr}
use Prim.Native.Nat.{ℕ, zero, suc, ◌+◌, ◌*◌, ◌-◌, ◌%◌, ◌/◌, ◌≤◌, ◌<◌}
use native.Mathlib.Nat.{add-mod, mod-add-div, mul-mod_right, mod-lt, mod-eq_of_lt, mul_comm, zero-mod, eq-zero-or-pos, le_refl}
use native.Mathlib.Omega.{arith}
use Rattle.field.specs.Field.{Prime}

-- a and b have the same residue modulo q
pub record Congruent (q a b : ℕ) : Type 0 where
  pub residues : a % q ≡ b % q

module _ {q : ℕ} where
  infixl 40 ◌⨾◌
  pub by : {a b : ℕ} → a ≡ b → Congruent q a b
  by e = record { residues = ap (λ (n : ℕ). n % q) e }

  pub same : (a : ℕ) → Congruent q a a
  same a = record { residues = refl }

  pub back : {a b : ℕ} → Congruent q a b → Congruent q b a
  back h = record { residues = sym h.residues }

  pub ◌⨾◌ : {a b c : ℕ} → Congruent q a b → Congruent q b c → Congruent q a c
  ◌⨾◌ h k = record { residues = h.residues ∙ k.residues }

  pub add : {a b c d : ℕ} → Congruent q a b → Congruent q c d → Congruent q (a + c) (b + d)
  add {a} {b} {c} {d} h k =
      record { residues = add-mod a c q ∙ ap (λ (n : ℕ). (n + c % q) % q) h.residues ∙ ap (λ (n : ℕ). (b % q + n) % q) k.residues ∙ sym (add-mod b d q) }

  -- a multiple of q
  pub zeros : (z : ℕ) → Congruent q (q * z) 0
  zeros z = record { residues = mul-mod_right q z ∙ sym (zero-mod q) }

  pub reduced : (a : ℕ) → Congruent q (a % q) a
  reduced a = back (by (sym (mod-add-div a q)) ⨾ add (same (a % q)) (zeros (a / q)) ⨾ by (omega arith))

  mul_left : {a b : ℕ} (c : ℕ) → Congruent q a b → Congruent q (a * c) (b * c)
  mul_left {a} {b} c h = out a ⨾ by (ap (λ (n : ℕ). n * c) h.residues) ⨾ back (out b)
    where
      out : (a : ℕ) → Congruent q (a * c) (a % q * c)
      out a =
          by (ap (λ (n : ℕ). n * c) (sym (mod-add-div a q)) ∙ distribute (a % q) (a / q))
          ⨾ add (same (a % q * c)) (zeros (a / q * c))
          ⨾ by (omega arith)
        where
          distribute : (r z : ℕ) → (r + q * z) * c ≡ r * c + q * (z * c)
          distribute r z = omega arith

  pub mul : {a b c d : ℕ} → Congruent q a b → Congruent q c d → Congruent q (a * c) (b * d)
  mul {a} {b} {c} {d} h k = mul_left c h ⨾ by (mul_comm b c) ⨾ mul_left b k ⨾ by (mul_comm d b)

  -- b and (q - 1) b are q b together
  fill : 1 ≤ q → (b : ℕ) → b + (q - 1) * b ≡ q * b
  fill one b =
      let e : 1 + (q - 1) ≡ q = omega arith in
      let f : b + (q - 1) * b ≡ (1 + (q - 1)) * b = omega arith in
      f ∙ ap (λ (n : ℕ). n * b) e

  -- a - b is a + (q - 1) b: a multiple of q exactly where a and b are congruent
  pub minus : 1 ≤ q → {a b : ℕ} → Congruent q a b → Congruent q (a + (q - 1) * b) 0
  minus one {a} {b} h = add h (same ((q - 1) * b)) ⨾ by (fill one b) ⨾ zeros b

  pub unminus : 1 ≤ q → {a b : ℕ} → Congruent q (a + (q - 1) * b) 0 → Congruent q a b
  unminus one {a} {b} h =
      back (add (same a) (zeros b) ⨾ by (omega arith))
      ⨾ by (ap (λ (n : ℕ). a + n) (sym (fill one b)) ∙ omega arith)
      ⨾ add h (same b)
      ⨾ by (omega arith)

  -- congruent numbers below q are equal
  pub equal : {a b : ℕ} → a < q → b < q → Congruent q a b → a ≡ b
  equal ha hb h = sym (mod-eq_of_lt ha) ∙ h.residues ∙ mod-eq_of_lt hb

  -- q % c is not 0 where c is neither 1 nor q, and what makes c b a multiple of q makes (q % c) b one
  remainder : Prime q → (b c : ℕ) → 1 < c → c < q → Congruent q (c * b) 0 → (0 < q % c) × Congruent q (q % c * b) 0
  remainder prime b c more less h = (positive (eq-zero-or-pos (q % c)), smaller)
    where
      whole : q % c + c * (q / c) ≡ q
      whole = mod-add-div q c

      positive : (q % c ≡ 0) ⊎ (0 < q % c) → 0 < q % c
      positive (inr pos) = pos
      positive (inl e) = absurd (neither (prime.only c (q / c) (omega (arith, whole))))
        where
          neither : (c ≡ 1) ⊎ (c ≡ q) → ⊥
          neither (inl e) = omega arith
          neither (inr e) = omega arith

      rearranged : (r t : ℕ) → (r + c * t) * b ≡ r * b + t * (c * b)
      rearranged r t = omega arith

      smaller : Congruent q (q % c * b) 0
      smaller =
          back (add (same (q % c * b)) (mul (same (q / c)) h) ⨾ by (omega arith))
          ⨾ by (sym (rearranged (q % c) (q / c)) ∙ ap (λ (n : ℕ). n * b) whole)
          ⨾ zeros b

  -- Gauss's proof of Euclid's lemma, by recursion on a bound of a: q % a is a smaller factor, and not 0
  gauss : Prime q → (b n a : ℕ) → a ≤ n → 0 < a → a < q → Congruent q (a * b) 0 → Congruent q b 0
  gauss prime b zero a small pos less h = absurd (omega arith)
  gauss prime b (suc n) zero small pos less h = absurd (omega arith)
  gauss prime b (suc n) (suc zero) small pos less h = by (omega arith) ⨾ h
  gauss prime b (suc n) (suc (suc a)) small pos less h =
      let r : (0 < q % suc (suc a)) × Congruent q (q % suc (suc a) * b) 0 = remainder prime b (suc (suc a)) (omega arith) less h in
      let l : q % suc (suc a) < suc (suc a) = mod-lt q (omega arith) in
      gauss prime b n (q % suc (suc a)) (omega arith) r.0 (omega arith) r.1

  -- a prime that divides a product divides one of the two
  pub euclid : Prime q → (a b : ℕ) → Congruent q (a * b) 0 → Congruent q a 0 ⊎ Congruent q b 0
  euclid prime a b h = go (eq-zero-or-pos (a % q))
    where
      go : (a % q ≡ 0) ⊎ (0 < a % q) → Congruent q a 0 ⊎ Congruent q b 0
      go (inl e) = inl (back (reduced a) ⨾ by e)
      go (inr pos) = inr (gauss prime b (a % q) (a % q) (le_refl (a % q)) pos (mod-lt a (let t = prime.two in omega arith)) (mul (reduced a) (same b) ⨾ h))
