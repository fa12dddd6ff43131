-- Polynomials modulo a prime: one with n coefficients and n different roots is 0 everywhere.
-- A polynomial is the list of its coefficients, lowest first, on top of a last coefficient `top`: 0 for any polynomial, 1 for a monic one.
-- Its value is not reduced, so that equations between values hold over the natural numbers.
use mathlib.Core.Path.{◌≡◌, refl, sym, ap, subst}
use mathlib.Core.Logic.{◌⊎◌, inl, inr}
use mathlib.Core.List.{List, [], ◌∷◌}
use Prim.Native.Nat.{ℕ, suc, ◌+◌, ◌*◌, ◌-◌, ◌≤◌, ◌<◌}
use native.Mathlib.Nat.{le_of_suc-le-suc, not-suc-le-zero}
use native.Mathlib.Omega.{arith}
use lib.ListN.{length}
use Rattle.prelude.specs.Lists.{Every, Distinct}
use Rattle.prelude.proofs.Lists.{every_zip}
use Rattle.field.specs.Field.{Prime, factor}
use Rattle.field.proofs.Modular.{Congruent, by, same, back, ◌⨾◌, add, mul, zeros, equal, euclid}

-- the polynomial's value at x, by Horner's rule
abbrev pub value : ℕ → List ℕ → ℕ → ℕ
value top [] x = top
value top (c ∷ cs) x = c + x * value top cs x

-- the quotient of c ∷ cs by x - a, whatever c is
quotient : ℕ → List ℕ → List ℕ
quotient a [] = []
quotient a (c ∷ cs) = value 0 (c ∷ cs) a ∷ quotient a cs

length_quotient : (a : ℕ) (cs : List ℕ) → length (quotient a cs) ≡ length cs
unfolding quotient
length_quotient a [] = refl
length_quotient a (c ∷ cs) = ap suc (length_quotient a cs)

-- f(x) = (x - a) g(x) + f(a), with no subtraction
divided : (c : ℕ) (cs : List ℕ) (a x : ℕ) → value 0 (c ∷ cs) x + a * value 0 (quotient a cs) x ≡ x * value 0 (quotient a cs) x + value 0 (c ∷ cs) a
unfolding quotient
divided c [] a x = omega arith
divided c (d ∷ ds) a x = omega (arith, ap (λ (n : ℕ). x * n) (divided d ds a x))

module _ {q : ℕ} (prime : Prime q) where
  -- r - k is 0 modulo q only where r is k
  pub factor_zero : (r k : ℕ) → r < q → k < q → Congruent q (factor q r k) 0 → r ≡ k
  factor_zero r k hr hk h =
      let e : r + (q - k) + k ≡ r + q * 1 = omega arith in
      equal hr hk (back (add (same r) (zeros 1) ⨾ by (omega arith)) ⨾ by (sym e) ⨾ add h (same k) ⨾ by (omega arith))

  -- a root other than a is a root of the quotient
  next_root :
      (c : ℕ) (cs : List ℕ) (a r : ℕ) → a < q → Congruent q (value 0 (c ∷ cs) a) 0 → ¬ (a ≡ r) → r < q → Congruent q (value 0 (c ∷ cs) r) 0
      → Congruent q (value 0 (quotient a cs) r) 0
  next_root c cs a r ha root ne hr h = go (euclid prime (factor q r a) g product)
    where
      g : ℕ
      g = value 0 (quotient a cs) r

      -- r g and a g are congruent
      level : Congruent q (r * g) (a * g)
      level =
          back (add (same (r * g)) root ⨾ by (omega arith))
          ⨾ by (sym (divided c cs a r))
          ⨾ add h (same (a * g))
          ⨾ by (omega arith)

      product : Congruent q (factor q r a * g) 0
      product =
          let e : (q - a) + a ≡ q = omega arith in
          by (omega arith)
          ⨾ add level (same ((q - a) * g))
          ⨾ by (omega (arith, ap (λ (n : ℕ). n * g) e))
          ⨾ zeros g

      go : Congruent q (factor q r a) 0 ⊎ Congruent q g 0 → Congruent q g 0
      go (inl z) = absurd (ne (sym (factor_zero r a hr ha z)))
      go (inr z) = z

  -- f(x) is 0 where x - a divides f with a quotient that is 0 at x
  of_quotient : (c : ℕ) (cs : List ℕ) (a x : ℕ) → Congruent q (value 0 (c ∷ cs) a) 0 → Congruent q (value 0 (quotient a cs) x) 0 → Congruent q (value 0 (c ∷ cs) x) 0
  of_quotient c cs a x root z =
      back (add (same (value 0 (c ∷ cs) x)) (mul (same a) z) ⨾ by (omega arith))
      ⨾ by (divided c cs a x)
      ⨾ add (mul (same x) z) root
      ⨾ by (omega arith)

  -- a polynomial with at most as many coefficients as there are different roots is 0 everywhere
  pub all_zero :
      (rs f : List ℕ) → length f ≤ length rs → Distinct rs → Every (λ r. (r < q) × Congruent q (value 0 f r) 0) rs → (x : ℕ) → Congruent q (value 0 f x) 0
  all_zero [] [] long d h x = same 0
  all_zero [] (c ∷ cs) long d h x = absurd (not-suc-le-zero long)
  all_zero (a ∷ rs) [] long d h x = same 0
  all_zero (a ∷ rs) (c ∷ cs) long d h x =
      of_quotient c cs a x h.0.1
      (all_zero rs (quotient a cs) (subst (λ (n : ℕ). n ≤ length rs) (sym (length_quotient a cs)) (le_of_suc-le-suc long)) d.1
      (every_zip
      (λ r (ne : ¬ (a ≡ r)) (w : (r < q) × Congruent q (value 0 (c ∷ cs) r) 0). (w.0, next_root c cs a r h.0.0 h.0.1 ne w.0 w.1)) rs d.0 h.1)
      x)
