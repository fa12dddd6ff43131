-- p is prime: antt divides it by every number from 2 to 46340, and a product of two factors above that is above p.
use mathlib.Core.Path.{◌≡◌, refl, sym, ◌∙◌, ap, subst}
use mathlib.Core.Logic.{◌⊎◌, inl, inr}
use mathlib.Core.Bool.{Bool, true, false}
use Prim.Native.Nat.{ℕ, zero, suc, ◌*◌, ◌%◌, ◌≤◌, ◌<◌}
use native.Mathlib.Nat.{mul-mod_right, mul_comm, mul-le-mul, eq-or-lt_of_le}
use native.Mathlib.Decide.{dec_le}
use native.Mathlib.Omega.{arith}
use lib.Dec.{T, eqb, eqb_refl, lit≤}
use Rattle.field.specs.Field.{Prime, p}

-- no number from 2 to n + 1 divides q: the test's cases wait in an `elim`, so that it is computed one division at a time
no_divisor : ℕ → ℕ → Bool
no_divisor q zero = true
no_divisor q (suc n) = elim (eqb (q % suc (suc n)) 0) [ true ↦ false | false ↦ no_divisor q n ]

-- what one step of the test says
passed : (b c : Bool) → T (elim b [ true ↦ false | false ↦ c ]) → (T b → ⊥) × T c
passed true c t = absurd t
passed false c t = (λ f. f, t)

-- the test, at one of them
no_divisor_at : (q n d : ℕ) → T (no_divisor q n) → 2 ≤ d → d ≤ suc n → q % d ≡ 0 → ⊥
unfolding no_divisor
no_divisor_at q zero d t two small e = omega arith
no_divisor_at q (suc n) d t two small e = go (eq-or-lt_of_le small) (λ less. no_divisor_at q n d here.1 two less e)
  where
    here : (T (eqb (q % suc (suc n)) 0) → ⊥) × T (no_divisor q n)
    here = passed (eqb (q % suc (suc n)) 0) (no_divisor q n) t

    go : (d ≡ suc (suc n)) ⊎ (d < suc (suc n)) → (d ≤ suc n → ⊥) → ⊥
    go (inl l) f = here.0 (subst (λ (k : ℕ). T (eqb k 0)) (sym (ap (λ (k : ℕ). q % k) (sym l) ∙ e)) (eqb_refl 0))
    go (inr l) f = f (omega arith)

-- where the test passes up to n + 1, and the square of what follows is above q, q is prime
trial : (q n : ℕ) → 2 ≤ q → T (no_divisor q n) → q < suc (suc n) * suc (suc n) → Prime q
trial q n two t square = record { two = two; only = only }
  where
    -- a factor of at least 2 is above the numbers tested
    big : (d e : ℕ) → d * e ≡ q → 2 ≤ d → suc (suc n) ≤ d
    big d e h more = go (dec_le (suc (suc n)) d)
      where
        go : Dec (suc (suc n) ≤ d) → suc (suc n) ≤ d
        go (yes l) = l
        go (no l) = absurd (no_divisor_at q n d t more (omega arith) (ap (λ (k : ℕ). k % d) (sym h) ∙ mul-mod_right d e))

    only : (d e : ℕ) → d * e ≡ q → (d ≡ 1) ⊎ (d ≡ q)
    only zero e h = absurd (omega arith)
    only (suc zero) e h = inl refl
    only (suc (suc d)) zero h = absurd (omega arith)
    only (suc (suc d)) (suc zero) h = inr (omega arith)
    only (suc (suc d)) (suc (suc e)) h =
        absurd (omega (
          arith,
          mul-le-mul
              (big (suc (suc d)) (suc (suc e)) h (omega arith))
              (big (suc (suc e)) (suc (suc d)) (mul_comm (suc (suc e)) (suc (suc d)) ∙ h) (omega arith)),
        ))

pub p_prime : Prime p
unfolding no_divisor
p_prime = trial p 46339 (lit≤ tt) tt (lit≤ tt)
