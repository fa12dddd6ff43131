-- Meetings: where two products of two factors each agree modulo p. Their difference is a line in R8, a constant in R9.
use mathlib.Core.Path.{◌≡◌, refl, ◌∙◌, ap}
use mathlib.Core.Logic.{inl}
use Prim.Native.Nat.{ℕ, ◌+◌, ◌*◌, ◌-◌, ◌%◌, ◌<◌}
use native.Mathlib.Omega.{arith}
use lib.Dec.{lit≤}
use Rattle.field.specs.Field.{p, product}
use Rattle.worked_examples.specs.Table.{R8, R9, MeetingYields}

-- a (a + 3) and (a + 2)² differ by a + 4
line : (a : ℕ) → (a + 3) * (a * 1) % p ≡ (a + 2) * ((a + 2) * 1) % p → (a + 4) % p ≡ 0
line a e = step (a * a + 3 * a) (a + 4) (ap (λ (n : ℕ). n % p) (omega arith) ∙ e ∙ ap (λ (n : ℕ). n % p) (omega arith))
  where
    step : (x d : ℕ) → x % p ≡ (x + d) % p → d % p ≡ 0
    step x d e = omega arith

-- a (a + 2) and (a + 1)² differ by 1
constant : (a : ℕ) → (a + 2) * (a * 1) % p ≡ (a + 1) * ((a + 1) * 1) % p → ⊥
constant a e = step (a * a + 2 * a) (ap (λ (n : ℕ). n % p) (omega arith) ∙ e ∙ ap (λ (n : ℕ). n % p) (omega arith))
  where
    step : (x : ℕ) → x % p ≡ (x + 1) % p → ⊥
    step x e = omega arith

-- the keys are 32770 and 32773, 32771 twice; a is r - 32773
r8_line : (r : ℕ) → r < p → (r + (p - 32770)) * ((r + (p - 32773)) * 1) % p ≡ (r + (p - 32771)) * ((r + (p - 32771)) * 1) % p → r ≡ 32769
r8_line r h e = omega (arith, line (r + 2147450874) (ap (λ (n : ℕ). n % p) (omega arith) ∙ e ∙ ap (λ (n : ℕ). n % p) (omega arith)))

pub r8_yields : MeetingYields R8
unfolding product
r8_yields = record { there = ((lit≤ tt, refl), tt); nowhere_else = λ r h. inl (r8_line r h.0 h.1) }

-- the keys are 32770 and 32772, 32771 twice; a is r - 32772
r9_constant : (r : ℕ) → (r + (p - 32770)) * ((r + (p - 32772)) * 1) % p ≡ (r + (p - 32771)) * ((r + (p - 32771)) * 1) % p → ⊥
r9_constant r e = constant (r + 2147450875) (ap (λ (n : ℕ). n % p) (omega arith) ∙ e ∙ ap (λ (n : ℕ). n % p) (omega arith))

pub r9_yields : MeetingYields R9
unfolding product
r9_yields = record { there = tt; nowhere_else = λ r h. r9_constant r h.1 }
