-- Integers for `omega`: an integer is its positive part less its negative part, and facts on integers are facts on the parts.
use mathlib.Core.Path.{◌≡◌, refl, ap}
use mathlib.Core.Bool.{Bool, true, false, not, cond}
use Prim.Native.Nat.{ℕ, zero, suc, ◌+◌, ◌-◌, ◌≤◌, ◌<◌, min, max, pred}
use native.Mathlib.Omega.{arith}
use lib.Dec.{T, ltb, eqb→eq, eqb_refl, leb→le, le→leb, ltb→lt, nltb→le}
use lib.IntN.{ℤ, pos, negsuc, neg_ℤ, sub_ℕ, ◌+ℤ◌, ◌-ℤ◌}
use lib.Signed.{◌≤ℤ◌, ◌<ℤ◌, le_z, lt_z, mag}
use Rattle.prelude.specs.Integers.{eq_z}

abbrev pub pos_part : ℤ → ℕ
pos_part (pos n) = n
pos_part (negsuc n) = 0

abbrev pub neg_part : ℤ → ℕ
neg_part (pos n) = 0
neg_part (negsuc n) = suc n

-- ---- facts into the parts

le→ : (a b : ℤ) → T (le_z a b) → pos_part a + neg_part b ≤ pos_part b + neg_part a
le→ (pos a) (pos b) t = omega (arith, leb→le a b t)
le→ (pos a) (negsuc b) t = absurd t
le→ (negsuc a) (pos b) t = omega arith
le→ (negsuc a) (negsuc b) t = omega (arith, leb→le b a t)

pub parts_le : {a b : ℤ} → a ≤ℤ b → pos_part a + neg_part b ≤ pos_part b + neg_part a
parts_le {a} {b} h = le→ a b h.le

lt→ : (a b : ℤ) → T (lt_z a b) → pos_part a + neg_part b < pos_part b + neg_part a
lt→ (pos a) (pos b) t = omega (arith, ltb→lt a b t)
lt→ (pos a) (negsuc b) t = absurd t
lt→ (negsuc a) (pos b) t = omega arith
lt→ (negsuc a) (negsuc b) t = omega (arith, ltb→lt b a t)

pub parts_lt : {a b : ℤ} → a <ℤ b → pos_part a + neg_part b < pos_part b + neg_part a
parts_lt {a} {b} h = lt→ a b h.lt

pub parts_eq : {a b : ℤ} → a ≡ b → pos_part a + neg_part b ≡ pos_part b + neg_part a
parts_eq {a} {b} e = rw e (omega arith)

-- ---- and back

→le : (a b : ℤ) → pos_part a + neg_part b ≤ pos_part b + neg_part a → T (le_z a b)
→le (pos a) (pos b) h = le→leb a b (omega arith)
→le (pos a) (negsuc b) h = absurd (omega arith)
→le (negsuc a) (pos b) h = tt
→le (negsuc a) (negsuc b) h = le→leb b a (omega arith)

pub le_parts : {a b : ℤ} → pos_part a + neg_part b ≤ pos_part b + neg_part a → a ≤ℤ b
le_parts {a} {b} h = record { le = →le a b h }

→eq : (a b : ℤ) → pos_part a + neg_part b ≡ pos_part b + neg_part a → a ≡ b
→eq (pos a) (pos b) h = ap pos (omega arith)
→eq (pos a) (negsuc b) h = absurd (omega arith)
→eq (negsuc a) (pos b) h = absurd (omega arith)
→eq (negsuc a) (negsuc b) h = ap negsuc (omega arith)

pub eq_parts : {a b : ℤ} → pos_part a + neg_part b ≡ pos_part b + neg_part a → a ≡ b
eq_parts {a} {b} h = →eq a b h

-- ---- the parts of a difference, a sum, a negation

by_test : (c : Bool) (x y : ℤ) (P : ℤ → Type 0) → (T c → P x) → (T (not c) → P y) → P (cond c x y)
by_test true x y P f g = f tt
by_test false x y P f g = g tt

pub parts_subℕ : (a b : ℕ) → pos_part (sub_ℕ a b) + b ≡ a + neg_part (sub_ℕ a b)
parts_subℕ a b = by_test (ltb a b) (negsuc (b - suc a)) (pos (a - b)) (λ z. pos_part z + b ≡ a + neg_part z)
    (λ t. omega (arith, ltb→lt a b t)) (λ t. omega (arith, nltb→le a b t))

pub parts_add : (a b : ℤ) → pos_part (a +ℤ b) + (neg_part a + neg_part b) ≡ pos_part a + pos_part b + neg_part (a +ℤ b)
parts_add (pos a) (pos b) = omega arith
parts_add (pos a) (negsuc b) = omega (arith, parts_subℕ a (suc b))
parts_add (negsuc a) (pos b) = omega (arith, parts_subℕ b (suc a))
parts_add (negsuc a) (negsuc b) = omega arith

pub parts_neg : (a : ℤ) → (pos_part (neg_ℤ a) ≡ neg_part a) × (neg_part (neg_ℤ a) ≡ pos_part a)
parts_neg (pos zero) = (refl, refl)
parts_neg (pos (suc n)) = (refl, refl)
parts_neg (negsuc n) = (refl, refl)

pub parts_sub : (a b : ℤ) → pos_part (a -ℤ b) + (neg_part a + pos_part b) ≡ pos_part a + neg_part b + neg_part (a -ℤ b)
parts_sub a b = omega (arith, parts_add a (neg_ℤ b), parts_neg b)

-- one of the two is 0
pub parts_min : (a : ℤ) → min (pos_part a) (neg_part a) ≡ 0
parts_min (pos n) = omega arith
parts_min (negsuc n) = omega arith

-- `omega signed` reads orders and equations of integers. Each sum, difference or negation in them goes into the list, as `parts_add a c`.
pub ruleset signed = (arith, parts_le, le_parts, parts_eq, eq_parts)

-- the bound by which a signed width is stated: `mag z` is n for n and for -(n + 1)
pub parts_mag : (z : ℤ) → (pos_part z ≤ mag z) × (neg_part z ≤ suc (mag z)) × (mag z ≤ max (pos_part z) (pred (neg_part z)))
parts_mag (pos n) = omega arith
parts_mag (negsuc n) = omega arith

-- ---- the test for equality

pub eq_z→eq : (a b : ℤ) → T (eq_z a b) → a ≡ b
eq_z→eq (pos a) (pos b) t = ap pos (eqb→eq a b t)
eq_z→eq (pos a) (negsuc b) t = absurd t
eq_z→eq (negsuc a) (pos b) t = absurd t
eq_z→eq (negsuc a) (negsuc b) t = ap negsuc (eqb→eq a b t)

eq_z_refl : (a : ℤ) → T (eq_z a a)
eq_z_refl (pos n) = eqb_refl n
eq_z_refl (negsuc n) = eqb_refl n

pub eq→eq_z : (a b : ℤ) → a ≡ b → T (eq_z a b)
eq→eq_z a b e = rw e (eq_z_refl b)
