-- Signed numbers in machine words: their bits read back, the size of a sum, and tests of a number against a literal.
use mathlib.Core.Path.{◌≡◌, refl, ap, sym, ◌∙◌}
use mathlib.Core.Bool.{Bool, true, false, not, ◌&&◌}
use Prim.Native.Nat.{ℕ, suc, ◌+◌, ◌-◌, ◌≤◌, ◌<◌, ◌^◌}
use native.Mathlib.Omega.{arith}
use lib.Dec.{T, ltb, eqb, ltb→lt}
use lib.IntN.{ℤ, pos, negsuc, ◌+ℤ◌, ◌-ℤ◌}
use lib.Signed.{mag}
use mir.Syntax.{Width}
use mir.Val.{SFits, bits, hbits, to_z, of_z}
use mir.Facts.{to_z-of_z}
use mir.ValLaws.{pow-bits}
use borrow.Author.Rules.{sfits_of}
use borrow.Author.Tests.{ne_eqb, eq-eqb, eqb-true, eqb-false}
use Rattle.prelude.specs.Choice.{pick}
use Rattle.prelude.specs.Integers.{eq_z}
use Rattle.words.specs.Bounded.{small, bounded_sum, bounded_difference}
use Rattle.prelude.proofs.Booleans.{both, T→true}
use Rattle.prelude.proofs.Choice.{on, off}
use Rattle.prelude.proofs.Integers.{pos_part, neg_part, parts_add, parts_min, parts_mag}

-- ---- the bits of a number, read back

-- of a number that was read from an array, or that a call returned: the bound is what the read gives
pub back : (w : Width) (z : ℤ) → mag z < 2 ^ hbits w → to_z w (of_z w z) ≡ z
back w z h = to_z-of_z {w = w} {z = z} (sfits_of h)

-- ---- the size of a sum

mag_within : (z : ℤ) (n : ℕ) → pos_part z ≤ n → neg_part z ≤ suc n → mag z ≤ n
mag_within (pos k) n p q = p
mag_within (negsuc k) n p q = omega arith

-- z is a + b or a - b: p and q are b's parts, in either order
sized : (z a b : ℤ) (p q : ℕ) → pos_part z + (neg_part a + q) ≡ pos_part a + p + neg_part z → p ≤ mag b + 1 → q ≤ mag b + 1 → mag z ≤ mag a + mag b + 1
sized z a b p q e f g =
    let m = parts_min z in
    let n = parts_mag a in
    mag_within z (mag a + mag b + 1) (omega arith) (omega arith)

pub mag_add : (a b : ℤ) → mag (a +ℤ b) ≤ mag a + mag b + 1
mag_add a b = let m = parts_mag b in sized (a +ℤ b) a b (pos_part b) (neg_part b) (parts_add a b) (omega arith) (omega arith)

-- ---- sums and differences of small numbers

op_small : (op : ℤ → ℤ → ℤ) (a b : ℤ) → T (small a) → T (small b) → pick (small a && small b) (op a b) a ≡ op a b
op_small op a b p q = rw (T→true (small a && small b) (both (small a) (small b) p q))

pub plus_small : (a b : ℤ) → T (small a) → T (small b) → bounded_sum a b ≡ a +ℤ b
plus_small = op_small ◌+ℤ◌

pub minus_small : (a b : ℤ) → T (small a) → T (small b) → bounded_difference a b ≡ a -ℤ b
minus_small = op_small ◌-ℤ◌

-- ---- two signed numbers are the same where their bits are

eq_iff : (a b c d : ℕ) → (a ≡ b → c ≡ d) → (c ≡ d → a ≡ b) → eqb a b ≡ eqb c d
eq_iff a b c d f g = by (eqb c d) refl
  where
    by : (t : Bool) → t ≡ eqb c d → eqb a b ≡ t
    by true h = eq-eqb a b (g (eqb-true c d (sym h)))
    by false h = ne_eqb a b (λ e. eqb-false c d (sym h) (f e))

pub bits_eq : (w : Width) (z k : ℤ) → SFits w z → SFits w k → eqb (of_z w z) (of_z w k) ≡ eq_z z k
bits_eq w (pos a) (pos b) h l = refl
bits_eq w (pos a) (negsuc b) h l = let p = h.sfits in let q = l.sfits in let r = pow-bits w in ne_eqb a (2 ^ bits w - suc b) (λ e. omega arith)
bits_eq w (negsuc a) (pos b) h l = let p = h.sfits in let q = l.sfits in let r = pow-bits w in ne_eqb (2 ^ bits w - suc a) b (λ e. omega arith)
bits_eq w (negsuc a) (negsuc b) h l =
    let p = h.sfits in let q = l.sfits in let r = pow-bits w in
    eq_iff (2 ^ bits w - suc a) (2 ^ bits w - suc b) a b (λ e. omega arith) (λ e. omega arith)

module _ (A : Type 0) (r x y : A) (w : Width) (z k : ℤ) (h : SFits w z) where
  pub eq_z_on : of_z w z ≡ of_z w k → SFits w k → r ≡ x → r ≡ pick (eq_z z k) x y
  eq_z_on e l q = on A r x y (eq_z z k) (sym (bits_eq w z k h l) ∙ eq-eqb _ _ e) q

  pub eq_z_off : (of_z w z ≡ of_z w k → ⊥) → SFits w k → r ≡ y → r ≡ pick (eq_z z k) x y
  eq_z_off e l q = off A r x y (eq_z z k) (sym (bits_eq w z k h l) ∙ ne_eqb _ _ e) q

-- a test against a literal, whose bits are n
pub eq_z_is : (w : Width) (z k : ℤ) (n : ℕ) → SFits w z → SFits w k → of_z w k ≡ n → eqb (of_z w z) n ≡ eq_z z k
eq_z_is w z k n h l e = rw (← e) (bits_eq w z k h l)

pub eq_z_not : (w : Width) (z k : ℤ) (n : ℕ) → SFits w z → SFits w k → of_z w k ≡ n → not (eqb (of_z w z) n) ≡ not (eq_z z k)
eq_z_not w z k n h l e = ap not (eq_z_is w z k n h l e)

pub sfits_lit' : (w : Width) (z : ℤ) → T (ltb (mag z) (2 ^ hbits w)) → SFits w z
sfits_lit' w z t = record { sfits = ltb→lt (mag z) (2 ^ hbits w) t }

-- `search (checks, signs)` reads tests of a signed number against a literal
pub ruleset signs = (eq_z_on, eq_z_off, eq_z_not, eq_z_is, sfits_lit', tt)
