-- Laws on the groups: one after a step, products that fit, and checks that follow other checks.
use mathlib.Core.Path.{◌≡◌}
use mathlib.Core.List.{List, ◌++◌}
use Prim.Native.Nat.{ℕ, ◌+◌, ◌*◌, ◌≤◌}
use native.Mathlib.Nat.{mul-le-mul}
use native.Mathlib.Omega.{arith}
use lib.IntN.{ℤ}
use mir.Syntax.{w32}
use mir.Val.{Fits}
use Rattle.prelude.specs.Checks.{Check, first_broken}
use Rattle.prelude.proofs.Settle.{Numbered, part_refused, part_passed}
use Rattle.session_groups.specs.Groups.{marks_after, number_more}
use Rattle.session_groups.specs.declared.Numbering.{Numbering}

-- ---- groups

pub number_done : (g : Numbering) (z : ℤ) (words : List ℕ) → words ≡ marks_after g.marks g.given z
    → record { claim = g.claim; given = g.given + 1; marks = words } ≡ number_more g z
number_done g z words f = λ i. record { claim = g.claim; given = g.given + 1; marks = f i }

pub product_fits : (x w : ℕ) → w ≤ 32767 → x ≤ 32767 → Fits w32 (x * w)
product_fits x w h k = omega (arith, mul-le-mul k h)

-- ---- checks that follow others, by the number that a function found of the first ones

module _ (cs ds : List Check) (n : Numbered cs) (why : ℕ) (found : why ≡ first_broken cs) where
  pub broken_first : (why ≡ 0 → ⊥) → why ≡ first_broken (cs ++ ds)
  broken_first h = part_refused (λ k. k) cs ds 0 n why found h

  pub broken_later : why ≡ 0 → (r : ℕ) → r ≡ first_broken ds → r ≡ first_broken (cs ++ ds)
  broken_later z r e = part_passed (λ k. k) cs ds 0 n why found z r e
