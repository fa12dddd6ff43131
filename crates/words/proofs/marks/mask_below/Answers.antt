use mathlib.Core.Path.{◌≡◌, ap}
use Prim.Native.Nat.{ℕ, ◌-◌, ◌^◌}
use native.Mathlib.Omega.{arith}
use lib.Pow.{pow_pos}
use Rattle.words.specs.Masks.{bits_below, mask_below}
use Rattle.words.proofs.Bits.{bit}
use Rattle.words.proofs.marks.mask_below.Goals as goal

-- d bits are below h
masked : (h k d : ℕ) → d ≡ bits_below h k → 2 ^ d - 1 ≡ mask_below h k
unfolding mask_below
masked h k d e = ap (λ (n : ℕ). 2 ^ n - 1) e

pub returns-then-end-first : goal.returns-then-end-first
returns-then-end-first c = masked c.args.h c.args.k 0 (omega arith)

pub returns-then-bits-ge64 : goal.returns-then-bits-ge64
returns-then-bits-ge64 c = masked c.args.h c.args.k 64 (omega arith)

pub overflow_sub-result : goal.overflow_sub-result
overflow_sub-result c = rw (bit _ c.if-bits-ge64.false) (pow_pos _)

pub returns : goal.returns
returns c = rw (bit _ c.if-bits-ge64.false) (masked c.args.h c.args.k _ (omega arith))
