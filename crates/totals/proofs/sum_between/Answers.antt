-- The loop's invariant: the sum of the numbers passed.
use mathlib.Core.Path.{◌≡◌, ◌∙◌}
use Prim.Native.Nat.{◌-◌}
use native.Mathlib.Omega.{arith}
use mir.Syntax.{w32, w64}
use mir.Val.{to_z}
use Rattle.prelude.specs.Lists.{at}
use Rattle.prelude.specs.Sums.{sum_to_ℤ}
use Rattle.words.proofs.Signs.{back}
use Rattle.rules.proofs.Signed.{returned}
use Rattle.totals.proofs.Totals.{each_sized, sum_more}
use Rattle.totals.proofs.sum_between.Goals as goal

pub loop-v-init : goal.loop-v-init
unfolding sum_to_ℤ
loop-v-init c = let none : c.args.low - c.args.low ≡ 0 = omega arith in (omega arith, omega arith, rw none)

pub loop-v-preserved : goal.loop-v-preserved
loop-v-preserved c = let e = rw c.from.ensures at (simp (returned w64 c.from-in-loop-v.result c.from-in-loop-v.type_inv (c.from-in-loop-v.ensures ∙ back w32 (at c.args.potentials c.from.result) (omega arith))) at c.add-sum.ensures) in (
  omega arith,
  omega arith,
  returned w64 c.add-sum.result c.add-sum.type_inv (sum_more c.args.potentials (λ i. search each_sized) c.args.low c.loop-v.v (to_z w64 c.loop-v.sum-bits) c.add-sum.result c.loop-v.invariant.0 (omega arith) c.loop-v.invariant.2 e),
)
