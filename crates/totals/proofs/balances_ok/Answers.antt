-- The loop's invariant: the vertices passed have balances that they may have.
use mathlib.Core.Path.{sym, ◌∙◌}
use native.Mathlib.Omega.{arith}
use mir.Syntax.{w64}
use Rattle.prelude.specs.Lists.{at}
use Rattle.prelude.specs.Sums.{all_to}
use Rattle.prelude.proofs.Booleans.{true→T}
use Rattle.words.proofs.Signs.{back}
use Rattle.totals.proofs.Totals.{all_more, all_fails}
use Rattle.totals.proofs.balances_ok.Goals as goal

pub loop-v-init : goal.loop-v-init
unfolding all_to
loop-v-init c = (omega arith, tt)

pub returns-then-not-balance_ok : goal.returns-then-not-balance_ok
returns-then-not-balance_ok c = let e = rw c.from.ensures at (simp (back w64 (at c.args.balances c.from.result) (omega arith)) at c.balance_ok.ensures) in
    sym (all_fails _ c.loop-v.v _ c.loop-v-test.true (sym e ∙ c.if-not-balance_ok.true))

pub loop-v-preserved : goal.loop-v-preserved
loop-v-preserved c = let e = rw c.from.ensures at (simp (back w64 (at c.args.balances c.from.result) (omega arith)) at c.balance_ok.ensures) in (
  omega arith,
  all_more _ c.loop-v.v c.loop-v.invariant.1 (true→T _ (sym e ∙ c.if-not-balance_ok.false)),
)
