use native.Mathlib.Omega.{arith}
use Rattle.prelude.proofs.Filling.{fill_turn}
use Rattle.match_results.proofs.write_marks.Goals as goal

pub loop-v-preserved : goal.loop-v-preserved
loop-v-preserved c =
    fill_turn _ 0 _ c.loop-v.pi c.loop-v.v _ (omega (arith, c.loop-v-test.true, c.requires.cases.len)) c.mark_of.ensures c.loop-v.invariant
