-- The loop's invariant: the best of the vertices below v.
use native.Mathlib.Omega.{arith}
use Rattle.flow_residual.proofs.PhaseLaws.{best_none}
use Rattle.flow_phases.proofs.NearestVertex.{SoFar, taken, skipped}
use Rattle.flow_phases.proofs.nearest.Goals as goal
use Rattle.flow_phases.proofs.nearest.Goals.{else-better, then-better}

pub loop-v-preserved : goal.loop-v-preserved
loop-v-preserved c =
    elim c.if-better.branch [
      | then-better w ↦ taken c.loop-v.invariant (omega arith) (c.better.ensures.0 w.if-better.true) w.best-is w.k-is
      | else-better w ↦ skipped c.loop-v.invariant (omega arith) (c.better.ensures.1 w.if-better.false) w.best-is w.k-is
    ]

pub loop-v-init : goal.loop-v-init
loop-v-init c = SoFar.none (best_none _ _)
