-- The loop's invariant: the least among the first e entries.
use native.Mathlib.Omega.{arith}
use Rattle.vertex_queue.proofs.LeastPlaces.{least_start, least_turn, least_end}
use Rattle.vertex_queue.proofs.least_entry.Goals as goal

pub loop-e-preserved : goal.loop-e-preserved
loop-e-preserved c =
    least_turn c.args.l.now c.args.from c.loop-e.e c.loop-e.best _ (omega arith) c.loop-e.invariant c.min-best.ensures

pub returns : goal.returns
returns c =
    least_end c.args.l.now c.args.from c.loop-e.e c.loop-e.best (omega arith) c.loop-e.invariant

pub loop-e-init : goal.loop-e-init
loop-e-init c = least_start _ _
