-- The loop's invariant: the least among the first i entries.
use native.Mathlib.Omega.{arith}
use Rattle.vertex_queue.proofs.LeastPlaces.{scan_start, scan_less, scan_not, scan_end, first_of_16}
use Rattle.vertex_queue.proofs.first_least.Goals as goal
use Rattle.vertex_queue.proofs.first_least.Goals.{else-x-best, then-x-best}

pub loop-i-preserved : goal.loop-i-preserved
loop-i-preserved c =
    elim c.if-x-best.branch [
      | then-x-best w ↦ scan_less c.args.l.now c.args.from c.loop-i.i c.loop-i.at c.loop-i.best _ _ (omega arith) c.loop-i.invariant w.if-x-best.true w.at-is w.best-is
      | else-x-best w ↦ scan_not c.args.l.now c.args.from c.loop-i.i c.loop-i.at c.loop-i.best _ _ (omega arith) c.loop-i.invariant w.if-x-best.false w.at-is w.best-is
    ]

pub returns : goal.returns
returns c =
    let e = scan_end c.args.l.now c.args.from c.loop-i.i c.loop-i.at c.loop-i.best (omega arith) c.loop-i.invariant in
    let P = first_of_16 c.args.l.now c.args.from in
    (e, omega (arith, P.after), omega (arith, P.before))

pub loop-i-init : goal.loop-i-init
loop-i-init c = scan_start _ _
