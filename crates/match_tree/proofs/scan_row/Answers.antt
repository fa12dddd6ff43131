use mathlib.Core.Path.{refl, sym}
use native.Mathlib.Omega.{arith}
use Rattle.match_tree.proofs.Scans.{ready, scan_on, scan_exposed, scan_found, scan_end}
use Rattle.match_tree.proofs.scan_row.Goals as goal
use Rattle.match_tree.proofs.scan_row.Goals.{else-relax, then-relax+else-best-k}

pub relax-requires : goal.relax-requires
relax-requires c =
    ready c.requires.state c.requires.parted c.requires.b_in_bounds.0 c.loop-i.invariant.2 refl c.loop-i-test.true c.requires.b_in_bounds.2 c.requires.b_in_bounds.1

pub bounds-dist-r : goal.bounds-dist-r
bounds-dist-r c =
    (scan_exposed c.requires.state c.requires.parted c.requires.b_in_bounds.0 c.loop-i.invariant.2 refl c.loop-i-test.true _ c.row_record-arc.ensures.tail c.relax.ensures c.if-relax.true).2

pub returns-then-best-k : goal.returns-then-best-k
returns-then-best-k c =
    let next = scan_exposed c.requires.state c.requires.parted c.requires.b_in_bounds.0 c.loop-i.invariant.2 refl c.loop-i-test.true _ c.row_record-arc.ensures.tail c.relax.ensures c.if-relax.true in
    record { scanned = scan_found c.requires.state c.requires.parted c.requires.b_in_bounds.0 next.0 next.1 c.if-best-k.true c.requires.b_in_bounds.1; in_dist = λ f. omega (arith, next.2, next.0.dist_len) }

pub loop-i-preserved : goal.loop-i-preserved
loop-i-preserved c =
    elim c.if-relax.branch [
      | then-relax+else-best-k w ↦ let next = scan_exposed c.requires.state c.requires.parted c.requires.b_in_bounds.0 c.loop-i.invariant.2 refl c.loop-i-test.true _ w.row_record-arc.ensures.tail c.relax.ensures w.if-relax.true in
          rw (w.found-is, w.best-is) (sym next.0.dist_len, λ f. omega (arith, next.2, next.0.dist_len), next.0)
      | else-relax w ↦ let next = scan_on c.requires.state c.requires.parted c.requires.b_in_bounds.0 c.loop-i.invariant.2 refl c.loop-i-test.true c.relax.ensures w.if-relax.false in
          rw (w.found-is, w.best-is) (sym next.dist_len, c.loop-i.invariant.1, next)
    ]

pub returns : goal.returns
returns c =
    record { scanned = scan_end c.requires.state c.requires.parted c.requires.b_in_bounds.0 c.loop-i.invariant.2 c.loop-i-test.false; in_dist = c.loop-i.invariant.1 }
