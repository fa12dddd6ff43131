use native.Mathlib.Omega.{arith}
use Prim.Native.Nat.{◌+◌, ◌-◌}
use Rattle.prelude.proofs.Counts.{count_not}
use Rattle.words.specs.Marks.{is_marked}
use Rattle.totals.proofs.count_unmarked.Goals as goal

pub overflow_sub-result : goal.overflow_sub-result
overflow_sub-result c = let marked = simp (c.from-first.ensures, c.from-end.ensures) at c.count_marked-marked.ensures in
    omega (arith, c.saturating_sub.ensures, c.from-first.ensures, c.from-end.ensures, marked, count_not (λ i. is_marked c.args.marks (c.args.low + i)) (c.args.high - c.args.low))

pub returns : goal.returns
returns c = let marked = simp (c.from-first.ensures, c.from-end.ensures) at c.count_marked-marked.ensures in
    omega (arith, c.saturating_sub.ensures, c.from-first.ensures, c.from-end.ensures, marked, count_not (λ i. is_marked c.args.marks (c.args.low + i)) (c.args.high - c.args.low))
