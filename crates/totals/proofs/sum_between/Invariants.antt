-- The loop's invariant: the sum of the numbers passed.
use mathlib.Core.Path.{◌≡◌}
use Prim.Native.Nat.{◌+◌, ◌-◌, ◌≤◌, max}
use Rattle.prelude.specs.Lists.{at}
use Rattle.prelude.specs.Sums.{sum_to_ℤ}
use Rattle.totals.proofs.sum_between.Given as goal

abbrev pub invariant-loop-v : goal.invariant-loop-v
invariant-loop-v l = (l.low ≤ l.v) × (l.v ≤ max l.low l.high) × (l.sum ≡ sum_to_ℤ (l.v - l.low) (λ i. at l.potentials (l.low + i)))
