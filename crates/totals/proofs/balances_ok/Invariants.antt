-- The loop's invariant: the vertices passed have balances that they may have.
use Prim.Native.Nat.{◌≤◌}
use lib.Dec.{T}
use Rattle.prelude.specs.Lists.{at}
use Rattle.prelude.specs.Sums.{all_to}
use Rattle.checks.specs.Held.{asked, rules_held}
use Rattle.totals.proofs.balances_ok.Given as goal

abbrev pub invariant-loop-v : goal.invariant-loop-v
invariant-loop-v l = (l.v ≤ l.st.n) × T (all_to l.v (λ u. (rules_held l.row).on_balance (asked l.st) u (at l.balances u)))
