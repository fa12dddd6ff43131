use Prim.Native.Nat.{◌-◌}
use Rattle.flow_relaxing.specs.Relaxing.{residual_in}
use Rattle.flow_search.proofs.SearchLaws.{Scanning}
use Rattle.flow_search.proofs.scan.Given as goal

abbrev pub invariant-loop-e : goal.invariant-loop-e
invariant-loop-e l =
    Scanning (residual_in l.net) l.back l.u l.k l.initial.key l.initial.par l.initial.queue.keys l.initial.queue.low l.key l.par l.queue.keys l.queue.low l.e

abbrev pub decreases-loop-e : goal.decreases-loop-e
decreases-loop-e l =
    4096 - l.e
