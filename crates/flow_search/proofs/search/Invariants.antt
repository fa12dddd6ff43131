use Rattle.flow_relaxing.specs.Relaxing.{residual_in}
use Rattle.flow_residual.specs.Residual.{LoweredKeys}
use Rattle.flow_search.specs.Search.{work}
use Rattle.flow_search.proofs.SearchLaws.{Between}
use Rattle.flow_search.proofs.search.Given as goal

abbrev pub invariant-loop-queue : goal.invariant-loop-queue
invariant-loop-queue l =
    LoweredKeys (residual_in l.net) l.initial.key l.initial.par l.key l.par × Between (residual_in l.net) l.key l.queue.keys l.queue.low

abbrev pub decreases-loop-queue : goal.decreases-loop-queue
decreases-loop-queue l =
    work l.key l.queue.keys
