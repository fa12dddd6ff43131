use Rattle.flow_residual.proofs.PhaseLaws.{Starting}
use Rattle.flow_search.proofs.SearchLaws.{Queued}
use Rattle.flow_search.proofs.start.Given as goal

abbrev pub invariant-loop-v : goal.invariant-loop-v
invariant-loop-v l =
    Starting l.left l.initial.key l.key l.v × Queued l.key l.queue.keys l.queue.low l.v
