-- The loop's invariant: every vertex below v has a rank.
use Rattle.order_path.specs.Steps.{AllRanked}
use Rattle.order_ranking.proofs.first_unranked.Given as goal

abbrev pub invariant-loop-v : goal.invariant-loop-v
invariant-loop-v l = AllRanked l.ranks l.v
