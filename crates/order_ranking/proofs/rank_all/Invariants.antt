-- The loop's invariant: r vertices have a rank, and those on the path have none. Each turn gives one.
use Prim.Native.Nat.{◌-◌}
use lib.ListN.{length}
use Rattle.arc_index.specs.Columns.{record_tails, record_heads}
use Rattle.order_path.proofs.Rankings.{Progress}
use Rattle.order_ranking.proofs.rank_all.Given as goal

abbrev pub invariant-loop-first : goal.invariant-loop-first
invariant-loop-first l =
    Progress (length l.initial.ranks) (record_tails l.records) (record_heads l.records) l.ranks l.into l.path l.spot l.r l.root l.len

abbrev pub decreases-loop-first : goal.decreases-loop-first
decreases-loop-first l = length l.initial.ranks - l.r
