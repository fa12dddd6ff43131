-- The loop's invariant: a path of vertices without a rank, that is not empty. There is room for one vertex fewer at each turn.
use Prim.Native.Nat.{◌-◌, ◌<◌}
use lib.ListN.{length}
use Rattle.arc_index.specs.Columns.{record_tails, record_heads}
use Rattle.order_path.specs.Steps.{Searching}
use Rattle.order_path.proofs.path.climb.Given as goal

abbrev pub invariant-loop-e : goal.invariant-loop-e
invariant-loop-e l =
    Searching (record_tails l.records) (record_heads l.records) l.ranks l.into l.path l.spot l.len × (0 < l.len)

abbrev pub decreases-loop-e : goal.decreases-loop-e
decreases-loop-e l = length l.ranks - l.len
