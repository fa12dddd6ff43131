use Prim.Native.Nat.{◌-◌, ◌<◌}
use lib.ListN.{length}
use Rattle.std.specs.Prelude.{unwrap_or, IfSome}
use Rattle.arc_index.specs.Columns.{record_tails, record_heads, record_weights}
use Rattle.match_state.specs.Rows.{Rows}
use Rattle.match_slack.specs.Slack.{Slack}
use Rattle.match_search.proofs.SearchSteps.{Growing}
use Rattle.match_search.proofs.search.Given as goal

abbrev pub invariant-loop-queue : goal.invariant-loop-queue
invariant-loop-queue l =
    Growing (length l.fn.dist) (length l.pi) (record_tails l.records) (record_heads l.records) (record_weights l.records) l.mate l.pi l.t l.dist l.par l.order l.queue.keys l.queue.low l.b l.k l.nd (unwrap_or l.nearest (length l.fn.dist))
    × Rows (record_tails l.records) (record_heads l.records) (record_weights l.records) l.rows × Slack l.lightest l.mate l.pi l.slack × IfSome l.nearest (λ r. r < length l.fn.dist)

abbrev pub decreases-loop-queue : goal.decreases-loop-queue
decreases-loop-queue l = 255 - l.nd
