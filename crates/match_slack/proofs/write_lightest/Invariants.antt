-- The loop's invariant: no arc that was looked at weighs less than what is noted for its tail.
use Rattle.arc_index.specs.Columns.{record_tails, record_weights}
use Rattle.match_slack.proofs.Extremes.{LightestBelow}
use Rattle.match_slack.proofs.write_lightest.Given as goal

abbrev pub invariant-loop-record : goal.invariant-loop-record
invariant-loop-record l = LightestBelow (record_tails l.records) (record_weights l.records) l.lightest l.record-index
