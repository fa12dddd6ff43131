use mathlib.Core.Path.{◌≡◌, sym, ap, ◌∙◌}
use Prim.Native.Nat.{◌<◌}
use native.Mathlib.Omega.{arith}
use lib.ListN.{length}
use Rattle.packed_arcs.specs.Entries.{entry}
use Rattle.arc_records.specs.Arcs.{Arc}
use Rattle.arc_index.specs.Columns.{record_tails, record_weights}
use Rattle.arc_index.proofs.Columns.{tails_len, tail_is, weight_is}
use Rattle.match_slack.proofs.Extremes.{lightest_turn}
use Rattle.match_slack.proofs.write_lightest.Goals as goal
use Rattle.match_slack.proofs.write_lightest.Goals.{After-arc_in-arc}

-- the tail and the weight of the arc stand in their columns
tail : (c : After-arc_in-arc) → c.arc_in-arc.result.tail ≡ entry (record_tails c.args.records.now) c.loop-record.record-index
tail c = ap (λ (arc : Arc). arc.tail) c.arc_in-arc.ensures ∙ sym (tail_is c.args.records.now c.loop-record.record-index)

weight : (c : After-arc_in-arc) → c.arc_in-arc.result.weight ≡ entry (record_weights c.args.records.now) c.loop-record.record-index
weight c = ap (λ (arc : Arc). arc.weight) c.arc_in-arc.ensures ∙ sym (weight_is c.args.records.now c.loop-record.record-index)

-- something is noted for the tail
within : (c : After-arc_in-arc) → c.arc_in-arc.result.tail < length c.loop-record.lightest
within c = omega (arith, tail c, (c.requires c.loop-record.record-index c.loop-record-test.true).0, c.loop-record.auto.lightest, c.fill.ensures.len)

pub loop-record-preserved : goal.loop-record-preserved
loop-record-preserved c =
    let here = (goal.at.loop-record-preserved c).After-arc_in-arc in
    lightest_turn (record_tails c.args.records.now) (record_weights c.args.records.now) c.loop-record.lightest c.loop-record.record-index c.arc_in-arc.result.tail c.min.result (within here) (tail here)
    (omega (arith, c.min.ensures, weight here)) c.loop-record.invariant

pub bounds-lightest-a : goal.bounds-lightest-a
bounds-lightest-a c = within (goal.at.bounds-lightest-a c).After-arc_in-arc

pub bounds-lightest-a-in-loop-record : goal.bounds-lightest-a-in-loop-record
bounds-lightest-a-in-loop-record c = within (goal.at.bounds-lightest-a-in-loop-record c).After-arc_in-arc

pub returns : goal.returns
returns c =
    record { least = λ e h. c.loop-record.invariant e (omega (arith, c.loop-record-test.false, tails_len c.args.records.now)) }
