use mathlib.Core.Path.{sym, ap, ◌∙◌}
use native.Mathlib.Omega.{arith}
use Rattle.packed_arcs.specs.Entries.{entry}
use Rattle.arc_index.proofs.Columns.{heads_len}
use Rattle.match_rows.proofs.Gathering.{tail_below, lighter, between, heavier, set_aside, gathering_end}
use Rattle.match_rows.proofs.OtherOrder.{exchanged}
use Rattle.match_rows.proofs.part.gather_exposed.Goals as goal

pub bounds-mate-arc : goal.bounds-mate-arc
bounds-mate-arc c =
    rw c.row_record-arc.ensures.tail
    (tail_below c.requires.rows.1 c.loop-i.invariant c.loop-i-test.true (λ e l. c.requires.by_index e (omega (arith, heads_len c.args.records.now))))

pub loop-i-preserved-then-mate-arc-ne-NO_ARC : goal.loop-i-preserved-then-mate-arc-ne-NO_ARC
loop-i-preserved-then-mate-arc-ne-NO_ARC c =
    set_aside c.requires.rows.1 c.loop-i.invariant c.loop-i-test.true (exchanged c.swap.ensures.len c.swap.ensures.by_index)

pub loop-i-preserved-then-next-weight : goal.loop-i-preserved-then-next-weight
loop-i-preserved-then-next-weight c =
    let h = ap (entry c.args.mate.now) (sym c.row_record-arc.ensures.tail) ∙ c.if-mate-arc-ne-NO_ARC.false in
    heavier c.requires.rows.1 c.loop-i.invariant c.loop-i-test.true h (omega (arith, c.row_record-arc.ensures.weight, c.if-next-weight.true))

pub loop-i-preserved-then-least-weight : goal.loop-i-preserved-then-least-weight
loop-i-preserved-then-least-weight c =
    let h = ap (entry c.args.mate.now) (sym c.row_record-arc.ensures.tail) ∙ c.if-mate-arc-ne-NO_ARC.false in
    between c.requires.rows.1 c.loop-i.invariant c.loop-i-test.true h (omega arith) c.row_record-arc.ensures.weight c.if-least-weight.true c.if-next-weight.false

pub loop-i-preserved : goal.loop-i-preserved
loop-i-preserved c =
    let h = ap (entry c.args.mate.now) (sym c.row_record-arc.ensures.tail) ∙ c.if-mate-arc-ne-NO_ARC.false in
    lighter c.requires.rows.1 c.loop-i.invariant c.loop-i-test.true h (omega arith) c.row_record-arc.ensures.weight c.if-least-weight.false

pub returns : goal.returns
returns c = gathering_end c.loop-i-test.false c.loop-i.invariant
