-- The loop's invariant: the arcs into the vertices of the path, from where the cycle starts up to the next, are marked.
use mathlib.Core.Path.{◌≡◌, refl, ◌∙◌, sym, ap, subst}
use Prim.Native.Nat.{ℕ, ◌+◌, ◌-◌, ◌<◌}
use native.Mathlib.Omega.{arith}
use native.Mathlib.Numerals.{add-one}
use lib.ListN.{length, get_or, take, drop, length-take}
use Rattle.packed_arcs.specs.Entries.{entry, zero_list}
use Rattle.arc_index.specs.Columns.{record_tails}
use Rattle.arc_index.proofs.Columns.{tails_len}
use Rattle.order_cycle.proofs.Cycles.{Marking, in_part, AtIndex, at_index, marking_none, marking_more}
use Rattle.order_cycle.proofs.mark.Goals as goal
use Rattle.order_cycle.proofs.mark.Goals.{After-tail_at-w, In-loop-v}

-- the vertex from which an arc enters the last, and its index
closing : (c : After-tail_at-w)
    → c.tail_at-w.result ≡ entry (record_tails c.args.records.now) (entry c.args.into.now (entry c.args.path.now (c.args.len - 1)))
closing c =
    c.tail_at-w.ensures ∙ ap (entry (record_tails c.args.records.now)) c.from.ensures

-- in the loop: v is the vertex of the path at an index below len, and its current arc is one of the arcs
here : (c : In-loop-v) → let k = entry c.args.spot.now c.tail_at-w.result - 1 in let i = k + c.loop-v.v-index in
    (i < c.args.len) × (get_or (take (c.args.len - k) (drop k c.args.path.now)) c.loop-v.v-index 0 ≡ entry c.args.path.now i) × AtIndex c.args.records.now c.args.into.now c.args.path.now i
here c =
    let rs = c.args.records.now in
    let k = entry c.args.spot.now c.tail_at-w.result - 1 in
    let below : k + c.loop-v.v-index < c.args.len = omega (arith, c.loop-v-test.true, length-take (c.args.len - k) (drop k c.args.path.now)) in
    (below, in_part c.args.path.now k c.args.len c.loop-v.v-index below, at_index c.requires.arcs c.requires.closed_path rs (tails_len rs) (k + c.loop-v.v-index) below)

pub loop-v-init : goal.loop-v-init
loop-v-init c =
    let k = entry c.args.spot.now c.tail_at-w.result - 1 in
    let q : k ≡ k + 0 = omega arith in
    subst (Marking _ _ c.args.into.now c.args.path.now c.args.spot.now c.args.marks.now k c.args.len) q
    (marking_none c.requires.arcs c.requires.closed_path _ _ (closing (goal.at.loop-v-init c).After-tail_at-w) refl c.args.marks.now
    (c.requires.marks_value ∙ ap zero_list (sym (tails_len c.args.records.now))))

pub offset_bounds-into-v : goal.offset_bounds-into-v
offset_bounds-into-v c = let h = here (goal.at.offset_bounds-into-v c).In-loop-v in omega (arith, h.1, h.2)

pub bounds-into-v : goal.bounds-into-v
bounds-into-v c = let h = here (goal.at.bounds-into-v c).In-loop-v in omega (arith, h.1, h.2)

pub bounds-marks-from : goal.bounds-marks-from
bounds-marks-from c =
    let h = here (goal.at.bounds-marks-from c).In-loop-v in
    omega (arith, c.from-in-loop-v.ensures, ap (entry c.args.into.now) h.1, h.2, c.loop-v.invariant.marks_len, tails_len c.args.records.now)

pub loop-v-preserved : goal.loop-v-preserved
loop-v-preserved c =
    let h = here (goal.at.loop-v-preserved c).In-loop-v in
    let k = entry c.args.spot.now c.tail_at-w.result - 1 in
    let q : k + c.loop-v.v-index + 1 ≡ k + (c.loop-v.v-index + 1) = omega arith in
    subst (Marking _ _ c.args.into.now c.args.path.now c.args.spot.now _ k c.args.len) q
    (marking_more c.requires.arcs c.requires.closed_path _ _ (closing (goal.at.loop-v-preserved c).After-tail_at-w) refl c.loop-v.invariant h.0
    (c.from-in-loop-v.ensures ∙ ap (entry c.args.into.now) h.1))
