use mathlib.Core.Path.{sym, subst₂}
use Prim.Native.Nat.{ℕ, ◌+◌, ◌<◌}
use native.Mathlib.Omega.{arith}
use lib.ListN.{set}
use Rattle.arc_index.specs.ArcIndex.{no_arc}
use Rattle.arc_index.specs.Columns.{record_tails, record_heads, record_weights}
use Rattle.arc_index.proofs.Columns.{heads_len}
use Rattle.match_rows.proofs.OneRow.{Copying, in_rows, few_positions, copying_next, copying_end}
use Rattle.match_rows.proofs.copy_chain.Goals as goal
use Rattle.match_rows.proofs.copy_chain.Goals.{After-row_arc}

-- the position i is low
low : (c : After-row_arc) → c.loop-e.i < 769 + no_arc
low c =
    few_positions c.args.records.now c.args.links.now c.args.rows.now c.loop-e.rows c.args.v c.args.from c.loop-e.i c.loop-e.e c.requires.0
    c.loop-e-test.true (omega (arith, c.requires.2, heads_len c.args.records.now)) c.loop-e.invariant

pub bounds-rows-i : goal.bounds-rows-i
bounds-rows-i c =
    in_rows c.args.records.now c.args.links.now c.args.rows.now c.loop-e.rows c.args.v c.args.from c.loop-e.i c.loop-e.e c.requires.0
    c.loop-e-test.true (omega (arith, c.requires.2, heads_len c.args.records.now)) c.loop-e.invariant

pub loop-e-preserved : goal.loop-e-preserved
loop-e-preserved c =
    let rs = c.args.records.now in
    subst₂ (λ (arc k : ℕ). Copying (record_tails rs) (record_heads rs) (record_weights rs) c.args.rows.now (set c.loop-e.rows c.loop-e.i arc) c.args.v c.args.from (c.loop-e.i + 1) k)
    (sym c.row_arc.ensures.0) (sym c.from-e-in-loop-e.ensures)
    (copying_next rs c.args.links.now c.args.rows.now c.loop-e.rows c.args.v c.args.from c.loop-e.i c.loop-e.e c.requires.0 c.loop-e-test.true
    (omega (arith, c.requires.2, heads_len rs)) c.loop-e.invariant c.row_arc.ensures.1)

pub returns : goal.returns
returns c =
    let rs = c.args.records.now in
    copying_end (record_tails rs) (record_heads rs) (record_weights rs) c.args.rows.now c.loop-e.rows c.args.v c.args.from c.loop-e.i c.loop-e.e c.requires.0.few c.loop-e-test.false c.loop-e.invariant

pub offset_bounds-rows-i : goal.offset_bounds-rows-i
offset_bounds-rows-i c = omega (arith, low (goal.at.offset_bounds-rows-i c).After-row_arc)

pub overflow_add-i : goal.overflow_add-i
overflow_add-i c = omega (arith, low (goal.at.overflow_add-i c).After-row_arc)
