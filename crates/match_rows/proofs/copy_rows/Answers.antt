use Rattle.arc_index.specs.Columns.{record_tails, record_heads, record_weights}
use Rattle.match_rows.proofs.AllRows.{rows_next, rows_end}
use Rattle.match_rows.proofs.copy_rows.Goals as goal

pub loop-v-preserved : goal.loop-v-preserved
loop-v-preserved c =
    let rs = c.args.records.now in
    rows_next (record_tails rs) (record_heads rs) (record_weights rs) c.loop-v.rows _ c.loop-v.v c.copy_chain-i.result c.loop-v-test.true c.loop-v.invariant
    c.copy_chain-i.ensures

pub returns : goal.returns
returns c =
    let rs = c.args.records.now in
    rows_end (record_tails rs) (record_heads rs) (record_weights rs) c.loop-v.rows c.loop-v.v c.requires.0.few c.loop-v-test.false c.loop-v.invariant
