-- The loop's invariant: the rows of the vertices below v are copied.
use Rattle.arc_index.specs.Columns.{record_tails, record_heads, record_weights}
use Rattle.match_rows.proofs.AllRows.{RowsBelow}
use Rattle.match_rows.proofs.copy_rows.Given as goal

abbrev pub invariant-loop-v : goal.invariant-loop-v
invariant-loop-v l = RowsBelow (record_tails l.records) (record_heads l.records) (record_weights l.records) l.rows l.v
