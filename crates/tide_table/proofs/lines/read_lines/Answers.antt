-- What the match leaves: the line is read, and the whole says what the lines behind it say.
use Rattle.tide_table.proofs.Tables.{ends_within, here_stop, here_done, here_turn, past_nothing, past_window}
use Rattle.tide_table.proofs.lines.read_lines.Goals as goal
use Rattle.tide_table.proofs.lines.read_lines.Goals.{in-Nothing, in-Window}

pub slice_bounds-line_says-end : goal.slice_bounds-line_says-end
slice_bounds-line_says-end c =
    ends_within c.args.text.now c.loop-row.at c.find-end.result c.find-end.ensures c.loop-row.invariant.within

pub returns-in-Unclear : goal.returns-in-Unclear
returns-in-Unclear c = here_stop _ _ _ _ _ _ c.loop-row.invariant _ c.find-end.ensures c.in-Unclear.ensures

pub returns-then-text-end : goal.returns-then-text-end
returns-then-text-end c =
    here_done _ _ _ _ _ _ c.loop-row.invariant _ c.find-end.ensures _ _
    (elim c.match-line_says.branch [
      | in-Nothing w ↦ rw (w.rows-is, w.count-is) (past_nothing _ _ _ _ _ _ c.loop-row.invariant _ c.find-end.ensures w.in-Nothing.ensures)
      | in-Window w ↦ rw (w.rows-is, w.count-is, w.store.ensures) (past_window _ _ _ _ _ _ c.loop-row.invariant _ c.find-end.ensures _ w.in-Window.ensures)
    ]) c.if-text-end.true

pub loop-row-preserved : goal.loop-row-preserved
loop-row-preserved c =
    here_turn _ _ _ _ _ _ c.loop-row.invariant _ c.find-end.ensures _ _
    (elim c.match-line_says.branch [
      | in-Nothing w ↦ rw (w.rows-is, w.count-is) (past_nothing _ _ _ _ _ _ c.loop-row.invariant _ c.find-end.ensures w.in-Nothing.ensures)
      | in-Window w ↦ rw (w.rows-is, w.count-is, w.store.ensures) (past_window _ _ _ _ _ _ c.loop-row.invariant _ c.find-end.ensures _ w.in-Window.ensures)
    ]) c.if-text-end.false
