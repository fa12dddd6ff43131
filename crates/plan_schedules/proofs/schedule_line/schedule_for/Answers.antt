-- The windows that are handed on decide as all of the table's do.
use mathlib.Core.Path.{refl}
use mathlib.Core.List.{[]}
use lib.ListN.{length}
use Rattle.std.proofs.lemmas.Result.{MatchResult-at_ok, MatchResult-at_err}
use Rattle.tide_table.specs.TideTable.{windows_of}
use Rattle.plan_schedules.specs.ScheduleLine.{bad_line, table_outcome, table_buffer}
use Rattle.plan_schedules.proofs.Outcomes.{rows_handed, undone, done_same, table_bad, table_fine}
use Rattle.plan_schedules.proofs.schedule_line.schedule_for.Goals as goal

pub returns-in-Ok : goal.returns-in-Ok
returns-in-Ok g c =
    let table = c.args.table.now in
    let out = c.args.out.now in
    let whole = MatchResult-at_ok _ _ c.in-Ok.count c.in-Ok.is c.read_table.ensures.answer in
    let kept = rows_handed (windows_of table) _ c.read_table.new.rows c.min-n.result c.in-Ok.count refl c.read_table.ensures.rows whole.1 c.min-n.ensures in
    let fine = table_fine table c.args.minute _ kept whole.0 out in
    done_same _ (table_outcome table c.args.minute (length out)) _ (table_buffer table c.args.minute out) _ _ _ (λ l. (fine l).0) (λ l. (fine l).1) c.schedule_by.ensures

pub returns-in-Err : goal.returns-in-Err
returns-in-Err g c =
    let table = c.args.table.now in
    let out = c.args.out.now in
    let broken = MatchResult-at_err _ _ c.in-Err.bad c.in-Err.is c.read_table.ensures.answer in
    let bad = table_bad table c.args.minute c.in-Err.bad.number broken.1 broken.0 (length out) out [] in
    undone (table_outcome table c.args.minute (length out)) (table_buffer table c.args.minute out) (bad_line c.in-Err.bad.number) _ out _ c.undone.result
    bad.0 bad.1 c.undone.ensures c.numbered.ensures
