use Prim.Native.Nat.{◌≤◌}
use mathlib.Core.Path.{refl, ◌∙◌}
use native.Mathlib.Omega.{arith}
use Rattle.arc_records.specs.Limits.{most_arcs}
use Rattle.refusals.proofs.Exits.{exit_as, number_not_0}
use Rattle.format.specs.Replies.{writer_said}
use Rattle.tide_windows.specs.Windows.{windows_in}
use Rattle.calendar.proofs.ScheduleReturns.{at_request, few_records, at_room, at_end}
use Rattle.calendar.proofs.schedule.Goals as goal
use Rattle.calendar.proofs.schedule.Goals.{After-count_left-count}

-- what was handed over passed the checks, so few records are left
few_left : (c : After-count_left-count) → c.count_left-count.result ≤ most_arcs
few_left c =
    few_records c.args.net.now (windows_in c.args.windows.now) c.args.minute c.args.buffer.now 0 c.in_ok-request_check.ensures refl c.count_left-count.result c.count_left-count.ensures

pub returns-in_err-request_check : goal.returns-in_err-request_check
returns-in_err-request_check c =
    let r = at_request c.args.net.now (windows_in c.args.windows.now) c.args.minute c.args.buffer.now _ c.in_err-request_check.ensures (number_not_0 _) in
    (exit_as writer_said _ _ c.from_residual.ensures.1 ∙ r.0, r.1)

pub returns-then-buffer-size : goal.returns-then-buffer-size
returns-then-buffer-size c =
    at_room c.args.net.now (windows_in c.args.windows.now) c.args.minute c.args.buffer.now 0 c.in_ok-request_check.ensures refl c.count_left-count.result c.count_left-count.ensures (omega (arith, c.if-buffer-size.true))

pub returns : goal.returns
returns c =
    at_end c.args.net.now (windows_in c.args.windows.now) c.args.minute c.args.buffer.now 0 c.in_ok-request_check.ensures refl c.count_left-count.result c.count_left-count.ensures
    _ c.if-buffer-size.false c.write_file.ensures

pub count_left-count-requires : goal.count_left-count-requires
count_left-count-requires c = tt

pub overflow_mul-size : goal.overflow_mul-size
overflow_mul-size c = omega (arith, few_left (goal.at.overflow_mul-size c).After-count_left-count)

pub overflow_add-size : goal.overflow_add-size
overflow_add-size c = omega (arith, few_left (goal.at.overflow_add-size c).After-count_left-count)

pub overflow_cast-count : goal.overflow_cast-count
overflow_cast-count c = omega (arith, few_left (goal.at.overflow_cast-count c).After-count_left-count)

pub write_file-requires : goal.write_file-requires
write_file-requires c = record { count_value = c.count_left-count.ensures; in_bounds = omega (arith, c.if-buffer-size.false) }

pub overflow_cast-result : goal.overflow_cast-result
overflow_cast-result c = omega (arith, few_left (goal.at.overflow_cast-result c).After-count_left-count)

pub shape_of-buffer : goal.shape_of-buffer
shape_of-buffer c = c.write_file.auto.buffer
