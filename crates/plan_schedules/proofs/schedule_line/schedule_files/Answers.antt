-- An argument that is no number, a table that could not be read, and what is done by a table that was.
use mathlib.Core.Path.{◌≡◌, sym, ap, ◌∙◌}
use mathlib.Core.List.{List, []}
use Prim.Native.Nat.{ℕ}
use native.Mathlib.Omega.{arith}
use lib.ListN.{length, take}
use Rattle.std.specs.Prelude.{Some, None}
use Rattle.plan_schedules.specs.ScheduleLine.{miscalled, untabled, table_outcome, table_buffer, schedule_outcome, schedule_buffer}
use Rattle.plan_schedules.proofs.Outcomes.{undone, done_same, not_called, called}
use Rattle.plan_schedules.proofs.schedule_line.schedule_files.Goals as goal

pub returns-in_default : goal.returns-in_default
returns-in_default g c =
    let argument = c.args.argument.now in
    let out = c.args.out.now in
    let off = not_called argument None out [] 32768 c.in_default.ensures in
    record {
      table_read = tt;
      done = undone (schedule_outcome argument None 32768) (schedule_buffer argument None out) miscalled _ out _ c.undone.result
          off.0 off.1 c.undone.ensures c.plain.ensures;
    }

pub returns-in_default-read_file : goal.returns-in_default-read_file
returns-in_default-read_file g c =
    let argument = c.args.argument.now in
    let out = c.args.out.now in
    let same = called argument None out [] 32768 c.in-Some.minute c.in-Some.ensures.0 c.in-Some.ensures.1 in
    record {
      table_read = tt;
      done = undone (schedule_outcome argument None 32768) (schedule_buffer argument None out) untabled _ out _ c.undone-in_default-read_file.result
          (sym same.0) (sym same.1) c.undone-in_default-read_file.ensures c.plain-in_default-read_file.ensures;
    }

pub returns : goal.returns
returns g c =
    let argument = c.args.argument.now in
    let out = c.args.out.now in
    let minute = c.in-Some.minute in
    let table = take c.in-Some-read_file.n c.read_file.new.buffer in
    let size : length out ≡ 32768 = omega arith in
    let same = λ (l : List ℕ). called argument (Some table) out l 32768 minute c.in-Some.ensures.0 c.in-Some.ensures.1 in
    record {
      table_read = c.in-Some-read_file.ensures;
      done = done_same (table_outcome table minute (length out)) (schedule_outcome argument (Some table) 32768)
          (table_buffer table minute out) (schedule_buffer argument (Some table) out) _ _ _
          (λ l. ap (λ (room : ℕ). table_outcome table minute room l) size ∙ (same l).0) (λ l. (same l).1)
          c.schedule_for-done.ensures;
    }
