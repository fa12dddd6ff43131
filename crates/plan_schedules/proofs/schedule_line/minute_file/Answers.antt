use mathlib.Core.Path.{◌≡◌, subst}
use mathlib.Core.List.{List}
use Prim.Native.Nat.{ℕ}
use lib.ListN.{length}
use Rattle.format.specs.Replies.{writer_said}
use Rattle.tide_windows.specs.Windows.{windows_in}
use Rattle.calendar.specs.Schedule.{schedule_reply, buffer_after}
use Rattle.plan_schedules.proofs.schedule_line.minute_file.Goals as goal

pub returns : goal.returns
returns c =
    let ws = windows_in c.args.windows.now in
    subst
    (λ (net : List ℕ). (writer_said c.schedule.result ≡ schedule_reply net ws c.args.minute (length c.args.out.now)) × (c.schedule.new.buffer ≡ buffer_after net ws c.args.minute c.args.out.now))
    c.counted.ensures
    c.schedule.ensures
