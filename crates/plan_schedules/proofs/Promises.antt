-- The promise of specs/Promises.antt, kept: the file of a minute has at most 11 + 4 * 4096 bytes.
use mathlib.Core.Path.{◌∙◌, ap}
use mathlib.Core.Bool.{Bool}
use mathlib.Core.List.{[], ◌∷◌}
use native.Mathlib.Omega.{arith}
use lib.Dec.{leb}
use lib.ListN.{length}
use borrow.Author.Tests.{le-leb}
use Rattle.prelude.specs.Checks.{◌unless◌}
use Rattle.prelude.specs.Choice.{pick}
use Rattle.prelude.proofs.Settle.{settle_append, settle_when, hold_left}
use Rattle.format.specs.Files.{count_in}
use Rattle.format.specs.Replies.{wrote, declined}
use Rattle.acceptance.specs.Acceptance.{acceptance_checks}
use Rattle.tide_windows.specs.Windows.{windows_checks}
use Rattle.calendar.specs.Schedule.{file_at, request_checks}
use Rattle.calendar.proofs.MinuteFile.{file_size}
use Rattle.calendar.proofs.Promises.{minute_admissible}
use Rattle.plan_schedules.specs.Promises.{RoomEnough}

pub room_enough : RoomEnough
room_enough net ws t =
    let size = length (file_at net ws t) in
    settle_append declined (request_checks net ws t) (20 unless leb size 32768 ∷ []) (wrote size)
    ∙ settle_when declined (request_checks net ws t) (pick (leb size 32768) (wrote size) (declined 20)) (wrote size)
    (λ h.
    let few = (minute_admissible net ws t (hold_left (acceptance_checks net) (windows_checks (count_in net) ws t) h)).few in
    ap (λ (b : Bool). pick b (wrote size) (declined 20)) (le-leb size 32768 (omega (arith, file_size net ws t, few))))
