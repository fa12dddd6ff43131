-- What is promised of the scheduling program (PANEL 14); proofs/Promises.antt keeps it.
use Rattle.std.specs.Prelude.{◌≡◌, List, ℕ, length}
use Rattle.prelude.specs.Checks.{settle}
use Rattle.format.specs.Replies.{wrote, declined}
use Rattle.tide_windows.specs.Windows.{Window}
use Rattle.calendar.specs.Schedule.{file_at, request_checks, schedule_reply}

-- The room of 32768 bytes is large enough for the file of every minute: check 20 refuses none.
abbrev pub RoomEnough : Type 0
RoomEnough =
    (net : List ℕ) (ws : List Window) (t : ℕ)
    → schedule_reply net ws t 32768 ≡ settle declined (request_checks net ws t) (wrote (length (file_at net ws t)))
