-- The file that the calendar writes of the network of a minute (PANEL 14).
use Rattle.std.specs.Prelude.{List, [], ◌∷◌, ◌++◌, ℕ, leb, length, drop}
use Rattle.prelude.specs.Checks.{Check, ◌unless◌, settle}
use Rattle.format.specs.Files.{setting_in, count_in, network_file}
use Rattle.format.specs.Replies.{WriterSaid, wrote, declined}
use Rattle.acceptance.specs.Acceptance.{acceptance_checks}
use Rattle.tide_windows.specs.Windows.{Window, windows_checks}
use Rattle.calendar_records.specs.MinuteNetwork.{arcs_at}

-- ---- the file

-- The file that is written (PANEL 14): the same question, n, s and t, and the network of the minute.
abbrev pub file_at : List ℕ → List Window → ℕ → List ℕ
file_at net ws t = network_file (setting_in net) (arcs_at net ws t)

-- ---- the checks, the reply and the buffer

-- The checks of what is handed over but for the buffer (PANEL 14): those by which the panel accepts the file, then those of the windows.
abbrev pub request_checks : List ℕ → List Window → ℕ → List Check
request_checks net ws t = acceptance_checks net ++ windows_checks (count_in net) ws t

-- All checks in their order (PANEL 14); the last is 20, is there room for the file that is written?
abbrev pub schedule_checks : List ℕ → List Window → ℕ → ℕ → List Check
schedule_checks net ws t room = request_checks net ws t ++ (20 unless leb (length (file_at net ws t)) room ∷ [])

-- The reply (PANEL 14): the first refusal, or the length of the file.
abbrev pub schedule_reply : List ℕ → List Window → ℕ → ℕ → WriterSaid
schedule_reply net ws t room = settle declined (schedule_checks net ws t room) (wrote (length (file_at net ws t)))

-- The buffer afterwards (PANEL 14): after a refusal what it held before, else the file, and beyond it what was there.
abbrev pub buffer_after : List ℕ → List Window → ℕ → List ℕ → List ℕ
buffer_after net ws t before =
    settle (λ k. before) (schedule_checks net ws t (length before))
    (file_at net ws t ++ drop (length (file_at net ws t)) before)
