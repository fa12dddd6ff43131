-- What is promised of the calendar (PANEL 14); proofs/Promises.antt keeps it.
use Rattle.std.specs.Prelude.{◌≡◌, ◌↔◌, List, [], ℕ, ◌≤◌, length, take, drop}
use Rattle.prelude.specs.Lists.{Every}
use Rattle.arc_records.specs.Arcs.{Arc}
use Rattle.network.specs.Question.{Setting, asks, Answer, TrueAnswer}
use Rattle.format.specs.Files.{setting_in, count_in}
use Rattle.format.specs.Promises.{Byte}
use Rattle.format.specs.Replies.{wrote, declined}
use Rattle.acceptance.specs.Acceptance.{AcceptedFile}
use Rattle.acceptance.specs.Promises.{Says}
use Rattle.tide_windows.specs.Windows.{Window, most_windows, last_minute, WindowFits}
use Rattle.calendar_records.specs.MinuteNetwork.{scheduled, open_alone, arcs_at}
use Rattle.calendar.specs.Schedule.{file_at, schedule_reply, buffer_after}

-- The file of a minute is accepted by the panel, and says the network of that minute under the same question, n, s and t.
abbrev pub FileAccepted : Type 0
FileAccepted = (net : List ℕ) (ws : List Window) (t : ℕ) → AcceptedFile net → Says (setting_in net) (arcs_at net ws t) (file_at net ws t)

-- With no window the file of any minute is the network file itself.
abbrev pub NoWindows : Type 0
NoWindows = (net : List ℕ) (t : ℕ) → Every Byte net → AcceptedFile net → file_at net [] t ≡ net

-- What holds where k bytes were written: what was handed over passed every check (PANEL 14), and in the buffer stands the file of the minute, and beyond it what was there.
pub record WrittenIn (net : List ℕ) (ws : List Window) (t k : ℕ) (before after : List ℕ) : Type 0 where
  pub accepted : AcceptedFile net
  pub few : length ws ≤ most_windows
  pub minute_within : t ≤ last_minute
  pub windows_fit : Every (WindowFits (count_in net)) ws
  pub room : k ≤ length before
  pub size : k ≡ length (file_at net ws t)
  pub file : take k after ≡ file_at net ws t
  pub beyond : drop k after ≡ drop k before

-- A reply of a length tells what stands in the buffer.
abbrev pub Writes : Type 0
Writes =
    (net : List ℕ) (ws : List Window) (t k : ℕ) (before : List ℕ)
    → schedule_reply net ws t (length before) ≡ wrote k → WrittenIn net ws t k before (buffer_after net ws t before)

-- A refusal writes no byte.
abbrev pub RefusalWritesNothing : Type 0
RefusalWritesNothing =
    (net : List ℕ) (ws : List Window) (t k : ℕ) (before : List ℕ)
    → schedule_reply net ws t (length before) ≡ declined k → buffer_after net ws t before ≡ before

-- Where there are more windows than check 21 lets pass, it does not matter what they say: of any windows the first 65 decide the reply and the buffer.
abbrev pub FirstDecide : Type 0
FirstDecide =
    (net : List ℕ) (ws : List Window) (t : ℕ) (before : List ℕ)
    → (schedule_reply net (take 65 ws) t (length before) ≡ schedule_reply net ws t (length before)) × (buffer_after net (take 65 ws) t before ≡ buffer_after net ws t before)

-- The network of a minute and its open arcs alone have the same true answer, for every question: a closed arc that keeps its place with the capacity 0 carries nothing.
abbrev pub OpenAlone : Type 0
OpenAlone =
    (st : Setting) (ws : List Window) (t : ℕ) (net : List Arc) (a : Answer)
    → TrueAnswer st (scheduled (asks st) ws t net) a ↔ TrueAnswer st (open_alone ws t net) a
