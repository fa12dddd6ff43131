-- What the scheduling program prints and writes, as a function of its argument, of the bytes that it read and of whether the file was saved (PANEL 14).
use Rattle.std.specs.Prelude.{◌≡◌, Bool, Option, Some, None, option_map, IfSome, List, [], ◌∷◌, ℕ, eqb, take}
use Rattle.prelude.specs.Choice.{pick}
use Rattle.format.specs.Replies.{WriterSaid}
use Rattle.tide_windows.specs.Windows.{Window}
use Rattle.calendar.specs.Schedule.{schedule_reply, buffer_after}
use Rattle.tide_table.specs.Text.{is_number, value}
use Rattle.tide_table.specs.TideTable.{bad_line_of, windows_of}
use Rattle.io.specs.Counts.{IsPrefixLen}
use Rattle.program_io.specs.Line.{number_line}
use Rattle.program_io.specs.Counted.{counted}
use Rattle.written_files.specs.ReplyLine.{reply_line}
use Rattle.plan_schedules.specs.declared.schedule_line.Done.{Done}
use Rattle.plan_schedules.specs.declared.schedule_line.Scheduled.{Scheduled}

-- ---- what comes of it

-- What the program comes to: no minute was given; there is no tide table; a line of it, of this number, is no window; or the calendar replied.
pub data Outcome : Type 0 where
  miscalled : Outcome
  untabled : Outcome
  bad_line : ℕ → Outcome
  replied : WriterSaid → Outcome

-- The outcome by windows, at a minute and with room for so many bytes, for what counts of a network file: the calendar's reply.
abbrev pub windows_outcome : List Window → ℕ → ℕ → List ℕ → Outcome
windows_outcome ws minute room net = replied (schedule_reply (counted net) ws minute room)

-- By the bytes of a table: unless every line of it that counts is a window, the calendar is not asked.
unfoldable pub table_outcome : List ℕ → ℕ → ℕ → List ℕ → Outcome
table_outcome table minute room net = pick (eqb (bad_line_of table) 0) (windows_outcome (windows_of table) minute room net) (bad_line (bad_line_of table))

-- By a table, or none that could be read: that is never taken for an empty one.
abbrev pub front_outcome : Option (List ℕ) → ℕ → ℕ → List ℕ → Outcome
front_outcome (Some table) minute room net = table_outcome table minute room net
front_outcome None minute room net = untabled

-- By an argument, which has to be a number.
unfoldable pub schedule_outcome : List ℕ → Option (List ℕ) → ℕ → List ℕ → Outcome
schedule_outcome argument table room net = pick (is_number argument) (front_outcome table (value argument) room net) miscalled

-- ---- the buffer

-- What the buffer holds afterwards, in the same four steps: where the calendar is not asked, what it held before.
abbrev pub windows_buffer : List Window → ℕ → List ℕ → List ℕ → List ℕ
windows_buffer ws minute before net = buffer_after (counted net) ws minute before

unfoldable pub table_buffer : List ℕ → ℕ → List ℕ → List ℕ → List ℕ
table_buffer table minute before net = pick (eqb (bad_line_of table) 0) (windows_buffer (windows_of table) minute before net) before

abbrev pub front_buffer : Option (List ℕ) → ℕ → List ℕ → List ℕ → List ℕ
front_buffer (Some table) minute before net = table_buffer table minute before net
front_buffer None minute before net = before

unfoldable pub schedule_buffer : List ℕ → Option (List ℕ) → List ℕ → List ℕ → List ℕ
schedule_buffer argument table before net = pick (is_number argument) (front_buffer table (value argument) before net) before

-- ---- the line

-- The line of an outcome: how the program is called, `no windows`, `bad line` and its number, or the line of the reply.
abbrev pub outcome_line : Outcome → Bool → List ℕ
outcome_line miscalled done = 117 ∷ 115 ∷ 97 ∷ 103 ∷ 101 ∷ 58 ∷ 32 ∷ 115 ∷ 99 ∷ 104 ∷ 101 ∷ 100 ∷ 117 ∷ 108 ∷ 101 ∷ 32 ∷ 77 ∷ 73 ∷ 78 ∷ 85 ∷ 84 ∷ 69 ∷ 10 ∷ []
outcome_line untabled done = 110 ∷ 111 ∷ 32 ∷ 119 ∷ 105 ∷ 110 ∷ 100 ∷ 111 ∷ 119 ∷ 115 ∷ 10 ∷ []
outcome_line (bad_line k) done = number_line (98 ∷ 97 ∷ 100 ∷ 32 ∷ 108 ∷ 105 ∷ 110 ∷ 101 ∷ 32 ∷ []) k
outcome_line (replied said) done = reply_line said done

-- ---- in code

-- A network file was read into a buffer, so many bytes of it; the other buffer holds what it should for these bytes, and the line is that of the outcome.
pub record DoneAs (outcome : List ℕ → Outcome) (buffer : List ℕ → List ℕ) (net out : List ℕ) (r : Done) : Type 0 where
  pub net_read : IsPrefixLen r.net net
  pub out_is : out ≡ buffer (take r.net net)
  pub line_is : r.line ≡ outcome_line (outcome (take r.net net)) r.saved

-- The front of a buffer, so many bytes, or none where nothing was read.
abbrev pub front : Option ℕ → List ℕ → Option (List ℕ)
front read buffer = option_map (λ n. take n buffer) read

-- The same by an argument and a table that was read into its buffer, so many bytes of it, or could not be read; `room` is how many bytes the other buffer has.
pub record ScheduledFiles (room : ℕ) (argument table net out_before out : List ℕ) (r : Scheduled) : Type 0 where
  pub table_read : IfSome r.table (λ n. IsPrefixLen n table)
  pub done : DoneAs (schedule_outcome argument (front r.table table) room) (schedule_buffer argument (front r.table table) out_before) net out r.done
