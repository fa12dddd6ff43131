-- The line for a writer's reply (PANEL 10).
use Rattle.std.specs.Prelude.{Bool, List, ℕ, Result, Ok, Err}
use Rattle.format.specs.Replies.{WriterSaid, wrote, declined}
use Rattle.program_io.specs.Line.{saved_line, refused_line}

-- How many bytes were written, that they could not be saved, or the refusal.
abbrev pub reply_line : WriterSaid → Bool → List ℕ
reply_line (wrote k) done = saved_line k done
reply_line (declined k) done = refused_line k

-- A reply whose refusal is a number.
abbrev pub by_number : Result ℕ ℕ → WriterSaid
by_number (Ok k) = wrote k
by_number (Err k) = declined k
