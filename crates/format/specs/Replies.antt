-- What a function that writes a file into a lent buffer replies (PANEL 9).
use Rattle.std.specs.Prelude.{ℕ, Result, Ok, Err}
use Rattle.refusals.specs.declared.Refusal.{Refusal}
use Rattle.refusals.specs.Refusals.{number}

-- A writer's reply: how many bytes it wrote, or the number of a refusal.
pub data WriterSaid : Type 0 where
  wrote : ℕ → WriterSaid
  declined : ℕ → WriterSaid

-- What a result of the code says.
abbrev pub writer_said : Result ℕ Refusal → WriterSaid
writer_said (Ok k) = wrote k
writer_said (Err r) = declined (number r)
