-- Replies as one number each.
use Rattle.std.specs.Prelude.{ℕ, ◌+◌}
use Rattle.network.specs.Question.{value, none}
use Rattle.state.specs.Answers.{Said, accepted, gives, refused}
use Rattle.format.specs.Replies.{WriterSaid, wrote, declined}

-- The value as it is, 4294967296 for none, that plus k for the refusal k. Judging never says that it accepts.
abbrev pub said_code : Said → ℕ
said_code (gives (value v)) = v
said_code (gives none) = 4294967296
said_code (refused k) = 4294967296 + k
said_code accepted = 4294967296 + 256

-- The length, or 4294967296 plus k.
abbrev pub reply_code : WriterSaid → ℕ
reply_code (wrote k) = k
reply_code (declined k) = 4294967296 + k
