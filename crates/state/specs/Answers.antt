-- What the answers of steps say (PANEL 6).
use Rattle.std.specs.Prelude.{ℕ}
use Rattle.network.specs.Question.{Answer, value, none}

-- What a step answers: it is accepted, it gives a value or none, or it is refused with a number of PANEL 11.
pub data Response : Type 0 where
  Accepted : Response
  Value : ℕ → Response
  None : Response
  Refused : ℕ → Response

-- A step is accepted, it gives a value or none, or it is refused with a number of PANEL 11.
pub data Said : Type 0 where
  accepted : Said
  gives : Answer → Said
  refused : ℕ → Said

-- What a response says.
abbrev pub said : Response → Said
said Accepted = accepted
said (Value v) = gives (value v)
said None = gives none
said (Refused k) = refused k

-- The response that gives a value or none.
abbrev pub answered : Answer → Response
answered (value v) = Value v
answered none = None
