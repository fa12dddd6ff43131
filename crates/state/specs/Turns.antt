-- The steps on a state alone (PANEL 6): what each makes of it.
use Rattle.std.specs.Prelude.{List, ℕ, ℤ, Result, Ok, Err}
use Rattle.prelude.specs.Checks.{Check, settle}
use Rattle.arc_records.specs.Arcs.{Arc}
use Rattle.network.specs.Network.{Load}
use Rattle.network.specs.Question.{Setting}
use Rattle.points.specs.declared.Point.{Point}
use Rattle.state.specs.State.{idle, open_checks, opened, read_checks, with_read, end_checks, with_end, claim_checks, with_claim, number_checks, with_number, repeat_checks, with_repeat}
use Rattle.state.specs.declared.State.{State}
use Rattle.refusals.specs.declared.Refusal.{Refusal}
use Rattle.refusals.specs.Refusals.{number}

-- What a step makes of a state: 0 and the next state, or the number of the refusal and the state as it was.
pub record Turn : Type 0 where
  pub state : State
  pub why : ℕ

-- The same, from the result of a step on the state x.
abbrev pub turn_of : State → Result State Refusal → Turn
turn_of x (Ok y) = record { state = y; why = 0 }
turn_of x (Err r) = record { state = x; why = number r }

-- The number of the first check that refuses the step, and the state as it was; or 0, and the next state.
abbrev pub turned : State → List Check → State → Turn
turned x checks next = settle (λ k. record { state = x; why = k }) checks (record { state = next; why = 0 })

-- Opening.
unfoldable pub open_turn : Setting → Point → Turn
open_turn st r = turned idle (open_checks st r) (opened st r)

-- Reading a channel.
unfoldable pub read_turn : State → Arc → Turn
read_turn x e = turned x (read_checks x e) (with_read x e)

-- Ending the reading.
unfoldable pub end_turn : State → Turn
end_turn x = turned x (end_checks x) (with_end x)

-- The claim.
unfoldable pub claim_turn : State → ℕ → Turn
claim_turn x k = turned x (claim_checks x k) (with_claim x k)

-- A node number.
unfoldable pub number_turn : State → ℤ → Turn
number_turn x z = turned x (number_checks x z) (with_number x z)

-- A repeated channel; y gives the node numbers.
unfoldable pub repeat_turn : State → (ℕ → ℤ) → Load → Turn
repeat_turn x y l = turned x (repeat_checks x y l) (with_repeat x l)
