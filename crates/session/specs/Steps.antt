-- Opening and the six steps of a session (PANEL 6): each by the checks and the next state of State.antt of the crate state.
use Rattle.std.specs.Prelude.{ℕ, ℤ, set}
use Rattle.prelude.specs.Checks.{settle}
use Rattle.arc_records.specs.Arcs.{Arc}
use Rattle.network.specs.Network.{Load}
use Rattle.network.specs.Question.{Setting}
use Rattle.network.specs.Tests.{answer_of}
use Rattle.points.specs.declared.Point.{Point}
use Rattle.state.specs.Answers.{answered}
use Rattle.vertex_arrays.specs.Arrays.{moved}
use Rattle.state.specs.State.{setting_held, claim_held, open_checks, opened, read_checks, with_read, end_checks, with_end, claim_checks, with_claim, number_checks, with_number, repeat_checks, with_repeat, finish_checks}
use Rattle.state.specs.Answers.{Refused}
use Rattle.session.specs.Session.{with_potentials, with_balances, potentials_in, sums_in, with_arrays, with_state, fresh, void, hand, accept, refuse}
use Rattle.session.specs.declared.Arrays.{Arrays}
use Rattle.session.specs.Session.{Reply}
use Rattle.session.specs.declared.Session.{Session}

-- Opening; refused, the session is void.
unfoldable pub opening : Setting → Point → Reply
opening st r = settle (λ why. hand void (Refused why)) (open_checks st r) (accept (fresh (opened st r)))

-- Reading a channel.
unfoldable pub read_step : Session → Arc → Reply
read_step x e = settle (refuse x) (read_checks x.state e) (accept (with_state x (with_read x.state e)))

-- Ending the reading.
unfoldable pub end_step : Session → Reply
end_step x = settle (refuse x) (end_checks x.state) (accept (with_state x (with_end x.state)))

-- The claim.
unfoldable pub claim_step : Session → ℕ → Reply
claim_step x k = settle (refuse x) (claim_checks x.state k) (accept (with_state x (with_claim x.state k)))

-- The arrays after a node number: it is stored as that of the next vertex.
abbrev pub numbered_arrays : Session → ℤ → Arrays
numbered_arrays x z = with_potentials x.arrays (set x.arrays.potentials x.state.numbering.given z)

-- A node number.
unfoldable pub number_step : Session → ℤ → Reply
number_step x z =
    settle (refuse x) (number_checks x.state z)
    (accept (with_state (with_arrays x (numbered_arrays x z)) (with_number x.state z)))

-- The arrays after a repeated channel: its amount moves between the balances of its ends.
abbrev pub repeated_arrays : Session → Load → Arrays
repeated_arrays x l = with_balances x.arrays (moved x.arrays.balances l.arc.tail l.arc.head l.amount)

-- A repeated channel.
unfoldable pub repeat_step : Session → Load → Reply
repeat_step x l =
    settle (refuse x) (repeat_checks x.state (potentials_in x) l)
    (accept (with_state (with_arrays x (repeated_arrays x l)) (with_repeat x.state l)))

-- Finishing: with an answer the session is over.
unfoldable pub finish_step : Session → Reply
finish_step x =
    settle (refuse x) (finish_checks x.state (potentials_in x) (sums_in x))
    (hand void (answered (answer_of (setting_held x.state) (claim_held x.state) (sums_in x))))
