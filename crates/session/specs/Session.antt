-- A session: its state with what it holds of each vertex, the node number and the balance, and what a refusal leaves of it (PANEL 6).
use Rattle.std.specs.Prelude.{List, ℕ, eqb, ℤ, pos, replicate}
use Rattle.prelude.specs.Choice.{pick}
use Rattle.prelude.specs.Lists.{at}
use Rattle.arc_records.specs.Limits.{most_vertices}
use Rattle.network.specs.Certificate.{Sums}
use Rattle.points.specs.declared.Point.{Point}
use Rattle.totals.specs.Held.{sums_held}
use Rattle.checks.specs.declared.HeldSetting.{HeldSetting}
use Rattle.state.specs.State.{is_claimed, begun, idle}
use Rattle.state.specs.Answers.{Response}
use Rattle.state.specs.Answers.{Accepted, Refused}
use Rattle.state.specs.Turns.{Turn}
use Rattle.state.specs.declared.State.{State}
use Rattle.points.specs.declared.Stream.{Stream}
use Rattle.session.specs.declared.Arrays.{Arrays}
use Rattle.session.specs.declared.Session.{Session}

-- ---- arrays

-- The arrays of node numbers and of balances.
abbrev pub arrays_of : List ℤ → List ℤ → Arrays
arrays_of ys bs = record { potentials = ys; balances = bs }

-- The arrays with other node numbers.
abbrev pub with_potentials : Arrays → List ℤ → Arrays
with_potentials a ys = arrays_of ys a.balances

-- The arrays with other balances.
abbrev pub with_balances : Arrays → List ℤ → Arrays
with_balances a bs = arrays_of a.potentials bs

-- 0 for each vertex.
abbrev pub zeros : List ℤ
zeros = replicate most_vertices (pos 0)

-- 0 for each vertex in every array.
abbrev pub zero_arrays : Arrays
zero_arrays = arrays_of zeros zeros

-- ---- what a session holds

-- The node numbers that were given.
abbrev pub potentials_in : Session → ℕ → ℤ
potentials_in x = at x.arrays.potentials

-- The sums over the repeated arcs.
abbrev pub sums_in : Session → Sums
sums_in x = sums_held x.arrays.balances x.state.repeating.cost x.state.repeating.cut

-- ---- sessions

-- The session of arrays and a state.
abbrev pub joined : Arrays → State → Session
joined a x = record { arrays = a; state = x }

-- The session with other arrays.
abbrev pub with_arrays : Session → Arrays → Session
with_arrays x a = joined a x.state

-- The session with another state.
abbrev pub with_state : Session → State → Session
with_state x y = joined x.arrays y

-- The session of a state before its arrays are touched.
abbrev pub fresh : State → Session
fresh x = joined zero_arrays x

-- A session before the claim.
abbrev pub holding : ℕ → HeldSetting → Point → Stream → Session
holding ph st r m = fresh (begun ph st r m)

-- A session that is over, void or ended (PANEL 6).
abbrev pub void : Session
void = fresh idle

-- ---- replies

-- What a step hands back: the session and its answer.
pub record Reply : Type 0 where
  pub session : Session
  pub answer : Response

-- The reply with a session and an answer.
abbrev pub hand : Session → Response → Reply
hand x a = record { session = x; answer = a }

-- The reply of a step that is accepted.
abbrev pub accept : Session → Reply
accept x = hand x Accepted

-- What a refusal leaves (PANEL 6): the session as it was, but over where a claim stands and the refusal is not 5.
abbrev pub leaves : Session → ℕ → Session
leaves x k = pick (is_claimed x.state) (pick (eqb k 5) x void) x

-- The reply of a step that is refused with the number k.
abbrev pub refuse : Session → ℕ → Reply
refuse x k = hand (leaves x k) (Refused k)

-- The reply to a step that changes nothing but the state, of which it makes this turn.
abbrev pub by_turn_of : Session → Turn → Reply
by_turn_of x u = pick (eqb u.why 0) (accept (with_state x u.state)) (refuse x u.why)
