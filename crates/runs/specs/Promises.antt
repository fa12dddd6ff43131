-- What is promised of sessions and of whole runs: the second sentence of demand 1, demand 2, and demand 3 for lists of steps (PANEL 12); proofs/Promises.antt keeps it.
use Rattle.std.specs.Prelude.{◌≡◌, ◌↔◌, false, List, ℕ, ◌≤◌, ℤ, length}
use Rattle.prelude.specs.Checks.{settle}
use Rattle.prelude.specs.Lists.{Every, Member, Perm, AtMost, any, at}
use Rattle.arc_records.specs.Arcs.{Arc}
use Rattle.network.specs.Network.{Load, arcs}
use Rattle.network.specs.Question.{Setting, Answer, TrueAnswer}
use Rattle.network.specs.Certificate.{claim_for, Certified}
use Rattle.network.specs.Tests.{claim_number}
use Rattle.ranges.specs.Promises.{pairs}
use Rattle.points.specs.Points.{IsPoint, count_points, misleading_points}
use Rattle.points.specs.declared.Point.{Point}
use Rattle.state.specs.Answers.{accepted, gives, refused, said}
use Rattle.state.specs.State.{is_reading, has_read, is_claimed, open_checks}
use Rattle.state.specs.Answers.{Refused}
use Rattle.session.specs.Session.{void, leaves}
use Rattle.session.specs.Steps.{opening, finish_step}
use Rattle.session.specs.declared.Session.{Session}
use Rattle.runs.specs.Run.{Step, finish, step, run, session_after, run_from, answer_to, list_read, WrongAt, is_other}
use Rattle.runs.specs.AcceptedLists.{claimed, agree_at, replies, opened_lists, accepted_by, repeated_in, ReadIs}
use Rattle.runs.specs.HeldAtPoint.{session_of}
use Rattle.runs.specs.Exchange.{exchange, outcome, last, verdict, Opens, Readable, Meets, MeetsAll}

-- ---- demand 1: what a refusal changes, for every session that a caller can hand over (PANEL 6 and 11)

-- A session that is over: void or ended, none of its three phases.
pub record IsOver (x : Session) : Type 0 where
  pub not_reading : is_reading x.state ≡ false
  pub not_read : has_read x.state ≡ false
  pub not_claimed : is_claimed x.state ≡ false

-- The session that a refused opening and an ended session hand back is over.
abbrev pub VoidIsOver : Type 0
VoidIsOver = IsOver void

-- A session that is over refuses every step with 5, for ever, and stays as it is.
abbrev pub OverForEver : Type 0
OverForEver = (x : Session) → IsOver x → (steps : List Step) → Every (λ a. a ≡ refused 5) (run x steps) × (session_after x steps ≡ x)

-- A refused step hands back what its number leaves: the session as it was, but a void one where a claim stands and the number is not 5.
abbrev pub RefusalLeaves : Type 0
RefusalLeaves = (x : Session) (a : Step) (why : ℕ) → (step x a).answer ≡ Refused why → (step x a).session ≡ leaves x why

-- Refusal 5 changes nothing.
abbrev pub FiveChangesNothing : Type 0
FiveChangesNothing = (x : Session) (a : Step) → (step x a).answer ≡ Refused 5 → (step x a).session ≡ x

-- After finishing the session is over, but for refusal 5.
abbrev pub FinishEnds : Type 0
FinishEnds = (x : Session) → ¬ ((finish_step x).answer ≡ Refused 5) → (finish_step x).session ≡ void

-- Where opening is refused, the session is void.
abbrev pub RefusedOpeningVoid : Type 0
RefusedOpeningVoid = (st : Setting) (r : Point) (why : ℕ) → (opening st r).answer ≡ Refused why → (opening st r).session ≡ void

-- Where opening is refused, so is every step (PANEL 12, demand 3).
abbrev pub OnlyRefusals : Type 0
OnlyRefusals =
    (st : Setting) (r : Point) (why : ℕ) (steps : List Step)
    → (opening st r).answer ≡ Refused why → Every (λ a. a ≡ refused 5) (run_from st r steps)

-- ---- demand 2, for every opening and every list of steps, in any order, refused ones included

-- Opening answers by its checks, the first broken one first.
abbrev pub OpeningAnswers : Type 0
OpeningAnswers = (st : Setting) (r : Point) → said (opening st r).answer ≡ settle refused (open_checks st r) accepted

-- What the steps answer is what the accepted lists answer: of each step the first check that is broken, in order.
abbrev pub AnswersOfLists : Type 0
AnswersOfLists = (st : Setting) (r : Point) (steps : List Step) → run_from st r steps ≡ replies (agree_at r) st (opened_lists st r) steps

-- The session handed back is the one that holds what is accepted at the pair of points.
abbrev pub HoldsAccepted : Type 0
HoldsAccepted = (st : Setting) (r : Point) (steps : List Step) → session_after (opening st r).session steps ≡ session_of st r (accepted_by st r steps)

-- What is accepted does not depend on the points: nothing but the answer of finishing, by check 14, does.
abbrev pub PointUnseen : Type 0
PointUnseen = (st : Setting) (r q : Point) (steps : List Step) → IsPoint r → IsPoint q → accepted_by st r steps ≡ accepted_by st q steps

-- The arcs that a session has read are the list read, found from the steps alone; so m is the length of that list.
abbrev pub ReadAsListed : Type 0
ReadAsListed = (st : Setting) (r : Point) (steps : List Step) → ReadIs (list_read st steps) (accepted_by st r steps)

-- Where a claim stands, the table of ranges has a row for the question and the claim (PANEL 6, check 10): no step asks it for another pair.
abbrev pub ClaimsListed : Type 0
ClaimsListed =
    (st : Setting) (r : Point) (steps : List Step) (l : List Arc) (k : ℕ) (ys : List ℤ) (f : List Load)
    → accepted_by st r steps ≡ claimed l k ys f → Member (st.question, k) pairs

-- A step gives an answer exactly if it is finishing, and what is accepted by then meets every rule of the certificate for that answer.
abbrev pub AnswersExactly : Type 0
AnswersExactly =
    (st : Setting) (r : Point) (before : List Step) (a : Step) (v : Answer)
    → (answer_to st r before a ≡ gives v) ↔ ((a ≡ finish) × MeetsAll st r (accepted_by st r before) v)

-- Where the repeated arcs are those that were read, in any order, an answer is the true one.
abbrev pub TrueWhereSame : Type 0
TrueWhereSame =
    (st : Setting) (r : Point) (before : List Step) (a : Step) (v : Answer)
    → Perm (arcs (repeated_in (accepted_by st r before))) (list_read st before)
    → answer_to st r before a ≡ gives v → TrueAnswer st (list_read st before) v

-- ---- demand 2, for an exchange in order

-- An exchange comes out as the verdict says: the first rule broken, in the order of the checks.
abbrev pub FirstBroken : Type 0
FirstBroken =
    (st : Setting) (r : Point) (net : List Arc) (k : ℕ) (ys : List ℤ) (f : List Load)
    → Opens st r → outcome (run_from st r (exchange net k ys f)) ≡ verdict st r net k ys f

-- Its first answer that is no acceptance is a value or none exactly if the annotation meets every rule of the certificate.
abbrev pub ExchangeGives : Type 0
ExchangeGives =
    (st : Setting) (r : Point) (net : List Arc) (k : ℕ) (ys : List ℤ) (f : List Load) (a : Answer)
    → Opens st r → Readable st net
    → (outcome (run_from st r (exchange net k ys f)) ≡ gives a) ↔ Meets st r net k ys f a

-- The same of the last answer, that of finishing, with one node number for each vertex.
abbrev pub ExchangeFinishes : Type 0
ExchangeFinishes =
    (st : Setting) (r : Point) (net : List Arc) (k : ℕ) (ys : List ℤ) (f : List Load) (a : Answer)
    → Opens st r → Readable st net → length ys ≡ st.n
    → (last (run_from st r (exchange net k ys f)) ≡ gives a) ↔ Meets st r net k ys f a

-- Where the repeated arcs are those that were read, in any order, the answer of an exchange is the true one.
abbrev pub ExchangeTrue : Type 0
ExchangeTrue =
    (st : Setting) (r : Point) (net : List Arc) (k : ℕ) (ys : List ℤ) (f : List Load) (a : Answer)
    → Opens st r → Readable st net → Perm (arcs f) net
    → last (run_from st r (exchange net k ys f)) ≡ gives a → TrueAnswer st net a

-- A certificate over the arcs that were read, in any order, is answered at every pair of points.
abbrev pub CertificatesPass : Type 0
CertificatesPass =
    (st : Setting) (r : Point) (net : List Arc) (ys : List ℤ) (f : List Load) (a : Answer)
    → Opens st r → Readable st net → Perm (arcs f) net → length ys ≡ st.n → Certified st (at ys) f a
    → outcome (run_from st r (exchange net (claim_number (claim_for a)) ys f)) ≡ gives a

-- ---- demand 3

-- For every list of steps a wrong answer comes out at (m - 1) × (m - 1) pairs of points at most, at none for m 0 or 1.
abbrev pub FewWrong : Type 0
FewWrong = (st : Setting) (steps : List Step) → AtMost (misleading_points (length (list_read st steps))) (WrongAt st steps)

-- The same as a count: a being the true answer, of the p × p pairs those at which some step gives another answer are (m - 1) × (m - 1) at most.
abbrev pub FewWrongCounted : Type 0
FewWrongCounted =
    (st : Setting) (steps : List Step) (a : Answer) → TrueAnswer st (list_read st steps) a
    → count_points (λ r. any (is_other a) (run_from st r steps)) ≤ misleading_points (length (list_read st steps))
