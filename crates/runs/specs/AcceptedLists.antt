-- What a session has accepted, as lists: the checks of each step, what an accepted step adds, what a refusal leaves, and what is answered (PANEL 6).
-- No array, no word of marks and no point is here: the points enter only where two lists are compared at them, check 14.
use Rattle.std.specs.Prelude.{◌≡◌, Bool, true, false, List, [], ◌∷◌, ◌++◌, ℕ, eqb, ℤ, length}
use Rattle.prelude.specs.Checks.{Check, ◌unless◌, settle}
use Rattle.prelude.specs.Choice.{pick}
use Rattle.prelude.specs.Lists.{at}
use Rattle.arc_records.specs.Arcs.{Arc}
use Rattle.network.specs.Network.{Load, arcs}
use Rattle.network.specs.Question.{Setting, asks}
use Rattle.network.specs.Certificate.{Claim, marked, Sums, sums_of}
use Rattle.network.specs.Tests.{reading_checks, claim_of, claiming_checks, Numbers, numbering_checks, repeating_checks, finishing_checks, answer_of}
use Rattle.points.specs.Points.{print_of, same_print}
use Rattle.points.specs.declared.Point.{Point}
use Rattle.state.specs.Answers.{Said, accepted, gives, refused}
use Rattle.state.specs.State.{open_checks}
use Rattle.runs.specs.Run.{Step, read, end, claim, number, repeat, finish}

-- The phases of a session with what it has accepted in each (PANEL 6): over, nothing counts any more; reading, the arcs so far; read, the arcs; claimed, the arcs read,
-- the number of the claim, the node numbers and the repeated arcs with their amounts.
pub data AcceptedLists : Type 0 where
  over : AcceptedLists
  reading : List Arc → AcceptedLists
  has_read : List Arc → AcceptedLists
  claimed : List Arc → ℕ → List ℤ → List Load → AcceptedLists

-- Is reading under way?
abbrev pub is_reading : AcceptedLists → Bool
is_reading over = false
is_reading (reading l) = true
is_reading (has_read l) = false
is_reading (claimed l k ys f) = false

-- Has reading just ended, with no claim yet?
abbrev pub has_just_read : AcceptedLists → Bool
has_just_read over = false
has_just_read (reading l) = false
has_just_read (has_read l) = true
has_just_read (claimed l k ys f) = false

-- Does a claim stand?
abbrev pub is_claimed : AcceptedLists → Bool
is_claimed over = false
is_claimed (reading l) = false
is_claimed (has_read l) = false
is_claimed (claimed l k ys f) = true

-- The arcs read.
abbrev pub read_in : AcceptedLists → List Arc
read_in over = []
read_in (reading l) = l
read_in (has_read l) = l
read_in (claimed l k ys f) = l

-- The number of the claim, 0 before there is one.
abbrev pub claimed_in : AcceptedLists → ℕ
claimed_in over = 0
claimed_in (reading l) = 0
claimed_in (has_read l) = 0
claimed_in (claimed l k ys f) = k

-- The node numbers given.
abbrev pub numbered_in : AcceptedLists → List ℤ
numbered_in over = []
numbered_in (reading l) = []
numbered_in (has_read l) = []
numbered_in (claimed l k ys f) = ys

-- The arcs repeated, with their amounts.
abbrev pub repeated_in : AcceptedLists → List Load
repeated_in over = []
repeated_in (reading l) = []
repeated_in (has_read l) = []
repeated_in (claimed l k ys f) = f

-- The claim c with the node numbers ys.
abbrev pub numbers_of : Claim → List ℤ → Numbers
numbers_of c ys = record { claim = c; given = length ys; number = at ys; mark = marked (at ys) }

-- The sums over the repeated arcs f (PANEL 5, checks 15 and 16).
abbrev pub sums_at : Setting → List ℤ → List Load → Sums
sums_at st ys f = sums_of (asks st) (marked (at ys)) f

-- The claim and the node numbers of what is accepted.
abbrev pub numbers_accepted : AcceptedLists → Numbers
numbers_accepted x = numbers_of (claim_of (claimed_in x)) (numbered_in x)

-- The sums over the repeated arcs of what is accepted.
abbrev pub sums_accepted : Setting → AcceptedLists → Sums
sums_accepted st x = sums_at st (numbered_in x) (repeated_in x)

-- Do two lists of arcs have equal fingerprints at the pair of points (check 14)?
abbrev pub agree_at : Point → List Arc → List Arc → Bool
agree_at r l m = same_print (print_of r l) (print_of r m)

-- ---- a step (PANEL 6)

-- The checks of a step in their order, 5 first: is it the step's turn? `agree` compares two lists of arcs.
abbrev pub step_checks : (List Arc → List Arc → Bool) → Setting → AcceptedLists → Step → List Check
step_checks agree st x (read e) = 5 unless is_reading x ∷ reading_checks st (length (read_in x)) e
step_checks agree st x end = 5 unless is_reading x ∷ []
step_checks agree st x (claim k) = 5 unless has_just_read x ∷ claiming_checks st k
step_checks agree st x (number z) = 5 unless is_claimed x ∷ numbering_checks st (claim_of (claimed_in x)) (length (numbered_in x)) z
step_checks agree st x (repeat b) = 5 unless is_claimed x ∷ repeating_checks st (numbers_accepted x) (length (read_in x)) (length (repeated_in x)) b
step_checks agree st x finish =
    5 unless is_claimed x
    ∷ finishing_checks st (numbers_accepted x) (length (read_in x)) (length (repeated_in x)) (agree (read_in x) (arcs (repeated_in x))) (sums_accepted st x)

-- What is accepted once the step is: what it brings stands at the end of its list. Finishing ends the session.
abbrev pub with_step : AcceptedLists → Step → AcceptedLists
with_step x (read e) = reading (read_in x ++ e ∷ [])
with_step x end = has_read (read_in x)
with_step x (claim k) = claimed (read_in x) k [] []
with_step x (number z) = claimed (read_in x) (claimed_in x) (numbered_in x ++ z ∷ []) (repeated_in x)
with_step x (repeat b) = claimed (read_in x) (claimed_in x) (numbered_in x) (repeated_in x ++ b ∷ [])
with_step x finish = over

-- What an accepted step answers: finishing gives a value or none.
abbrev pub accepted_says : Setting → AcceptedLists → Step → Said
accepted_says st x (read e) = accepted
accepted_says st x end = accepted
accepted_says st x (claim k) = accepted
accepted_says st x (number z) = accepted
accepted_says st x (repeat b) = accepted
accepted_says st x finish = gives (answer_of st (claim_of (claimed_in x)) (sums_accepted st x))

-- What a refusal leaves: all as it was, but nothing where a claim stands and the refusal is not 5.
abbrev pub after_refusal : AcceptedLists → ℕ → AcceptedLists
after_refusal x why = pick (is_claimed x) (pick (eqb why 5) x over) x

-- What a step leaves: the first check that does not hold decides.
abbrev pub next : (List Arc → List Arc → Bool) → Setting → AcceptedLists → Step → AcceptedLists
next agree st x a = settle (after_refusal x) (step_checks agree st x a) (with_step x a)

-- What a step answers: the first check that does not hold decides.
abbrev pub reply : (List Arc → List Arc → Bool) → Setting → AcceptedLists → Step → Said
reply agree st x a = settle refused (step_checks agree st x a) (accepted_says st x a)

-- What a list of steps answers.
unfoldable pub replies : (List Arc → List Arc → Bool) → Setting → AcceptedLists → List Step → List Said
replies agree st x [] = []
replies agree st x (a ∷ steps) = reply agree st x a ∷ replies agree st (next agree st x a) steps

-- What is accepted after a list of steps.
unfoldable pub accepted_after : (List Arc → List Arc → Bool) → Setting → AcceptedLists → List Step → AcceptedLists
accepted_after agree st x [] = x
accepted_after agree st x (a ∷ steps) = accepted_after agree st (next agree st x a) steps

-- What opening leaves (PANEL 6, checks 1 to 4): no arc read yet; a refused one is over.
abbrev pub opened_lists : Setting → Point → AcceptedLists
opened_lists st r = settle (λ why. over) (open_checks st r) (reading [])

-- What is accepted once a session was opened at a pair of points and has run through a list of steps.
abbrev pub accepted_by : Setting → Point → List Step → AcceptedLists
accepted_by st r steps = accepted_after (agree_at r) st (opened_lists st r) steps

-- The arcs read are those of the list `net`, unless the session is over.
abbrev pub ReadIs : List Arc → AcceptedLists → Type 0
ReadIs net over = Unit {0}
ReadIs net (reading l) = l ≡ net
ReadIs net (has_read l) = l ≡ net
ReadIs net (claimed l k ys f) = l ≡ net
