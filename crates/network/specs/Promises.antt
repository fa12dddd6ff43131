-- What is promised of questions and certificates; proofs/Promises.antt keeps it.
use Rattle.std.specs.Prelude.{◌≡◌, ◌↔◌, ◌≢◌, Bool, false, List, ◌∷◌, ◌++◌, map, ℕ, ◌+◌, ◌*◌, ◌≤◌, ◌<◌, T, ℤ}
use Rattle.prelude.specs.Lists.{Every, Member, Perm}
use Rattle.field.specs.Field.{p}
use Rattle.arc_records.specs.Limits.{most_vertices, most_weight}
use Rattle.arc_records.specs.Arcs.{Arc, arc_of}
use Rattle.network.specs.Network.{SelfLoop, without_self_loops, Load, arcs, balance, crosses, key}
use Rattle.network.specs.Question.{Question, shortest_path, maximum_flow, assignment, acyclicity, unasked, Setting, asks, pumps, Asked, Sized, EndsFor, Opened, Joins, Allowed, WeightWithin, Answer, value, none, TrueAnswer}
use Rattle.network.specs.PerfectMatchings.{PerfectlyTrue}
use Rattle.network.specs.Certificate.{Claim, MayClaim, claim_for, marked, sums_of, Certified}
use Rattle.network.specs.Tests.{is_asked, size_ok, ends_ok, joins_ok, weight_ok, claim_ok, answer_of, Passed}

-- There is one true answer at most (PANEL 3).
abbrev pub OneAnswer : Type 0
OneAnswer = (st : Setting) (net : List Arc) (a b : Answer) → TrueAnswer st net a → TrueAnswer st net b → a ≡ b

-- The order of the arcs does not matter for the true answer (PANEL 3).
abbrev pub AnyOrder : Type 0
AnyOrder = (st : Setting) (net new : List Arc) → Perm net new → (a : Answer) → TrueAnswer st net a → TrueAnswer st new a

-- Every certificate is sound (PANEL 5): over the arcs of the network, in any order, it gives the true answer.
abbrev pub Sound : Type 0
Sound =
    (st : Setting) (net : List Arc) (y : ℕ → ℤ) (f : List Load) (a : Answer)
    → Opened st → Every (Allowed st) net → Perm (arcs f) net → Certified st y f a → TrueAnswer st net a

-- Where half of the vertices are pumps, the true answer of a pairing is what it was before pumps could be spare (PANEL 3), for all arcs that may be read, both ways.
abbrev pub SameWhereHalf : Type 0
SameWhereHalf =
    (st : Setting) (net : List Arc) (a : Answer)
    → asks st ≡ assignment → pumps st + pumps st ≡ st.n → Every (Allowed st) net → TrueAnswer st net a ↔ PerfectlyTrue st net a

-- The questions whose answers self-loops do not change (PANEL 3), though they are read.
abbrev pub PathOrFlow : Question → Type 0
PathOrFlow shortest_path = Unit {0}
PathOrFlow maximum_flow = Unit {0}
PathOrFlow assignment = ⊥
PathOrFlow acyclicity = ⊥
PathOrFlow unasked = ⊥

-- Which self-loops reading accepts (PANEL 6, check 7): for an assignment none, since no vertex is a pump and a site; for the other questions all within the limits.
pub record SelfLoopsRead : Type 0 where
  pub for_others : (st : Setting) (v w : ℕ) → Asked (asks st) → asks st ≢ assignment → v < st.n → w ≤ most_weight → Allowed st (arc_of v v w)
  pub not_for_assignment : (st : Setting) (e : Arc) → asks st ≡ assignment → Joins st e → ¬ (SelfLoop e)

-- What a self-loop carries cancels in every balance, wherever it is repeated (PANEL 5, check 15).
abbrev pub SelfLoopsCancel : Type 0
SelfLoopsCancel = (v : ℕ) (f g : List Load) (l : Load) → SelfLoop l.arc → balance v (f ++ l ∷ g) ≡ balance v (f ++ g)

-- No self-loop leads out of a set of vertices (PANEL 5, checks 12 and 16).
abbrev pub SelfLoopsStay : Type 0
SelfLoopsStay = (inside : ℕ → Bool) (e : Arc) → SelfLoop e → crosses inside e ≡ false

-- Self-loops change no true answer (PANEL 3): of a path and of a flow it is that of the network without them, both ways, for every list of arcs.
abbrev pub SelfLoopsChangeNothing : Type 0
SelfLoopsChangeNothing =
    (st : Setting) (net : List Arc) (a : Answer) → PathOrFlow (asks st) → TrueAnswer st net a ↔ TrueAnswer st (without_self_loops net) a

-- A self-loop is a closed walk by itself (PANEL 3): where loops are asked for and one is read, none is true.
abbrev pub SelfLoopsAreLoops : Type 0
SelfLoopsAreLoops = (st : Setting) (net : List Arc) (e : Arc) → asks st ≡ acyclicity → SelfLoop e → Member e net → TrueAnswer st net none

-- What a self-loop may carry in a certificate (PANEL 5, checks 11 and 16): of a flow whatever its capacity allows; of a path one unit where that costs nothing, and where there is no path nothing.
abbrev pub MayCarry : Question → Answer → Load → Type 0
MayCarry shortest_path (value v) l = (l.amount ≤ 1) × (l.amount * l.arc.weight ≡ 0)
MayCarry shortest_path none l = l.amount ≡ 0
MayCarry maximum_flow (value v) l = l.amount ≤ l.arc.weight
MayCarry maximum_flow none l = ⊥
MayCarry assignment a l = ⊥
MayCarry acyclicity a l = ⊥
MayCarry unasked a l = ⊥

-- Wherever a self-loop is repeated, with it an annotation certifies the same answers as without it, if what it carries is allowed, and none otherwise.
abbrev pub SelfLoopsCertified : Type 0
SelfLoopsCertified =
    (st : Setting) (y : ℕ → ℤ) (f g : List Load) (l : Load) (a : Answer)
    → PathOrFlow (asks st) → Opened st → Every (Allowed st) (arcs (f ++ l ∷ g)) → SelfLoop l.arc
    → Certified st y (f ++ l ∷ g) a ↔ (Certified st y (f ++ g) a × MayCarry (asks st) a l)

-- What the tests of opening, of an arc and of a claim mean (PANEL 6): each holds exactly where the rule of its check does.
pub record TestsMean : Type 0 where
  pub check_1 : (st : Setting) → T (is_asked (asks st)) ↔ Asked (asks st)
  pub check_2 : (st : Setting) → T (size_ok st) ↔ Sized st
  pub check_3 : (st : Setting) → T (ends_ok st) ↔ EndsFor (asks st) st
  pub check_7 : (st : Setting) (e : Arc) → T (joins_ok st e) ↔ Joins st e
  pub check_8 : (e : Arc) → T (weight_ok e) ↔ WeightWithin e
  pub check_9 : (st : Setting) (k : ℕ) → T (claim_ok st k) ↔ MayClaim (asks st) k

-- An annotation that passes every test meets every rule of the certificate for the answer that the tests give.
abbrev pub TestsSuffice : Type 0
TestsSuffice =
    (st : Setting) (c : Claim) (y : ℕ → ℤ) (f : List Load)
    → Opened st → Passed st c y f → Certified st y f (answer_of st c (sums_of (asks st) (marked y) f))

-- An annotation that meets every rule for an answer passes every test, and the tests give that answer.
abbrev pub TestsNeeded : Type 0
TestsNeeded =
    (st : Setting) (y : ℕ → ℤ) (f : List Load) (a : Answer)
    → Certified st y f a → Passed st (claim_for a) y f × (a ≡ answer_of st (claim_for a) (sums_of (asks st) (marked y) f))

-- The arcs that have keys of their own: vertices 0 to 254, weights 0 to 32767.
pub record Keyed (e : Arc) : Type 0 where
  pub tail_below : e.tail < most_vertices
  pub head_below : e.head < most_vertices
  pub weight_within : WeightWithin e

-- The keys of such arcs are below p (PANEL 4).
abbrev pub KeysBelow : Type 0
KeysBelow = (e : Arc) → Keyed e → key e < p

-- Two such arcs with one key are one arc (PANEL 4).
abbrev pub KeysDiffer : Type 0
KeysDiffer = (d e : Arc) → Keyed d → Keyed e → key d ≡ key e → d ≡ e

-- Arcs that reading accepts are permutations of one another where their keys are.
abbrev pub KeysTell : Type 0
KeysTell =
    (st : Setting) (net new : List Arc)
    → Opened st → Every (Allowed st) net → Every (Allowed st) new → Perm (map key net) (map key new) → Perm net new
