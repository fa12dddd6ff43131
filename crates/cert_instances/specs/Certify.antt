-- What the solver is handed and what it hands back: records of arcs, node numbers, amounts, and a claim.
use Rattle.std.specs.Prelude.{◌≡◌, Bool, true, false, ◌&&◌, List, map, ℕ, ◌<◌, eqb, leb, ℤ, pos, length, Result, Ok, Err}
use Rattle.prelude.specs.Checks.{first_broken}
use Rattle.prelude.specs.Lists.{all, at}
use Rattle.arc_records.specs.Limits.{most_arcs, most_potential}
use Rattle.arc_records.specs.Arcs.{Arc, word_arc, word_arcs}
use Rattle.network.specs.Network.{loads_of}
use Rattle.network.specs.Question.{Question, shortest_path, maximum_flow, assignment, acyclicity, unasked, Setting, asks, unit_cost, Answer, value, none, TrueAnswer}
use Rattle.network.specs.Certificate.{Claim, of_value, of_none, claim_for, Certified}
use Rattle.network.specs.Tests.{claim_number, opening_checks, arc_checks}
use Rattle.packed_arcs.specs.Entries.{entry}
use Rattle.packed_arcs.specs.PackedArcs.{packed_arc}
use Rattle.cert_instances.specs.declared.Claim.{Claim as Claimed}
use Rattle.cert_instances.specs.declared.Claim.TheVariants.{Value, None}
use Rattle.cert_instances.specs.declared.Inadmissible.{Inadmissible}
use Rattle.cert_instances.specs.declared.vertices.NumberKind.{NumberKind}
use Rattle.cert_instances.specs.Instance.{toward, number_of}

-- ---- what is handed over

-- Checks 7 and 8 (PANEL 6) let the arc of the record through.
abbrev pub record_ok : Setting → ℕ → Bool
record_ok st r = eqb (first_broken (arc_checks st (word_arc r))) 0

-- What the solver answers: a setting that opening accepts, at most as many records as are read, whose arcs reading accepts, and room for one number a vertex and one amount a record.
abbrev pub admissible : Setting → List ℕ → ℕ → ℕ → Bool
admissible st rs numbers amounts =
    eqb (first_broken (opening_checks st)) 0 && leb (length rs) most_arcs && eqb numbers st.n && eqb amounts (length rs) && all (record_ok st) rs

-- ---- how a flow search is asked

-- The capacity of an arc: 1 for a path, for one unit is sent; its own for a flow. For an assignment and for acyclicity a flow search is not asked.
abbrev pub capacity_for : Question → Arc → ℕ
capacity_for shortest_path e = 1
capacity_for maximum_flow e = e.weight
capacity_for assignment e = 0
capacity_for acyclicity e = 0
capacity_for unasked e = 0

-- The arc of a record, packed for a flow search: a unit costs there what the question says.
abbrev pub packed_for : Question → ℕ → ℕ
packed_for q r = packed_arc (word_arc r).tail (word_arc r).head (unit_cost q (word_arc r)) (capacity_for q (word_arc r))

-- The column of costs.
abbrev pub costs : Question → List Arc → List ℕ
costs q net = map (unit_cost q) net

-- The column of capacities.
abbrev pub capacities : Question → List Arc → List ℕ
capacities q net = map (capacity_for q) net

-- The numbers written for the entries of a list.
pub record NodeNumbers (kind : NumberKind) (from : List ℕ) (ys : List ℤ) : Type 0 where
  pub len : length ys ≡ length from
  pub each : (v : ℕ) → v < length from → at ys v ≡ pos (number_of kind (entry from v))

-- ---- what is handed back

-- The number that tells the true answer for a vertex (PANEL 9): its least length, or as high as a potential goes where no walk leads; for the claim none, 1 where a walk leads and 0 elsewhere.
abbrev pub told_by : Claim → Answer → ℤ
told_by of_value (value d) = pos d
told_by of_value none = pos most_potential
told_by of_none (value d) = pos 1
told_by of_none none = pos 0

-- The number of the vertex v tells the true answer for it.
pub record Told (st : Setting) (net : List Arc) (c : Claim) (y : ℕ → ℤ) (v : ℕ) : Type 0 where
  pub answer : Answer
  pub is_true : TrueAnswer (toward st v) net answer
  pub told : y v ≡ told_by c answer

-- For a path every node number tells its vertex's own answer (PANEL 9); the other questions ask no more than a certificate.
abbrev pub LengthsFor : Question → Setting → List Arc → Claim → (ℕ → ℤ) → Type 0
LengthsFor shortest_path st net c y = (v : ℕ) → v < st.n → Told st net c y v
LengthsFor maximum_flow st net c y = Unit {0}
LengthsFor assignment st net c y = Unit {0}
LengthsFor acyclicity st net c y = Unit {0}
LengthsFor unasked st net c y = Unit {0}

-- The number of a claim.
abbrev pub claimed : Claimed → ℕ
claimed Value = 1
claimed None = 2

-- The number of the claim that was found; 0 for a refusal.
abbrev pub finding_number : Result Claimed Inadmissible → ℕ
finding_number (Ok c) = claimed c
finding_number (Err e) = 0

-- The annotation ys, xs is a certificate of the answer, and the reply its claim.
pub record Solution (st : Setting) (net : List Arc) (ys : List ℤ) (xs : List ℕ) (reply : ℕ) : Type 0 where
  pub answer : Answer
  pub certified : Certified st (at ys) (loads_of net xs) answer
  pub lengths : LengthsFor (asks st) st net (claim_for answer) (at ys)
  pub reply_is : reply ≡ claim_number (claim_for answer)

-- The outcome: refused, with nothing changed; or a certificate.
pub data CertifyOutcome (st : Setting) (rs : List ℕ) (ys : List ℤ) (xs : List ℕ) (ys' : List ℤ) (xs' : List ℕ) (reply : ℕ) : Type 0 where
  refused : admissible st rs (length ys) (length xs) ≡ false → ys' ≡ ys → xs' ≡ xs → reply ≡ 0 → CertifyOutcome st rs ys xs ys' xs' reply
  solved :
      admissible st rs (length ys) (length xs) ≡ true → length ys' ≡ length ys → length xs' ≡ length xs
      → Solution st (word_arcs rs) ys' xs' reply → CertifyOutcome st rs ys xs ys' xs' reply
