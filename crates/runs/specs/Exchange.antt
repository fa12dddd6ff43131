-- An exchange in order: the arcs read, the claim, the node numbers, the arcs again, finishing; and its rules in the order in which a session meets them (PANEL 6).
use Rattle.std.specs.Prelude.{◌≡◌, List, [], ◌∷◌, ◌++◌, map, ℕ, suc, ◌≤◌, ℤ, length}
use Rattle.prelude.specs.Checks.{Check, settle}
use Rattle.prelude.specs.Lists.{Every, at}
use Rattle.arc_records.specs.Limits.{most_arcs}
use Rattle.arc_records.specs.Arcs.{Arc}
use Rattle.network.specs.Network.{Load, arcs}
use Rattle.network.specs.Question.{Setting, Opened, Allowed, Answer}
use Rattle.network.specs.Certificate.{Claim, claim_for, Certified}
use Rattle.network.specs.Tests.{reading_all, claim_number, claim_of, claiming_checks, Numbers, numbering_checks, repeating_checks, finishing_checks, answer_of}
use Rattle.points.specs.Points.{IsPoint, print_of}
use Rattle.points.specs.declared.Point.{Point}
use Rattle.state.specs.Answers.{Said, accepted, gives, refused}
use Rattle.runs.specs.Run.{Step, read, end, claim, number, repeat, finish}
use Rattle.runs.specs.AcceptedLists.{numbers_of, sums_at, agree_at, AcceptedLists, over, reading, has_read, claimed}

-- The steps of an exchange in order: k is the number of the claim.
abbrev pub exchange : List Arc → ℕ → List ℤ → List Load → List Step
exchange net k ys f = map read net ++ (end ∷ claim k ∷ (map number ys ++ (map repeat f ++ (finish ∷ []))))

-- The first answer that is not `accepted`: the first refusal, or the value or none.
abbrev pub outcome : List Said → Said
outcome [] = accepted
outcome (accepted ∷ rest) = outcome rest
outcome (gives a ∷ rest) = gives a
outcome (refused k ∷ rest) = refused k

-- The last answer: what finishing gave.
abbrev pub last : List Said → Said
last [] = accepted
last (a ∷ []) = a
last (a ∷ b ∷ rest) = last (b ∷ rest)

-- ---- the rules, in the order of the checks

-- The rules of all the node numbers, where i are given already.
unfoldable pub numbering_all : Setting → Claim → ℕ → List ℤ → List Check
numbering_all st c i [] = []
numbering_all st c i (z ∷ ys) = numbering_checks st c i z ++ numbering_all st c (suc i) ys

-- The rules of all the arcs repeated, where m are read and i repeated already.
unfoldable pub repeating_all : Setting → Numbers → ℕ → ℕ → List Load → List Check
repeating_all st a m i [] = []
repeating_all st a m i (l ∷ f) = repeating_checks st a m i l ++ repeating_all st a m (suc i) f

-- The rules of an annotation: the claim, the node numbers, the repeated arcs.
abbrev pub annotation_rules : Setting → ℕ → ℕ → List ℤ → List Load → List Check
annotation_rules st m k ys f = claiming_checks st k ++ (numbering_all st (claim_of k) 0 ys ++ repeating_all st (numbers_of (claim_of k) ys) m 0 f)

-- The rules of finishing.
abbrev pub final_rules : Setting → Point → List Arc → ℕ → List ℤ → List Load → List Check
final_rules st r net k ys f =
    finishing_checks st (numbers_of (claim_of k) ys) (length net) (length f) (agree_at r net (arcs f)) (sums_at st ys f)

-- The verdict: the first rule broken, in the order of the checks, or the answer.
abbrev pub verdict : Setting → Point → List Arc → ℕ → List ℤ → List Load → Said
verdict st r net k ys f =
    settle refused
    (reading_all st 0 net ++ (annotation_rules st (length net) k ys f ++ final_rules st r net k ys f))
    (gives (answer_of st (claim_of k) (sums_at st ys f)))

-- ---- the same rules, as the certificate states them

-- Opening accepts the setting and the pair of points.
pub record Opens (st : Setting) (r : Point) : Type 0 where
  pub opened : Opened st
  pub point : IsPoint r

-- Reading accepts every arc.
pub record Readable (st : Setting) (net : List Arc) : Type 0 where
  pub allowed : Every (Allowed st) net
  pub few : length net ≤ most_arcs

-- The annotation meets every rule of the certificate for the answer a, equal fingerprints taken for equal lists of arcs (PANEL 12, demand 2): the claim is that of the answer, there is
-- one node number for each vertex, the repeated arcs are such as may be read, they are a certificate, and as many as were read, with the same fingerprint.
pub record Meets (st : Setting) (r : Point) (net : List Arc) (k : ℕ) (ys : List ℤ) (f : List Load) (a : Answer) : Type 0 where
  pub claims : k ≡ claim_number (claim_for a)
  pub one_each : length ys ≡ st.n
  pub records : Every (Allowed st) (arcs f)
  pub certificate : Certified st (at ys) f a
  pub as_many : length f ≡ length net
  pub fingerprints : print_of r net ≡ print_of r (arcs f)

-- What is accepted meets every rule for the answer a: a claim stands, and its lists do.
abbrev pub MeetsAll : Setting → Point → AcceptedLists → Answer → Type 0
MeetsAll st r over a = ⊥
MeetsAll st r (reading l) a = ⊥
MeetsAll st r (has_read l) a = ⊥
MeetsAll st r (claimed l k ys f) a = Meets st r l k ys f a
