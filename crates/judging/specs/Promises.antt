-- What is promised of judging: demand 3 for files; proofs/Promises.antt keeps it.
use Rattle.std.specs.Prelude.{◌≡◌, List, ℕ, ◌≤◌, ℤ, length}
use Rattle.prelude.specs.Lists.{Every, Perm, AtMost, at}
use Rattle.network.specs.Network.{Load, arcs}
use Rattle.network.specs.Question.{Answer, TrueAnswer}
use Rattle.network.specs.Certificate.{claim_for, Certified}
use Rattle.network.specs.Tests.{claim_number}
use Rattle.points.specs.Points.{IsPoint, count_points, misleading_points}
use Rattle.points.specs.declared.Point.{Point}
use Rattle.format.specs.Files.{setting_in, n_in, arcs_in, annotation_file}
use Rattle.format.specs.Promises.{LoadFits, Signed32}
use Rattle.acceptance.specs.Acceptance.{AcceptedFile}
use Rattle.state.specs.Answers.{gives}
use Rattle.runs.specs.Run.{is_other}
use Rattle.judging.specs.Judging.{judged, judged_by_steps, JudgedWrong}

-- Judging is the session's, for every two files and every pair of points: also where a layout, opening or a step refuses (PANEL 8).
abbrev pub JudgedBySteps : Type 0
JudgedBySteps = (net ann : List ℕ) (r : Point) → judged net ann r ≡ judged_by_steps net ann r

-- Judging any two files (PANEL 12, demand 3) gives a wrong answer at (m - 1) × (m - 1) pairs of points at most, at none for m 0 or 1, where the network file has m records.
abbrev pub FewJudgedWrong : Type 0
FewJudgedWrong = (net ann : List ℕ) → AtMost (misleading_points (length (arcs_in net))) (JudgedWrong net ann)

-- The same as a count: a being the true answer, of the p × p pairs those at which judging gives another answer are (m - 1) × (m - 1) at most.
abbrev pub FewJudgedWrongCounted : Type 0
FewJudgedWrongCounted =
    (net ann : List ℕ) (a : Answer) → TrueAnswer (setting_in net) (arcs_in net) a
    → count_points (λ r. is_other a (judged net ann r)) ≤ misleading_points (length (arcs_in net))

-- Judging refuses where the network file is not accepted: what gives an answer has an accepted network file (PANEL 12, demand 3).
abbrev pub OnlyAccepted : Type 0
OnlyAccepted = (net ann : List ℕ) (r : Point) (a : Answer) → judged net ann r ≡ gives a → AcceptedFile net

-- An annotation file that holds a certificate over the records of an accepted network file, in any order, is answered at every pair of points, and truly.
abbrev pub CertificatesJudged : Type 0
CertificatesJudged =
    (net : List ℕ) (ys : List ℤ) (f : List Load) (a : Answer) (r : Point)
    → AcceptedFile net → length ys ≡ n_in net → Every Signed32 ys → Every LoadFits f → Perm (arcs f) (arcs_in net) → Certified (setting_in net) (at ys) f a → IsPoint r
    → (judged net (annotation_file (claim_number (claim_for a)) ys f) r ≡ gives a) × TrueAnswer (setting_in net) (arcs_in net) a
