-- The pairing as it was before pumps could be spare: a perfect matching (PANEL 3). It stands here for one promise alone, SameWhereHalf.
use Rattle.std.specs.Prelude.{◌≡◌, List, ℕ, ◌≤◌, ◌<◌}
use Rattle.prelude.specs.Lists.{Every}
use Rattle.arc_records.specs.Arcs.{Arc}
use Rattle.network.specs.Network.{Load, arcs, degree, cost}
use Rattle.network.specs.Question.{Setting, Answer, value, none}

-- A perfect matching (PANEL 3): the amount is 1 at the arcs chosen and 0 at the others, and each vertex is an end of one chosen arc.
pub record PerfectMatching (st : Setting) (net : List Arc) (f : List Load) : Type 0 where
  pub each : arcs f ≡ net
  pub chosen : Every (λ l. l.amount ≤ 1) f
  pub once : (v : ℕ) → v < st.n → degree v f ≡ 1

-- A cheapest perfect matching costs v (PANEL 3).
pub record CheapestPerfect (st : Setting) (net : List Arc) (v : ℕ) : Type 0 where
  pub chosen : List Load
  pub is_perfect : PerfectMatching st net chosen
  pub attained : cost chosen ≡ v
  pub least : (f : List Load) → PerfectMatching st net f → v ≤ cost f

-- The answer that was true of a pairing (PANEL 3): the cost of a cheapest perfect matching, or none where there is no perfect matching.
abbrev pub PerfectlyTrue : Setting → List Arc → Answer → Type 0
PerfectlyTrue st net (value v) = CheapestPerfect st net v
PerfectlyTrue st net none = (f : List Load) → ¬ (PerfectMatching st net f)
