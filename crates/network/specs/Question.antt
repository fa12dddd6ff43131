-- The questions, what may be asked, and the true answers by the textbook (PANEL 3).
use Rattle.std.specs.Prelude.{◌≡◌, ◌≢◌, List, [], ◌∷◌, ℕ, ◌-◌, ◌≤◌, ◌<◌, eqb, pos, length, ◌≤ℤ◌}
use Rattle.prelude.specs.Choice.{pick}
use Rattle.prelude.specs.Lists.{Every, Member}
use Rattle.arc_records.specs.Limits.{most_vertices, most_arcs, most_weight}
use Rattle.arc_records.specs.Arcs.{Arc}
use Rattle.network.specs.Network.{Load, arcs, leaving, entering, balance, degree, cost, total}

-- ---- what is asked

-- The four questions (PANEL 3), and no question.
pub data Question : Type 0 where
  shortest_path : Question
  maximum_flow : Question
  assignment : Question
  acyclicity : Question
  unasked : Question

-- The question of a number (PANEL 3): 1 route, 2 discharge, 3 pairing, 4 loops; any other number asks nothing.
abbrev pub question_of : ℕ → Question
question_of k = pick (eqb k 1) shortest_path (pick (eqb k 2) maximum_flow (pick (eqb k 3) assignment (pick (eqb k 4) acyclicity unasked)))

-- What opening is handed but for the points: the question's number, the number n of vertices 0 to n - 1, the source s and the sink t; for pairing s is the number of pumps.
pub record Setting : Type 0 where
  pub question : ℕ
  pub n : ℕ
  pub s : ℕ
  pub t : ℕ

-- The question that is asked.
abbrev pub asks : Setting → Question
asks st = question_of st.question

-- How many pumps there are, for pairing (PANEL 3): s of them, the vertices below s.
abbrev pub pumps : Setting → ℕ
pumps st = st.s

-- How many sites there are, for pairing (PANEL 3): the other vertices.
abbrev pub sites : Setting → ℕ
sites st = st.n - pumps st

-- ---- what the weight of an arc means, by the question

-- What a unit on the arc costs: the length for a path, nothing for a flow, the cost for an assignment. For acyclicity every unit counts 1, whatever the weight.
abbrev pub unit_cost : Question → Arc → ℕ
unit_cost shortest_path e = e.weight
unit_cost maximum_flow e = 0
unit_cost assignment e = e.weight
unit_cost acyclicity e = 1
unit_cost unasked e = 0

-- How many units the arc may carry: the capacity for a flow; elsewhere an arc is used or not.
abbrev pub units_most : Question → Arc → ℕ
units_most shortest_path e = 1
units_most maximum_flow e = e.weight
units_most assignment e = 1
units_most acyclicity e = 1
units_most unasked e = 0

-- ---- what opening and reading allow

-- The number is that of a question (PANEL 6, check 1).
abbrev pub Asked : Question → Type 0
Asked shortest_path = Unit {0}
Asked maximum_flow = Unit {0}
Asked assignment = Unit {0}
Asked acyclicity = Unit {0}
Asked unasked = ⊥

-- There are 2 to 255 vertices (PANEL 6, check 2).
pub record Sized (st : Setting) : Type 0 where
  pub at_least : 2 ≤ st.n
  pub at_most : st.n ≤ most_vertices

-- s and t are two different vertices (PANEL 6, check 3).
pub record TwoVertices (st : Setting) : Type 0 where
  pub source_below : st.s < st.n
  pub sink_below : st.t < st.n
  pub apart : st.s ≢ st.t

-- s and t are both 0 (PANEL 6, check 3).
pub record BothZero (st : Setting) : Type 0 where
  pub source_zero : st.s ≡ 0
  pub sink_zero : st.t ≡ 0

-- s is a number of pumps, one at least, that leaves a site, and t is 0 (PANEL 6, check 3).
pub record PumpsAndSites (st : Setting) : Type 0 where
  pub some_pump : 1 ≤ st.s
  pub some_site : st.s < st.n
  pub sink_zero : st.t ≡ 0

-- What s and t have to be, by the question (PANEL 6, check 3).
abbrev pub EndsFor : Question → Setting → Type 0
EndsFor shortest_path st = TwoVertices st
EndsFor maximum_flow st = TwoVertices st
EndsFor assignment st = PumpsAndSites st
EndsFor acyclicity st = BothZero st
EndsFor unasked st = ⊥

-- A setting that opening accepts (PANEL 6, checks 1 to 3).
pub record Opened (st : Setting) : Type 0 where
  pub asked : Asked (asks st)
  pub sized : Sized st
  pub ends : EndsFor (asks st) st

-- The arc leads from a pump to a site (PANEL 6, check 7).
pub record PumpToSite (st : Setting) (e : Arc) : Type 0 where
  pub from_pump : e.tail < pumps st
  pub to_site : pumps st ≤ e.head

-- Which sides the arc has to join, by the question (PANEL 6, check 7).
abbrev pub SidesFor : Question → Setting → Arc → Type 0
SidesFor shortest_path st e = Unit {0}
SidesFor maximum_flow st e = Unit {0}
SidesFor assignment st e = PumpToSite st e
SidesFor acyclicity st e = Unit {0}
SidesFor unasked st e = ⊥

-- The ends of the arc are vertices, on the sides that the question asks for (PANEL 6, check 7). Both may be one vertex, but for an assignment, by the sides.
pub record Joins (st : Setting) (e : Arc) : Type 0 where
  pub tail_below : e.tail < st.n
  pub head_below : e.head < st.n
  pub sides : SidesFor (asks st) st e

-- The weight is within its limit (PANEL 6, check 8).
abbrev pub WeightWithin : Arc → Type 0
WeightWithin e = e.weight ≤ most_weight

-- An arc that reading accepts (PANEL 6, checks 7 and 8).
pub record Allowed (st : Setting) (e : Arc) : Type 0 where
  pub joins : Joins st e
  pub weight_within : WeightWithin e

-- What may be read: opening accepts the setting, reading accepts each arc, and there are not too many (PANEL 3).
pub record Admissible (st : Setting) (net : List Arc) : Type 0 where
  pub opened : Opened st
  pub allowed : Every (Allowed st) net
  pub few : length net ≤ most_arcs

-- ---- answers

-- An answer is a value, or none (PANEL 3).
pub data Answer : Type 0 where
  value : ℕ → Answer
  none : Answer

-- ---- 1, route: shortest path

-- The arcs, one after the other, lead from the vertex u to the vertex t.
abbrev pub Leads : ℕ → List Arc → ℕ → Type 0
Leads u [] t = u ≡ t
Leads u (e ∷ es) t = (e.tail ≡ u) × Leads e.head es t

-- A walk from s to t over arcs of the network (PANEL 3): at the gate a chain of records.
pub record Walk (st : Setting) (net es : List Arc) : Type 0 where
  pub over : Every (λ e. Member e net) es
  pub leads : Leads st.s es st.t

-- A shortest path has the length v (PANEL 3): one walk has it, and no walk is shorter.
pub record ShortestPath (st : Setting) (net : List Arc) (v : ℕ) : Type 0 where
  pub path : List Arc
  pub is_walk : Walk st net path
  pub attained : total path ≡ v
  pub least : (es : List Arc) → Walk st net es → v ≤ total es

-- None is true of a route (PANEL 3): there is no walk.
abbrev pub NoWalk : Setting → List Arc → Type 0
NoWalk st net = (es : List Arc) → ¬ (Walk st net es)

-- ---- 2, discharge: maximum flow

-- A flow (PANEL 3): each arc carries an amount within its capacity, and nothing is gained or lost at a vertex that is neither s nor t.
pub record Flow (st : Setting) (net : List Arc) (f : List Load) : Type 0 where
  pub each : arcs f ≡ net
  pub within : Every (λ l. l.amount ≤ l.arc.weight) f
  pub conserved : (v : ℕ) → v < st.n → v ≢ st.s → v ≢ st.t → leaving v f ≡ entering v f

-- A maximum flow has the value v (PANEL 3): one flow sends so much out of s, less what enters s, and no flow sends more.
pub record MaximumFlow (st : Setting) (net : List Arc) (v : ℕ) : Type 0 where
  pub flow : List Load
  pub is_flow : Flow st net flow
  pub attained : balance st.s flow ≡ pos v
  pub greatest : (f : List Load) → Flow st net f → balance st.s f ≤ℤ pos v

-- ---- 3, pairing: assignment

-- An assignment (PANEL 3): the amount is 1 at the arcs chosen and 0 at the others; each pump is an end of one chosen arc at most, and each site of exactly one.
pub record Assignment (st : Setting) (net : List Arc) (f : List Load) : Type 0 where
  pub each : arcs f ≡ net
  pub chosen : Every (λ l. l.amount ≤ 1) f
  pub pumps_once : (v : ℕ) → v < pumps st → degree v f ≤ 1
  pub sites_once : (v : ℕ) → pumps st ≤ v → v < st.n → degree v f ≡ 1

-- A cheapest assignment costs v (PANEL 3): one costs that, and none costs less.
pub record CheapestAssignment (st : Setting) (net : List Arc) (v : ℕ) : Type 0 where
  pub chosen : List Load
  pub is_assignment : Assignment st net chosen
  pub attained : cost chosen ≡ v
  pub least : (f : List Load) → Assignment st net f → v ≤ cost f

-- None is true of a pairing (PANEL 3): there is no assignment.
abbrev pub NoAssignment : Setting → List Arc → Type 0
NoAssignment st net = (f : List Load) → ¬ (Assignment st net f)

-- ---- 4, loops: acyclicity

-- A closed walk (PANEL 3), at the gate a loop: arcs of the network, one at least, that lead from a vertex back to it. A self-loop is one by itself.
pub record ClosedWalk (net : List Arc) : Type 0 where
  pub vertex : ℕ
  pub walk : List Arc
  pub nonempty : walk ≢ []
  pub over : Every (λ e. Member e net) walk
  pub leads : Leads vertex walk vertex

-- The value v is true of a network without loops (PANEL 3): there is no closed walk, and v is 0.
pub record Acyclic (net : List Arc) (v : ℕ) : Type 0 where
  pub no_closed_walk : ¬ (ClosedWalk net)
  pub zero : v ≡ 0

-- ---- the true answer

-- Which answer is true, by the question (PANEL 3). A maximum flow always exists, so none is never true of it; of loops none is true exactly where there is a closed walk.
abbrev pub TrueFor : Question → Setting → List Arc → Answer → Type 0
TrueFor shortest_path st net (value v) = ShortestPath st net v
TrueFor shortest_path st net none = NoWalk st net
TrueFor maximum_flow st net (value v) = MaximumFlow st net v
TrueFor maximum_flow st net none = ⊥
TrueFor assignment st net (value v) = CheapestAssignment st net v
TrueFor assignment st net none = NoAssignment st net
TrueFor acyclicity st net (value v) = Acyclic net v
TrueFor acyclicity st net none = ClosedWalk net
TrueFor unasked st net a = ⊥

-- The answer is the true one for the setting and the network (PANEL 12).
abbrev pub TrueAnswer : Setting → List Arc → Answer → Type 0
TrueAnswer st net a = TrueFor (asks st) st net a
