-- The rules of the seven certificates as propositions: what soundness argues with, and what a solver has to show. A certificate meets its row exactly where they hold.
use mathlib.Core.Path.{◌≡◌, refl, sym, ◌∙◌, ap}
use mathlib.Core.Logic.{◌≢◌}
use mathlib.Core.Bool.{true, false}
use mathlib.Core.List.{List, [], ◌∷◌}
use Prim.Native.Nat.{ℕ, ◌≤◌, ◌<◌}
use native.Mathlib.Omega.{arith}
use native.Mathlib.Decide.{ℕ_discrete}
use borrow.Author.Tests.{eq-eqb, ne_eqb, lt-ltb, le-ltb}
use lib.Dec.{T, eqb, leb, ltb, eqb→eq, leb→le, ltb→lt, lt→ltb, le→leb}
use lib.IntN.{ℤ, pos, negsuc, neg_ℤ, ◌+ℤ◌}
use lib.Signed.{◌≤ℤ◌, ◌<ℤ◌, le_z, le_z_yes, lt_z_yes}
use Rattle.prelude.specs.Choice.{pick, implies}
use Rattle.prelude.specs.Integers.{eq_z, between}
use Rattle.prelude.specs.Lists.{Every}
use Rattle.prelude.proofs.Booleans.{and_left, and_right, both, implied, if_so, not→false, false→not}
use Rattle.prelude.proofs.Integers.{eq_z→eq, eq→eq_z, neg_part, signed}
use Rattle.prelude.proofs.Lists.{every_map}
use Rattle.arc_records.specs.Limits.{most_potential}
use Rattle.network.specs.Network.{Load, arcs, sum_of, balance, cost, crosses, cut}
use Rattle.network.specs.Question.{Question, shortest_path, maximum_flow, assignment, acyclicity, unasked, Setting, asks, pumps, TwoVertices, EndsFor, Answer, value, none}
use Rattle.network.specs.Certificate.{Rules, path_rules, flow_rules, assignment_rules, no_path_rules, no_assignment_rules, acyclic_rules, cyclic_rules, rules_for, marked, separates, path_balance, assignment_balance, pump_not_negative, potential_gap, more_sites_unmarked, node_meets, CertifiedBy, claim_for, Certified}

-- ---- the rules

pub record InRange (low high z : ℤ) : Type 0 where
  pub above : low ≤ℤ z
  pub below : z ≤ℤ high

abbrev pub Potentials : Setting → (ℕ → ℤ) → Type 0
Potentials st y = (v : ℕ) → v < st.n → InRange (neg_ℤ (pos most_potential)) (pos most_potential) (y v)

abbrev pub Marks : Setting → (ℕ → ℤ) → Type 0
Marks st y = (v : ℕ) → v < st.n → InRange (pos 0) (pos 1) (y v)

abbrev pub SourceZero : Setting → (ℕ → ℤ) → Type 0
SourceZero st y = y st.s ≡ pos 0

abbrev pub SourceMarked : Setting → (ℕ → ℤ) → Type 0
SourceMarked st y = y st.s ≡ pos 1

abbrev pub SinkUnmarked : Setting → (ℕ → ℤ) → Type 0
SinkUnmarked st y = y st.t ≡ pos 0

abbrev pub ZeroOrOne : Load → Type 0
ZeroOrOne l = l.amount ≤ 1

abbrev pub WithinCapacity : Load → Type 0
WithinCapacity l = l.amount ≤ l.arc.weight

abbrev pub NoAmount : Load → Type 0
NoAmount l = l.amount ≡ 0

-- whatever the amount
abbrev pub Feasible : (ℕ → ℤ) → Load → Type 0
Feasible y l = y l.arc.head ≤ℤ (y l.arc.tail +ℤ pos l.arc.weight)

abbrev pub Closed : (ℕ → ℤ) → Load → Type 0
Closed y l = crosses (marked y) l.arc ≡ false

abbrev pub Rises : (ℕ → ℤ) → Load → Type 0
Rises y l = y l.arc.tail <ℤ y l.arc.head

abbrev pub PathBalances : Setting → List Load → Type 0
PathBalances st f = (v : ℕ) → v < st.n → balance v f ≡ path_balance st v

abbrev pub Conserved : Setting → List Load → Type 0
Conserved st f = (v : ℕ) → v < st.n → v ≢ st.s → v ≢ st.t → balance v f ≡ pos 0

abbrev pub PumpsNotNegative : Setting → (ℕ → ℤ) → Type 0
PumpsNotNegative st y = (v : ℕ) → v < st.n → T (pump_not_negative st v (y v))

abbrev pub AssignmentBalances : Setting → List Load → Type 0
AssignmentBalances st f = (v : ℕ) → v < st.n → T (assignment_balance st v (balance v f))

abbrev pub Circulates : Setting → List Load → Type 0
Circulates st f = (v : ℕ) → v < st.n → balance v f ≡ pos 0

abbrev pub LengthIsPotential : Setting → (ℕ → ℤ) → List Load → Type 0
LengthIsPotential st y f = pos (cost f) ≡ y st.t

abbrev pub FlowIsCut : Setting → (ℕ → ℤ) → List Load → Type 0
FlowIsCut st y f = balance st.s f ≡ pos (cut (marked y) (arcs f))

abbrev pub CostIsGap : Setting → (ℕ → ℤ) → List Load → Type 0
CostIsGap st y f = pos (cost f) ≡ potential_gap st y

abbrev pub MoreSitesUnmarked : Setting → (ℕ → ℤ) → Type 0
MoreSitesUnmarked st y = T (more_sites_unmarked st (marked y))

abbrev pub SomeAmount : List Load → Type 0
SomeAmount f = 0 < sum_of (λ e. 1) f

-- ---- the seven certificates

pub record PathCertificate (st : Setting) (y : ℕ → ℤ) (f : List Load) (v : ℕ) : Type 0 where
  pub potentials : Potentials st y
  pub source : SourceZero st y
  pub amounts : Every ZeroOrOne f
  pub feasible : Every (Feasible y) f
  pub balances : PathBalances st f
  pub sums : LengthIsPotential st y f
  pub answer : y st.t ≡ pos v

pub record FlowCertificate (st : Setting) (y : ℕ → ℤ) (f : List Load) (v : ℕ) : Type 0 where
  pub marks : Marks st y
  pub source : SourceMarked st y
  pub sink : SinkUnmarked st y
  pub amounts : Every WithinCapacity f
  pub balances : Conserved st f
  pub sums : FlowIsCut st y f
  pub answer : balance st.s f ≡ pos v

pub record AssignmentCertificate (st : Setting) (y : ℕ → ℤ) (f : List Load) (v : ℕ) : Type 0 where
  pub potentials : Potentials st y
  pub pumps_rule : PumpsNotNegative st y
  pub amounts : Every ZeroOrOne f
  pub feasible : Every (Feasible y) f
  pub balances : AssignmentBalances st f
  pub sums : CostIsGap st y f
  pub answer : cost f ≡ v

pub record NoPathCertificate (st : Setting) (y : ℕ → ℤ) (f : List Load) : Type 0 where
  pub marks : Marks st y
  pub source : SourceMarked st y
  pub sink : SinkUnmarked st y
  pub amounts : Every NoAmount f
  pub closed : Every (Closed y) f

pub record NoAssignmentCertificate (st : Setting) (y : ℕ → ℤ) (f : List Load) : Type 0 where
  pub marks : Marks st y
  pub amounts : Every NoAmount f
  pub closed : Every (Closed y) f
  pub more_sites : MoreSitesUnmarked st y

pub record AcyclicCertificate (st : Setting) (y : ℕ → ℤ) (f : List Load) (v : ℕ) : Type 0 where
  pub potentials : Potentials st y
  pub amounts : Every NoAmount f
  pub rising : Every (Rises y) f
  pub answer : v ≡ 0

pub record CyclicCertificate (st : Setting) (y : ℕ → ℤ) (f : List Load) : Type 0 where
  pub zeros : (v : ℕ) → v < st.n → InRange (pos 0) (pos 0) (y v)
  pub amounts : Every ZeroOrOne f
  pub balances : Circulates st f
  pub some : SomeAmount f

abbrev pub RulesHold : Question → Setting → (ℕ → ℤ) → List Load → Answer → Type 0
RulesHold shortest_path st y f (value v) = PathCertificate st y f v
RulesHold shortest_path st y f none = NoPathCertificate st y f
RulesHold maximum_flow st y f (value v) = FlowCertificate st y f v
RulesHold maximum_flow st y f none = ⊥
RulesHold assignment st y f (value v) = AssignmentCertificate st y f v
RulesHold assignment st y f none = NoAssignmentCertificate st y f
RulesHold acyclicity st y f (value v) = AcyclicCertificate st y f v
RulesHold acyclicity st y f none = CyclicCertificate st y f
RulesHold unasked st y f a = ⊥

-- ---- tests and propositions

in_range : (lo hi z : ℤ) → T (between lo hi z) → InRange lo hi z
in_range lo hi z t = record { above = le_z_yes (and_left (le_z lo z) (le_z z hi) t); below = le_z_yes (and_right (le_z lo z) (le_z z hi) t) }

range_in : (lo hi z : ℤ) → InRange lo hi z → T (between lo hi z)
range_in lo hi z r = both (le_z lo z) (le_z z hi) r.above.le r.below.le

-- y of the vertex k is z
at_vertex : (y : ℕ → ℤ) (k : ℕ) (z : ℤ) → T (implies (eqb k k) (eq_z (y k) z)) → y k ≡ z
at_vertex y k z t = eq_z→eq (y k) z (implied (eqb k k) (eq_z (y k) z) t (eq-eqb k k refl))

vertex_at : (y : ℕ → ℤ) (k : ℕ) (z : ℤ) → y k ≡ z → (v : ℕ) → T (implies (eqb v k) (eq_z (y v) z))
vertex_at y k z e v = if_so (eqb v k) (eq_z (y v) z) (λ t. rw (eqb→eq v k t) (eq→eq_z (y k) z e))

module _ (rules : Rules) (st : Setting) (y : ℕ → ℤ) where
  -- the tests of all node numbers, taken apart and put together
  module _ (t : (v : ℕ) → v < st.n → T (node_meets rules st v (y v))) where
    node_range : (v : ℕ) → v < st.n → InRange rules.lowest rules.highest (y v)
    node_range v h = in_range rules.lowest rules.highest (y v) (and_left (between rules.lowest rules.highest (y v)) (rules.on_node st v (y v)) (t v h))

    node_rule : (v : ℕ) → v < st.n → T (rules.on_node st v (y v))
    node_rule v h = and_right (between rules.lowest rules.highest (y v)) (rules.on_node st v (y v)) (t v h)

  node_tests : ((v : ℕ) → v < st.n → InRange rules.lowest rules.highest (y v)) → ((v : ℕ) → v < st.n → T (rules.on_node st v (y v)))
      → (v : ℕ) → v < st.n → T (node_meets rules st v (y v))
  node_tests r e v h = both (between rules.lowest rules.highest (y v)) (rules.on_node st v (y v)) (range_in rules.lowest rules.highest (y v) (r v h)) (e v h)

module _ (st : Setting) (y : ℕ → ℤ) where
  cut_source : T (separates st st.s (y st.s)) → SourceMarked st y
  cut_source t = at_vertex y st.s (pos 1) (and_left (implies (eqb st.s st.s) (eq_z (y st.s) (pos 1))) (implies (eqb st.s st.t) (eq_z (y st.s) (pos 0))) t)

  cut_sink : T (separates st st.t (y st.t)) → SinkUnmarked st y
  cut_sink t = at_vertex y st.t (pos 0) (and_right (implies (eqb st.t st.s) (eq_z (y st.t) (pos 1))) (implies (eqb st.t st.t) (eq_z (y st.t) (pos 0))) t)

  cut_ends : SourceMarked st y → SinkUnmarked st y → (v : ℕ) → T (separates st v (y v))
  cut_ends s t v =
      both (implies (eqb v st.s) (eq_z (y v) (pos 1))) (implies (eqb v st.t) (eq_z (y v) (pos 0)))
      (vertex_at y st.s (pos 1) s v) (vertex_at y st.t (pos 0) t v)

module _ (st : Setting) (f : List Load) where
  conserved_rule : ((v : ℕ) → v < st.n → T (flow_rules.on_balance st v (balance v f))) → Conserved st f
  conserved_rule t v h ns nt = eq_z→eq (balance v f) (pos 0) (rw (ne_eqb v st.s ns, ne_eqb v st.t nt) at (t v h))

  conserved_test : Conserved st f → (v : ℕ) → v < st.n → T (flow_rules.on_balance st v (balance v f))
  conserved_test k v h = go (ℕ_discrete v st.s) (ℕ_discrete v st.t)
    where
      go : Dec (v ≡ st.s) → Dec (v ≡ st.t) → T (pick (eqb v st.s) true (pick (eqb v st.t) true (eq_z (balance v f) (pos 0))))
      go (yes e) d = rw (eq-eqb v st.s e) tt
      go (no ns) (yes e) = rw (ne_eqb v st.s ns, eq-eqb v st.t e) tt
      go (no ns) (no nt) = rw (ne_eqb v st.s ns, ne_eqb v st.t nt) (eq→eq_z (balance v f) (pos 0) (k v h ns nt))

module _ (st : Setting) (v : ℕ) where
  -- what the rules on pumps and sites say, by cases on the number
  pub pump_natural : v < pumps st → (z : ℤ) → T (pump_not_negative st v z) → neg_part z ≡ 0
  pump_natural h (pos k) t = refl
  pump_natural h (negsuc k) t = absurd (implied (ltb v (pumps st)) false t (lt-ltb v (pumps st) h))

  pub pump_balance_most : v < pumps st → (b : ℤ) → T (assignment_balance st v b) → b ≤ℤ pos 1
  pump_balance_most h (pos k) t = omega (signed, leb→le k 1 (and_right (leb 0 k) (leb k 1) (rw (lt-ltb v (pumps st) h) at t)))
  pump_balance_most h (negsuc k) t = omega signed

  pub site_balance_is : pumps st ≤ v → (b : ℤ) → T (assignment_balance st v b) → b ≡ neg_ℤ (pos 1)
  site_balance_is h (pos k) t = absurd (rw (le-ltb v (pumps st) h) at t)
  site_balance_is h (negsuc k) t = ap negsuc (eqb→eq k 0 (rw (le-ltb v (pumps st) h) at t))

  -- and numbers that meet them
  pub natural_pump : (k : ℕ) → T (pump_not_negative st v (pos k))
  natural_pump k = if_so (ltb v (pumps st)) (leb 0 k) (λ t. le→leb 0 k (omega arith))

  pub pump_balance : v < pumps st → (k : ℕ) → k ≤ 1 → T (assignment_balance st v (pos k))
  pump_balance h k l = rw (lt-ltb v (pumps st) h) (both (leb 0 k) (leb k 1) (le→leb 0 k (omega arith)) (le→leb k 1 l))

  pub site_balance : pumps st ≤ v → T (assignment_balance st v (neg_ℤ (pos 1)))
  site_balance h = rw (le-ltb v (pumps st) h) tt

-- the value of an answer
of_value : Answer → ℕ
of_value (value v) = v
of_value none = 0

same_value : {v w : ℕ} → value v ≡ value w → v ≡ w
unfolding of_value
same_value e = ap of_value e

every_true : (f : List Load) → Every (λ l. T true) f
every_true [] = tt
every_true (l ∷ f) = (tt, every_true f)

-- ---- where the tests of a row hold, its rules do

module _ (st : Setting) (y : ℕ → ℤ) (f : List Load) where
  pub path_rules_lem : (v : ℕ) → TwoVertices st → CertifiedBy path_rules shortest_path st y f (value v) → PathCertificate st y f v
  path_rules_lem v e c =
      let sums = eq_z→eq (pos (cost f)) (y st.t) c.sums in
      record {
        potentials = node_range path_rules st y c.nodes;
        source = at_vertex y st.s (pos 0) (node_rule path_rules st y c.nodes st.s e.source_below);
        amounts = c.amounts;
        feasible = every_map (λ l h. le_z_yes h) f c.on_arcs;
        balances = λ v h. eq_z→eq (balance v f) (path_balance st v) (c.balances v h);
        sums = sums;
        answer = sym sums ∙ ap pos (sym (same_value c.answer));
      }

  flow_rules_lem : (v : ℕ) → TwoVertices st → CertifiedBy flow_rules maximum_flow st y f (value v) → FlowCertificate st y f v
  flow_rules_lem v e c =
      let sums = eq_z→eq (balance st.s f) (pos (cut (marked y) (arcs f))) c.sums in
      record {
        marks = node_range flow_rules st y c.nodes;
        source = cut_source st y (node_rule flow_rules st y c.nodes st.s e.source_below);
        sink = cut_sink st y (node_rule flow_rules st y c.nodes st.t e.sink_below);
        amounts = c.amounts;
        balances = conserved_rule st f c.balances;
        sums = sums;
        answer = sums ∙ ap pos (sym (same_value c.answer));
      }

  assignment_rules_lem : (v : ℕ) → CertifiedBy assignment_rules assignment st y f (value v) → AssignmentCertificate st y f v
  assignment_rules_lem v c = record {
    potentials = node_range assignment_rules st y c.nodes;
    amounts = c.amounts;
    feasible = every_map (λ l h. le_z_yes h) f c.on_arcs;
    pumps_rule = node_rule assignment_rules st y c.nodes;
    balances = c.balances;
    sums = eq_z→eq (pos (cost f)) (potential_gap st y) c.sums;
    answer = sym (same_value c.answer);
  }

  no_path_rules_lem : TwoVertices st → CertifiedBy no_path_rules shortest_path st y f none → NoPathCertificate st y f
  no_path_rules_lem e c = record {
    marks = node_range no_path_rules st y c.nodes;
    source = cut_source st y (node_rule no_path_rules st y c.nodes st.s e.source_below);
    sink = cut_sink st y (node_rule no_path_rules st y c.nodes st.t e.sink_below);
    amounts = every_map (λ l (h : l.amount ≤ 0). omega arith) f c.amounts;
    closed = every_map (λ l h. not→false (crosses (marked y) l.arc) h) f c.on_arcs;
  }

  no_assignment_rules_lem : CertifiedBy no_assignment_rules assignment st y f none → NoAssignmentCertificate st y f
  no_assignment_rules_lem c = record {
    marks = node_range no_assignment_rules st y c.nodes;
    amounts = every_map (λ l (h : l.amount ≤ 0). omega arith) f c.amounts;
    closed = every_map (λ l h. not→false (crosses (marked y) l.arc) h) f c.on_arcs;
    more_sites = c.sums;
  }

  acyclic_rules_lem : (v : ℕ) → CertifiedBy acyclic_rules acyclicity st y f (value v) → AcyclicCertificate st y f v
  acyclic_rules_lem v c = record {
    potentials = node_range acyclic_rules st y c.nodes;
    amounts = every_map (λ l (h : l.amount ≤ 0). omega arith) f c.amounts;
    rising = every_map (λ l h. lt_z_yes h) f c.on_arcs;
    answer = same_value c.answer;
  }

  cyclic_rules_lem : CertifiedBy cyclic_rules acyclicity st y f none → CyclicCertificate st y f
  cyclic_rules_lem c = record {
    zeros = node_range cyclic_rules st y c.nodes;
    amounts = c.amounts;
    balances = λ v h. eq_z→eq (balance v f) (pos 0) (c.balances v h);
    some = ltb→lt 0 (sum_of (λ e. 1) f) c.sums;
  }

  rules_for_lem : (q : Question) (a : Answer) → EndsFor q st → CertifiedBy (rules_for q (claim_for a)) q st y f a → RulesHold q st y f a
  rules_for_lem shortest_path (value v) e c = path_rules_lem v e c
  rules_for_lem shortest_path none e c = no_path_rules_lem e c
  rules_for_lem maximum_flow (value v) e c = flow_rules_lem v e c
  rules_for_lem maximum_flow none e c = c.admitted
  rules_for_lem assignment (value v) e c = assignment_rules_lem v c
  rules_for_lem assignment none e c = no_assignment_rules_lem c
  rules_for_lem acyclicity (value v) e c = acyclic_rules_lem v c
  rules_for_lem acyclicity none e c = cyclic_rules_lem c
  rules_for_lem unasked a e c = e

  -- ---- and where its rules hold, the tests do

  tests_for : (q : Question) (a : Answer) → RulesHold q st y f a → CertifiedBy (rules_for q (claim_for a)) q st y f a
  tests_for shortest_path (value v) c = record {
    admitted = tt;
    nodes = node_tests path_rules st y c.potentials (λ v h. vertex_at y st.s (pos 0) c.source v);
    amounts = c.amounts;
    on_arcs = every_map (λ l (h : Feasible y l). h.le) f c.feasible;
    balances = λ v h. eq→eq_z (balance v f) (path_balance st v) (c.balances v h);
    sums = eq→eq_z (pos (cost f)) (y st.t) c.sums;
    answer = ap value (omega (signed, c.sums, c.answer));
  }
  tests_for shortest_path none c = record {
    admitted = tt;
    nodes = node_tests no_path_rules st y c.marks (λ v h. cut_ends st y c.source c.sink v);
    amounts = every_map (λ l (h : NoAmount l). omega arith) f c.amounts;
    on_arcs = every_map (λ l h. false→not (crosses (marked y) l.arc) h) f c.closed;
    balances = λ v h. tt;
    sums = tt;
    answer = refl;
  }
  tests_for maximum_flow (value v) c = record {
    admitted = tt;
    nodes = node_tests flow_rules st y c.marks (λ v h. cut_ends st y c.source c.sink v);
    amounts = c.amounts;
    on_arcs = every_true f;
    balances = conserved_test st f c.balances;
    sums = eq→eq_z (balance st.s f) (pos (cut (marked y) (arcs f))) c.sums;
    answer = ap value (omega (signed, c.sums, c.answer));
  }
  tests_for maximum_flow none c = absurd c
  tests_for assignment (value v) c = record {
    admitted = tt;
    nodes = node_tests assignment_rules st y c.potentials c.pumps_rule;
    amounts = c.amounts;
    on_arcs = every_map (λ l (h : Feasible y l). h.le) f c.feasible;
    balances = c.balances;
    sums = eq→eq_z (pos (cost f)) (potential_gap st y) c.sums;
    answer = ap value (sym c.answer);
  }
  tests_for assignment none c = record {
    admitted = tt;
    nodes = node_tests no_assignment_rules st y c.marks (λ v h. tt);
    amounts = every_map (λ l (h : NoAmount l). omega arith) f c.amounts;
    on_arcs = every_map (λ l h. false→not (crosses (marked y) l.arc) h) f c.closed;
    balances = λ v h. tt;
    sums = c.more_sites;
    answer = refl;
  }
  tests_for acyclicity (value v) c = record {
    admitted = tt;
    nodes = node_tests acyclic_rules st y c.potentials (λ v h. tt);
    amounts = every_map (λ l (h : NoAmount l). omega arith) f c.amounts;
    on_arcs = every_map (λ l (h : Rises y l). h.lt) f c.rising;
    balances = λ v h. tt;
    sums = tt;
    answer = ap value c.answer;
  }
  tests_for acyclicity none c = record {
    admitted = tt;
    nodes = node_tests cyclic_rules st y c.zeros (λ v h. tt);
    amounts = c.amounts;
    on_arcs = every_true f;
    balances = λ v h. eq→eq_z (balance v f) (pos 0) (c.balances v h);
    sums = lt→ltb 0 (sum_of (λ e. 1) f) c.some;
    answer = refl;
  }
  tests_for unasked a c = absurd c

  -- A certificate meets its row exactly where the rules hold.
  pub certified_rules : (a : Answer) → EndsFor (asks st) st → Certified st y f a → RulesHold (asks st) st y f a
  certified_rules a e c = rules_for_lem (asks st) a e c

  pub rules_certified : (a : Answer) → RulesHold (asks st) st y f a → Certified st y f a
  rules_certified a c = tests_for (asks st) a c
