-- Each certificate's rules imply the true answer, for the arcs in any order.
use mathlib.Core.Path.{◌≡◌, refl, sym, ◌∙◌, ap}
use mathlib.Core.Logic.{inl, inr}
use mathlib.Core.Bool.{true, false}
use mathlib.Core.List.{List, [], ◌∷◌}
use Prim.Native.Nat.{ℕ, zero, suc, ◌+◌, ◌-◌, ◌*◌, ◌≤◌, ◌<◌}
use native.Mathlib.Omega.{arith}
use borrow.Author.Tests.{eq-eqb, ne_eqb}
use lib.Dec.{ltb→lt}
use lib.IntN.{ℤ, pos, ◌-ℤ◌}
use lib.Signed.{◌≤ℤ◌, ◌<ℤ◌}
use Rattle.prelude.specs.Integers.{eq_z}
use Rattle.prelude.specs.Lists.{Every, Perm}
use Rattle.prelude.specs.Sums.{sum_to, sum_to_ℤ}
use Rattle.prelude.proofs.Integers.{pos_part, neg_part, parts_add, parts_sub, signed}
use Rattle.prelude.proofs.Lists.{every_map, every_zip, image_every}
use Rattle.prelude.proofs.Permutations.{perm_sym, perm_every}
use Rattle.arc_records.specs.Arcs.{Arc, delta}
use Rattle.network.specs.Network.{Load, arcs, sum_of, leaving, entering, balance, cost, total, crosses}
use Rattle.network.specs.Question.{Question, shortest_path, maximum_flow, assignment, acyclicity, unasked, Setting, asks, pumps, sites, EndsFor, TwoVertices, PumpsAndSites, SidesFor, Allowed, Opened}
use Rattle.network.specs.Question.{Answer, value, none, Walk, ShortestPath, NoWalk, Flow, MaximumFlow, Assignment, CheapestAssignment, NoAssignment, ClosedWalk, Acyclic, TrueFor, TrueAnswer}
use Rattle.network.specs.Certificate.{marked, unmarked_pumps, unmarked_sites, Certified}
use Rattle.network.proofs.Rules.{Potentials, SourceMarked, SinkUnmarked, WithinCapacity, Feasible, PathBalances, PathCertificate, FlowCertificate, AssignmentCertificate, NoPathCertificate, NoAssignmentCertificate, AcyclicCertificate, CyclicCertificate, RulesHold, pump_natural, pump_balance_most, site_balance_is, certified_rules}
use Rattle.network.proofs.Sums.{Compared, compared, Inside}
use Rattle.network.proofs.Paths.{walk_above, no_walk, Unit_flow, Found, walk_in}
use Rattle.network.proofs.ClosedWalks.{rising_excludes, circulation_closes}
use Rattle.network.proofs.Flows.{flow_below_cut}
use Rattle.network.proofs.Assignments.{Between, crosses_over, enters_no_pump, leaves_no_site, assignment_above, closed_fewer}
use Rattle.network.proofs.Orders.{any_order}

-- ---- balances, as sums of natural numbers

pub balance_parts : (a b : ℕ) → pos_part (pos a -ℤ pos b) + b ≡ a + neg_part (pos a -ℤ pos b)
balance_parts a b = omega (arith, parts_sub (pos a) (pos b))

-- ---- marks

is_marked_lem : (st : Setting) (y : ℕ → ℤ) → SourceMarked st y → marked y st.s ≡ true
is_marked_lem st y h = ap (λ (z : ℤ). eq_z z (pos 1)) h

not_marked : (st : Setting) (y : ℕ → ℤ) → SinkUnmarked st y → marked y st.t ≡ false
not_marked st y h = ap (λ (z : ℤ). eq_z z (pos 1)) h

-- ---- maximum flow

module _ (st : Setting) (y : ℕ → ℤ) (f : List Load) (v : ℕ) (ends : TwoVertices st) (inside : Every (Inside st.n) (arcs f)) (c : FlowCertificate st y f v) where
  no_more : (g : List Load) → Flow st (arcs f) g → balance st.s g ≤ℤ pos v
  no_more g fl =
      omega (
        signed,
        balance_parts (leaving st.s g) (entering st.s g),
        c.sums,
        c.answer,
        flow_below_cut st (marked y) ends.source_below (is_marked_lem st y c.source) (not_marked st y c.sink) (arcs f) inside g fl,
      )

  flow_sound : MaximumFlow st (arcs f) v
  flow_sound = record {
    flow = f;
    is_flow = record {
      each = refl;
      within = every_map (λ l (h : WithinCapacity l). omega arith) f c.amounts;
      conserved = λ u h ns nt. omega (signed, c.balances u h ns nt, balance_parts (leaving u f) (entering u f));
    };
    attained = c.answer;
    greatest = no_more;
  }

-- ---- potentials, shifted by 8322818 to be natural numbers

lift : ℤ → ℕ
lift z = pos_part z + 8322818 - neg_part z

sum_lifted : (k : ℕ) (z : ℕ → ℤ) → ((i : ℕ) → i < k → lift (z i) + neg_part (z i) ≡ pos_part (z i) + 8322818)
    → sum_to k (λ i. lift (z i)) + neg_part (sum_to_ℤ k z) ≡ pos_part (sum_to_ℤ k z) + k * 8322818
unfolding sum_to sum_to_ℤ
sum_lifted zero z h = refl
sum_lifted (suc k) z h = omega (arith, sum_lifted k z (λ i b. h i (omega arith)), h k (omega arith), parts_add (sum_to_ℤ k z) (z k))

module _ (st : Setting) (y : ℕ → ℤ) (range : Potentials st y) where
  lift_is : (v : ℕ) → v < st.n → lift (y v) + neg_part (y v) ≡ pos_part (y v) + 8322818
  unfolding lift
  lift_is v h = omega (signed, (range v h).above)

  lift_feasible : (l : Load) → Inside st.n l.arc → Feasible y l → lift (y l.arc.head) ≤ lift (y l.arc.tail) + l.arc.weight
  lift_feasible l i h =
      omega (signed, parts_add (y l.arc.tail) (pos l.arc.weight), lift_is l.arc.tail i.0, lift_is l.arc.head i.1)

  feasible_lifted : (f : List Load) → Every (Inside st.n) (arcs f) → Every (Feasible y) f
      → Every (λ e. lift (y e.head) ≤ lift (y e.tail) + e.weight) (arcs f)
  feasible_lifted [] i e = tt
  feasible_lifted (l ∷ f) i e = (lift_feasible l i.0 e.0, feasible_lifted f i.1 e.1)

-- ---- shortest path

-- amounts with the balances of a path are one unit on its way from s to t
pub unit_flow : (st : Setting) (f : List Load) → TwoVertices st → PathBalances st f → Unit_flow st.n st.s st.t f
unit_flow st f ends balances u h = go (compared st.s u) (compared st.t u)
  where
    go : Compared st.s u → Compared st.t u → leaving u f + delta st.t u ≡ entering u f + delta st.s u
    go (inl (e, i)) (inl (d, j)) = absurd (ends.apart (e ∙ sym d))
    go (inl (e, i)) (inr (d, j)) =
        omega (signed, rw (eq-eqb u st.s (sym e)) at (balances u h), balance_parts (leaving u f) (entering u f))
    go (inr (e, i)) (inl (d, j)) =
        omega (signed, rw (ne_eqb u st.s (λ q. e (sym q)), eq-eqb u st.t (sym d)) at (balances u h), balance_parts (leaving u f) (entering u f))
    go (inr (e, i)) (inr (d, j)) =
        omega (signed, rw (ne_eqb u st.s (λ q. e (sym q)), ne_eqb u st.t (λ q. d (sym q))) at (balances u h), balance_parts (leaving u f) (entering u f))

module _ (st : Setting) (y : ℕ → ℤ) (f : List Load) (v : ℕ) (ends : TwoVertices st) (inside : Every (Inside st.n) (arcs f)) (c : PathCertificate st y f v) where
  pub path_above : (es : List Arc) → Walk st (arcs f) es → v ≤ total es
  path_above es w =
      omega (
        signed,
        walk_above (λ u. lift (y u)) (arcs f) (feasible_lifted st y c.potentials f inside c.feasible) es st.s st.t w.over w.leads,
        lift_is st y c.potentials st.s ends.source_below,
        lift_is st y c.potentials st.t ends.sink_below,
        c.source,
        c.answer,
      )

  path_sound : ShortestPath st (arcs f) v
  path_sound =
      let w : Found st.s st.t f = walk_in (sum_of (λ e. 1) f) st.n st.s st.t f ends.source_below inside refl (unit_flow st f ends c.balances) in
      let is_walk : Walk st (arcs f) w.path = record { over = w.over; leads = w.leads } in
      record { path = w.path; is_walk = is_walk; attained = omega (signed, w.short, path_above w.path is_walk, c.sums, c.answer); least = path_above }

no_path_sound : (st : Setting) (y : ℕ → ℤ) (f : List Load) → NoPathCertificate st y f → NoWalk st (arcs f)
no_path_sound st y f c = no_walk st (marked y) (arcs f) (is_marked_lem st y c.source) (not_marked st y c.sink) (image_every (λ l. l.arc) (λ e. crosses (marked y) e ≡ false) f c.closed)

-- ---- assignment

module _ (st : Setting) (y : ℕ → ℤ) (f : List Load) (v : ℕ) (ends : PumpsAndSites st) (inside : Every (Inside st.n) (arcs f)) (rule : Every (Between (pumps st) (sites st)) (arcs f)) (c : AssignmentCertificate st y f v) where
  whole : pumps st + sites st ≡ st.n
  whole = omega (arith, ends.some_site)

  below : (u : ℕ) → u < pumps st → u < st.n
  below u h = omega (arith, ends.some_site)

  -- the potential of a pump is natural, so only those of sites are lifted
  pump_is : (u : ℕ) → u < pumps st → neg_part (y u) ≡ 0
  pump_is u h = pump_natural st u h (y u) (c.pumps_rule u (below u h))

  feasible_at : (l : Load) → Inside st.n l.arc → Between (pumps st) (sites st) l.arc → Feasible y l → lift (y l.arc.head) ≤ pos_part (y l.arc.tail) + (l.arc.weight + 8322818)
  feasible_at l i b h =
      omega (signed, parts_add (y l.arc.tail) (pos l.arc.weight), lift_is st y c.potentials l.arc.head i.1, pump_is l.arc.tail b.low)

  feasible_sites : (g : List Load) → Every (Inside st.n) (arcs g) → Every (Between (pumps st) (sites st)) (arcs g) → Every (Feasible y) g
      → Every (λ e. lift (y e.head) ≤ pos_part (y e.tail) + (e.weight + 8322818)) (arcs g)
  feasible_sites [] i b e = tt
  feasible_sites (l ∷ g) i b e = (feasible_at l i.0 b.0 e.0, feasible_sites g i.1 b.1 e.1)

  sum_natural : (k : ℕ) → k ≤ pumps st → sum_to_ℤ k y ≡ pos (sum_to k (λ u. pos_part (y u)))
  unfolding sum_to sum_to_ℤ
  sum_natural zero h = refl
  sum_natural (suc k) h = omega (signed, sum_natural k (omega arith), pump_is k (omega arith), parts_add (sum_to_ℤ k y) (y k))

  assignment_least : (g : List Load) → Assignment st (arcs f) g → v ≤ cost g
  assignment_least g a =
      omega (
        signed,
        c.answer,
        c.sums,
        parts_sub (sum_to_ℤ (sites st) (λ i. y (pumps st + i))) (sum_to_ℤ (pumps st) y),
        sum_natural (pumps st) (omega arith),
        sum_lifted (sites st) (λ i. y (pumps st + i)) (λ i b. lift_is st y c.potentials (pumps st + i) (omega (arith, whole))),
        assignment_above st (sites st) whole (arcs f) rule g a 8322818 (λ u. pos_part (y u)) (λ u. lift (y u)) (feasible_sites f inside rule c.feasible),
      )

  assignment_sound : CheapestAssignment st (arcs f) v
  assignment_sound = record {
    chosen = f;
    is_assignment = record {
      each = refl;
      chosen = c.amounts;
      pumps_once = λ u h. omega (signed, pump_balance_most st u h (balance u f) (c.balances u (below u h)), balance_parts (leaving u f) (entering u f), enters_no_pump (pumps st) (sites st) f rule u h);
      sites_once = λ u g h. omega (signed, site_balance_is st u g (balance u f) (c.balances u h), balance_parts (leaving u f) (entering u f), leaves_no_site (pumps st) (sites st) f rule u g);
    };
    attained = c.answer;
    least = assignment_least;
  }

no_assignment_sound : (st : Setting) (y : ℕ → ℤ) (f : List Load) → PumpsAndSites st → Every (Between (pumps st) (sites st)) (arcs f) → NoAssignmentCertificate st y f → NoAssignment st (arcs f)
no_assignment_sound st y f ends rule c g a =
    omega (
      arith,
      ltb→lt (unmarked_pumps st (marked y)) (unmarked_sites st (marked y)) c.more_sites,
      closed_fewer st (sites st) (omega (arith, ends.some_site)) (arcs f) rule g a (marked y) (image_every (λ l. l.arc) (λ e. crosses (marked y) e ≡ false) f c.closed),
    )

-- ---- acyclicity

acyclic_sound : (st : Setting) (y : ℕ → ℤ) (f : List Load) (v : ℕ) → AcyclicCertificate st y f v → Acyclic (arcs f) v
acyclic_sound st y f v c = record {
  no_closed_walk = rising_excludes (arcs f) y (image_every (λ l. l.arc) (λ e. y e.tail <ℤ y e.head) f c.rising);
  zero = c.answer;
}

cyclic_sound : (st : Setting) (y : ℕ → ℤ) (f : List Load) → Every (Inside st.n) (arcs f) → CyclicCertificate st y f → ClosedWalk (arcs f)
cyclic_sound st y f inside c = circulation_closes st.n f inside c.balances c.some

-- ---- all seven, for the arcs in the order of the loads

certified_for : (q : Question) (st : Setting) (y : ℕ → ℤ) (f : List Load) (a : Answer) → EndsFor q st → Every (Inside st.n) (arcs f) → Every (SidesFor q st) (arcs f)
    → RulesHold q st y f a → TrueFor q st (arcs f) a
certified_for shortest_path st y f (value v) ends inside sides c = path_sound st y f v ends inside c
certified_for shortest_path st y f none ends inside sides c = no_path_sound st y f c
certified_for maximum_flow st y f (value v) ends inside sides c = flow_sound st y f v ends inside c
certified_for maximum_flow st y f none ends inside sides c = c
certified_for assignment st y f (value v) ends inside sides c =
    assignment_sound st y f v ends inside (every_zip (λ e i p. crosses_over st e i.1 p) (arcs f) inside sides) c
certified_for assignment st y f none ends inside sides c =
    no_assignment_sound st y f ends (every_zip (λ e i p. crosses_over st e i.1 p) (arcs f) inside sides) c
certified_for acyclicity st y f (value v) ends inside sides c = acyclic_sound st y f v c
certified_for acyclicity st y f none ends inside sides c = cyclic_sound st y f inside c
certified_for unasked st y f a ends inside sides c = absurd c

pub certified_true : (st : Setting) (y : ℕ → ℤ) (f : List Load) (a : Answer) → Opened st → Every (Allowed st) (arcs f) → Certified st y f a → TrueAnswer st (arcs f) a
certified_true st y f a o i c =
    certified_for (asks st) st y f a o.ends
    (every_map (λ e (h : Allowed st e). (h.joins.tail_below, h.joins.head_below)) (arcs f) i)
    (every_map (λ e (h : Allowed st e). h.joins.sides) (arcs f) i)
    (certified_rules st y f a o.ends c)

-- ---- and in any order

pub sound : (st : Setting) (net : List Arc) (y : ℕ → ℤ) (f : List Load) (a : Answer) → Opened st → Every (Allowed st) net → Perm (arcs f) net → Certified st y f a → TrueAnswer st net a
sound st net y f a o i d c = any_order st d a (certified_true st y f a o (perm_every (Allowed st) (perm_sym d) i) c)
