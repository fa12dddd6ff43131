-- The true answer is one, and it is the same for every order of the arcs.
use mathlib.Core.Path.{◌≡◌, refl, sym, ◌∙◌, ap}
use mathlib.Core.List.{List}
use Prim.Native.Nat.{ℕ, ◌≤◌}
use native.Mathlib.Omega.{arith}
use lib.IntN.{pos}
use lib.Signed.{◌≤ℤ◌}
use Rattle.prelude.specs.Lists.{Every, Member, Perm, none, keep, swap, then}
use Rattle.prelude.proofs.Integers.{signed}
use Rattle.prelude.proofs.Lists.{every_map}
use Rattle.prelude.proofs.Permutations.{perm_sym, perm_every, perm_some, perm_lift}
use Rattle.arc_records.specs.Arcs.{Arc, delta}
use Rattle.network.specs.Network.{Load, arcs, sum_of, balance, cost}
use Rattle.network.specs.Question.{Question, shortest_path, maximum_flow, assignment, acyclicity, unasked, Setting, asks, Answer, value, Walk, Flow, Assignment, ClosedWalk, TrueFor, TrueAnswer}
use Rattle.network.specs.Question.{none as no_answer}

-- ---- one answer

unique_for : (q : Question) (st : Setting) (net : List Arc) (a b : Answer) → TrueFor q st net a → TrueFor q st net b → a ≡ b
unique_for shortest_path st net (value v) (value w) h k =
    ap value (omega (arith, h.attained, k.attained, h.least k.path k.is_walk, k.least h.path h.is_walk))
unique_for shortest_path st net (value v) no_answer h k = absurd (k h.path h.is_walk)
unique_for shortest_path st net no_answer (value w) h k = absurd (h k.path k.is_walk)
unique_for shortest_path st net no_answer no_answer h k = refl
unique_for maximum_flow st net (value v) (value w) h k =
    ap value (omega (signed, h.attained, k.attained, h.greatest k.flow k.is_flow, k.greatest h.flow h.is_flow))
unique_for maximum_flow st net (value v) no_answer h k = absurd k
unique_for maximum_flow st net no_answer b h k = absurd h
unique_for assignment st net (value v) (value w) h k =
    ap value (omega (arith, h.attained, k.attained, h.least k.chosen k.is_assignment, k.least h.chosen h.is_assignment))
unique_for assignment st net (value v) no_answer h k = absurd (k h.chosen h.is_assignment)
unique_for assignment st net no_answer (value w) h k = absurd (h k.chosen k.is_assignment)
unique_for assignment st net no_answer no_answer h k = refl
unique_for acyclicity st net (value v) (value w) h k = ap value (h.zero ∙ sym k.zero)
unique_for acyclicity st net (value v) no_answer h k = absurd (h.no_closed_walk k)
unique_for acyclicity st net no_answer (value w) h k = absurd (k.no_closed_walk h)
unique_for acyclicity st net no_answer no_answer h k = refl
unique_for unasked st net a b h k = absurd h

pub unique : (st : Setting) (net : List Arc) (a b : Answer) → TrueAnswer st net a → TrueAnswer st net b → a ≡ b
unique st net a b h k = unique_for (asks st) st net a b h k

-- ---- the arcs in another order

sum_perm : (g : Arc → ℕ) {f k : List Load} → Perm f k → sum_of g k ≡ sum_of g f
unfolding sum_of
sum_perm g none = refl
sum_perm g (keep h) = omega (arith, sum_perm g h)
sum_perm g swap = omega arith
sum_perm g (then h k) = sum_perm g k ∙ sum_perm g h

-- amounts move with their arcs
abbrev Moved : List Load → List Arc → Type 0
Moved f net = (k : List Load) × Perm f k × (arcs k ≡ net)

moved : {net new : List Arc} → Perm net new → (f : List Load) → arcs f ≡ net → Moved f new
moved d f e = perm_lift (λ l. l.arc) d f e

over_moved : {net new : List Arc} → Perm net new → (es : List Arc) → Every (λ e. Member e net) es → Every (λ e. Member e new) es
over_moved d es h = every_map (λ a m. perm_some (λ b. a ≡ b) d m) es h

walk_moved : (st : Setting) {net new : List Arc} → Perm net new → (es : List Arc) → Walk st net es → Walk st new es
walk_moved st d es w = record { over = over_moved d es w.over; leads = w.leads }

closed_moved : {net new : List Arc} → Perm net new → ClosedWalk net → ClosedWalk new
closed_moved d c = record { vertex = c.vertex; walk = c.walk; nonempty = c.nonempty; over = over_moved d c.walk c.over; leads = c.leads }

flow_moved : (st : Setting) {net new : List Arc} (f : List Load) → Flow st net f → (r : Moved f new) → Flow st new r.0
flow_moved st f c r = record {
  each = r.2;
  within = perm_every (λ l. l.amount ≤ l.arc.weight) r.1 c.within;
  conserved = λ v h a b. sum_perm (λ e. delta e.tail v) r.1 ∙ c.conserved v h a b ∙ sym (sum_perm (λ e. delta e.head v) r.1);
}

assignment_moved : (st : Setting) {net new : List Arc} (f : List Load) → Assignment st net f → (r : Moved f new) → Assignment st new r.0
assignment_moved st f c r = record {
  each = r.2;
  chosen = perm_every (λ l. l.amount ≤ 1) r.1 c.chosen;
  pumps_once = λ v h. omega (arith, sum_perm (λ e. delta e.tail v) r.1, sum_perm (λ e. delta e.head v) r.1, c.pumps_once v h);
  sites_once = λ v g h. omega (arith, sum_perm (λ e. delta e.tail v) r.1, sum_perm (λ e. delta e.head v) r.1, c.sites_once v g h);
}

balance_moved : (v : ℕ) {new : List Arc} (f : List Load) (r : Moved f new) → balance v r.0 ≡ balance v f
balance_moved v f r = rw (sum_perm (λ e. delta e.tail v) r.1, sum_perm (λ e. delta e.head v) r.1) refl

cost_moved : {new : List Arc} (f : List Load) (r : Moved f new) → cost r.0 ≡ cost f
cost_moved f r = sum_perm (λ e. e.weight) r.1

-- ---- the true answer

any_order_for : (q : Question) (st : Setting) {net new : List Arc} → Perm net new → (a : Answer) → TrueFor q st net a → TrueFor q st new a
any_order_for shortest_path st d (value v) h = record {
  path = h.path;
  is_walk = walk_moved st d h.path h.is_walk;
  attained = h.attained;
  least = λ es w. h.least es (walk_moved st (perm_sym d) es w);
}
any_order_for shortest_path st d no_answer h = λ es w. h es (walk_moved st (perm_sym d) es w)
any_order_for maximum_flow st {net} {new} d (value v) h =
    let r : Moved h.flow new = moved d h.flow h.is_flow.each in
    record { flow = r.0; is_flow = flow_moved st h.flow h.is_flow r; attained = balance_moved st.s h.flow r ∙ h.attained; greatest = most }
  where
    most : (f : List Load) → Flow st new f → balance st.s f ≤ℤ pos v
    most f c =
        let r : Moved f net = moved (perm_sym d) f c.each in
        rw (balance_moved st.s f r) at (h.greatest r.0 (flow_moved st f c r))
any_order_for maximum_flow st d no_answer h = h
any_order_for assignment st {net} {new} d (value v) h =
    let r : Moved h.chosen new = moved d h.chosen h.is_assignment.each in
    record { chosen = r.0; is_assignment = assignment_moved st h.chosen h.is_assignment r; attained = cost_moved h.chosen r ∙ h.attained; least = least }
  where
    least : (f : List Load) → Assignment st new f → v ≤ cost f
    least f c =
        let r : Moved f net = moved (perm_sym d) f c.each in
        rw (cost_moved f r) at (h.least r.0 (assignment_moved st f c r))
any_order_for assignment st {net} d no_answer h =
    λ f c. let r : Moved f net = moved (perm_sym d) f c.each in h r.0 (assignment_moved st f c r)
any_order_for acyclicity st d (value v) h = record { no_closed_walk = λ c. h.no_closed_walk (closed_moved (perm_sym d) c); zero = h.zero }
any_order_for acyclicity st d no_answer h = closed_moved d h
any_order_for unasked st d a h = absurd h

pub any_order : (st : Setting) {net new : List Arc} → Perm net new → (a : Answer) → TrueAnswer st net a → TrueAnswer st new a
any_order st d a h = any_order_for (asks st) st d a h
