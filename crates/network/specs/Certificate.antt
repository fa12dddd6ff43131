-- The certificates (PANEL 5): what is asked of node numbers y, one for each vertex, and of the arcs with amounts, f. One row of rules for each question and claim.
use Rattle.std.specs.Prelude.{◌≡◌, ◌⊎◌, Bool, true, false, not, ◌&&◌, List, ℕ, ◌+◌, ◌≤◌, ◌<◌, T, eqb, ltb, ℤ, pos, neg_ℤ, ◌+ℤ◌, ◌-ℤ◌}
use Rattle.std.specs.Int.Signed.{le_z, lt_z}
use Rattle.prelude.specs.Choice.{pick, implies}
use Rattle.prelude.specs.Integers.{eq_z, between, natural}
use Rattle.prelude.specs.Lists.{Every}
use Rattle.prelude.specs.Sums.{sum_to_ℤ, count}
use Rattle.arc_records.specs.Limits.{most_potential}
use Rattle.arc_records.specs.Arcs.{Arc}
use Rattle.network.specs.Network.{Load, arcs, balance, sum_of, sum_across}
use Rattle.network.specs.Question.{Question, shortest_path, maximum_flow, assignment, acyclicity, unasked, Setting, asks, pumps, sites, unit_cost, units_most, Answer, value, none}

-- ---- what the rules speak of

-- What an annotation claims (PANEL 5): 1 a value, 2 none.
pub data Claim : Type 0 where
  of_value : Claim
  of_none : Claim

-- The vertices with the node number 1 are marked (PANEL 5): one side of a cut.
abbrev pub marked : (ℕ → ℤ) → ℕ → Bool
marked y v = eq_z (y v) (pos 1)

-- What the ends of an arc have: node numbers and marks.
pub record Ends : Type 0 where
  pub tail_number : ℤ
  pub head_number : ℤ
  pub tail_marked : Bool
  pub head_marked : Bool

-- What the ends of the arc e have, by the node numbers y and the marks m.
abbrev pub ends_of : (ℕ → ℤ) → (ℕ → Bool) → Arc → Ends
ends_of y m e = record { tail_number = y e.tail; head_number = y e.head; tail_marked = m e.tail; head_marked = m e.head }

-- The sums over the repeated arcs (PANEL 5, checks 15 and 16): the balance of each vertex, the total cost (for acyclicity the sum of the amounts), and the capacity of the cut that the marks make.
pub record Sums : Type 0 where
  pub balances : ℕ → ℤ
  pub cost : ℤ
  pub cut : ℤ

-- The sums over the loads f, for the question q and the marks m.
abbrev pub sums_of : Question → (ℕ → Bool) → List Load → Sums
sums_of q m f = record { balances = λ v. balance v f; cost = pos (sum_of (unit_cost q) f); cut = pos (sum_across (units_most q) m (arcs f)) }

-- ---- what one certificate asks

-- One column of PANEL 5, in the order of the checks: 9, may the claim be made; 10, the range of node numbers, and the number z of the vertex v; 11, the most amount on an arc;
-- 12, an arc with its amount, by what its ends have; 15, the balance b of the vertex v; 16, the sums; and the answer.
pub record Rules : Type 0 where
  pub admitted : Bool
  pub lowest : ℤ
  pub highest : ℤ
  pub on_node : Setting → ℕ → ℤ → Bool
  pub most : Arc → ℕ
  pub on_arc : Ends → Load → Bool
  pub on_balance : Setting → ℕ → ℤ → Bool
  pub on_sums : Setting → (ℕ → ℤ) → (ℕ → Bool) → Sums → Bool
  pub answer : Sums → Answer

-- The number of the head is at most that of the tail and the weight together (PANEL 5, check 12).
abbrev pub no_shortcut : Ends → Load → Bool
no_shortcut e l = le_z e.head_number (e.tail_number +ℤ pos l.arc.weight)

-- The arc does not lead out of the marked side (PANEL 5, check 12).
abbrev pub stays_inside : Ends → Load → Bool
stays_inside e l = not (e.tail_marked && not e.head_marked)

-- The number of the head is above that of the tail (PANEL 5, check 12).
abbrev pub rises : Ends → Load → Bool
rises e l = lt_z e.tail_number e.head_number

-- The number of s is the mark 1, and that of t the mark 0 (PANEL 5, check 10).
abbrev pub separates : Setting → ℕ → ℤ → Bool
separates st v z = implies (eqb v st.s) (eq_z z (pos 1)) && implies (eqb v st.t) (eq_z z (pos 0))

-- The potential of a pump is not negative (PANEL 5, check 10).
abbrev pub pump_not_negative : Setting → ℕ → ℤ → Bool
pump_not_negative st v z = implies (ltb v (pumps st)) (le_z (pos 0) z)

-- The balances of one unit on its way from s to t (PANEL 5, check 15).
abbrev pub path_balance : Setting → ℕ → ℤ
path_balance st v = pick (eqb v st.s) (pos 1) (pick (eqb v st.t) (neg_ℤ (pos 1)) (pos 0))

-- A balance that the vertex v of an assignment may have (PANEL 5, check 15): 0 or 1 at a pump, -1 at a site.
abbrev pub assignment_balance : Setting → ℕ → ℤ → Bool
assignment_balance st v b = pick (ltb v (pumps st)) (between (pos 0) (pos 1) b) (eq_z b (neg_ℤ (pos 1)))

-- The potentials of all sites, less those of all pumps (PANEL 5, check 16).
abbrev pub potential_gap : Setting → (ℕ → ℤ) → ℤ
potential_gap st y = sum_to_ℤ (sites st) (λ i. y (pumps st + i)) -ℤ sum_to_ℤ (pumps st) y

-- How many pumps have no mark (PANEL 5, check 16).
abbrev pub unmarked_pumps : Setting → (ℕ → Bool) → ℕ
unmarked_pumps st m = count (λ v. not (m v)) (pumps st)

-- How many sites have no mark (PANEL 5, check 16).
abbrev pub unmarked_sites : Setting → (ℕ → Bool) → ℕ
unmarked_sites st m = count (λ i. not (m (pumps st + i))) (sites st)

-- More sites than pumps have no mark (PANEL 5, check 16): no arc leads to such a site but from such a pump, so they cannot all be served.
abbrev pub more_sites_unmarked : Setting → (ℕ → Bool) → Bool
more_sites_unmarked st m = ltb (unmarked_pumps st m) (unmarked_sites st m)

-- ---- the seven certificates: the columns of PANEL 5, from left to right

-- Route, value (PANEL 5).
abbrev pub path_rules : Rules
path_rules = record {
  admitted = true;
  lowest = neg_ℤ (pos most_potential);
  highest = pos most_potential;
  on_node = λ st v z. implies (eqb v st.s) (eq_z z (pos 0));
  most = λ e. 1;
  on_arc = no_shortcut;
  on_balance = λ st v b. eq_z b (path_balance st v);
  on_sums = λ st y m u. eq_z u.cost (y st.t);
  answer = λ u. value (natural u.cost);
}

-- Discharge, value (PANEL 5).
abbrev pub flow_rules : Rules
flow_rules = record {
  admitted = true;
  lowest = pos 0;
  highest = pos 1;
  on_node = separates;
  most = λ e. e.weight;
  on_arc = λ e l. true;
  on_balance = λ st v b. pick (eqb v st.s) true (pick (eqb v st.t) true (eq_z b (pos 0)));
  on_sums = λ st y m u. eq_z (u.balances st.s) u.cut;
  answer = λ u. value (natural u.cut);
}

-- Pairing, value (PANEL 5).
abbrev pub assignment_rules : Rules
assignment_rules = record {
  admitted = true;
  lowest = neg_ℤ (pos most_potential);
  highest = pos most_potential;
  on_node = pump_not_negative;
  most = λ e. 1;
  on_arc = no_shortcut;
  on_balance = assignment_balance;
  on_sums = λ st y m u. eq_z u.cost (potential_gap st y);
  answer = λ u. value (natural u.cost);
}

-- Route, none (PANEL 5).
abbrev pub no_path_rules : Rules
no_path_rules = record {
  admitted = true;
  lowest = pos 0;
  highest = pos 1;
  on_node = separates;
  most = λ e. 0;
  on_arc = stays_inside;
  on_balance = λ st v b. true;
  on_sums = λ st y m u. true;
  answer = λ u. none;
}

-- Pairing, none (PANEL 5).
abbrev pub no_assignment_rules : Rules
no_assignment_rules = record {
  admitted = true;
  lowest = pos 0;
  highest = pos 1;
  on_node = λ st v z. true;
  most = λ e. 0;
  on_arc = stays_inside;
  on_balance = λ st v b. true;
  on_sums = λ st y m u. more_sites_unmarked st m;
  answer = λ u. none;
}

-- Loops, value (PANEL 5): the node numbers are a topological order.
abbrev pub acyclic_rules : Rules
acyclic_rules = record {
  admitted = true;
  lowest = neg_ℤ (pos most_potential);
  highest = pos most_potential;
  on_node = λ st v z. true;
  most = λ e. 0;
  on_arc = rises;
  on_balance = λ st v b. true;
  on_sums = λ st y m u. true;
  answer = λ u. value 0;
}

-- Loops, none (PANEL 5): the amounts are a circulation, and some amount is above 0.
abbrev pub cyclic_rules : Rules
cyclic_rules = record {
  admitted = true;
  lowest = pos 0;
  highest = pos 0;
  on_node = λ st v z. true;
  most = λ e. 1;
  on_arc = λ e l. true;
  on_balance = λ st v b. eq_z b (pos 0);
  on_sums = λ st y m u. lt_z (pos 0) u.cost;
  answer = λ u. none;
}

-- Where there is no certificate, nothing passes: check 9 refuses the claim (PANEL 6).
abbrev pub no_rules : Rules
no_rules = record {
  admitted = false;
  lowest = pos 0;
  highest = pos 0;
  on_node = λ st v z. false;
  most = λ e. 0;
  on_arc = λ e l. false;
  on_balance = λ st v b. false;
  on_sums = λ st y m u. false;
  answer = λ u. none;
}

-- The rules for a question and a claim (PANEL 5).
abbrev pub rules_for : Question → Claim → Rules
rules_for shortest_path of_value = path_rules
rules_for shortest_path of_none = no_path_rules
rules_for maximum_flow of_value = flow_rules
rules_for maximum_flow of_none = no_rules
rules_for assignment of_value = assignment_rules
rules_for assignment of_none = no_assignment_rules
rules_for acyclicity of_value = acyclic_rules
rules_for acyclicity of_none = cyclic_rules
rules_for unasked c = no_rules

-- The rules for the question of a setting and a claim.
abbrev pub rules_of : Setting → Claim → Rules
rules_of st c = rules_for (asks st) c

-- The numbers of the claims that may be made (PANEL 6, check 9): a value, or none but for a discharge.
abbrev pub MayClaim : Question → ℕ → Type 0
MayClaim shortest_path k = (k ≡ 1) ⊎ (k ≡ 2)
MayClaim maximum_flow k = k ≡ 1
MayClaim assignment k = (k ≡ 1) ⊎ (k ≡ 2)
MayClaim acyclicity k = (k ≡ 1) ⊎ (k ≡ 2)
MayClaim unasked k = ⊥

-- ---- meeting a certificate

-- The node number z of the vertex v is in the range, and the rule on it holds (PANEL 6, check 10).
abbrev pub node_meets : Rules → Setting → ℕ → ℤ → Bool
node_meets rules st v z = between rules.lowest rules.highest z && rules.on_node st v z

-- The node numbers y and the amounts f meet every rule of the row for the answer a (PANEL 5).
pub record CertifiedBy (rules : Rules) (q : Question) (st : Setting) (y : ℕ → ℤ) (f : List Load) (a : Answer) : Type 0 where
  pub admitted : T rules.admitted
  pub nodes : (v : ℕ) → v < st.n → T (node_meets rules st v (y v))
  pub amounts : Every (λ l. l.amount ≤ rules.most l.arc) f
  pub on_arcs : Every (λ l. T (rules.on_arc (ends_of y (marked y) l.arc) l)) f
  pub balances : (v : ℕ) → v < st.n → T (rules.on_balance st v (balance v f))
  pub sums : T (rules.on_sums st y (marked y) (sums_of q (marked y) f))
  pub answer : a ≡ rules.answer (sums_of q (marked y) f)

-- The claim that an answer makes.
abbrev pub claim_for : Answer → Claim
claim_for (value v) = of_value
claim_for none = of_none

-- The annotation is a certificate of the answer (PANEL 5).
abbrev pub Certified : Setting → (ℕ → ℤ) → List Load → Answer → Type 0
Certified st y f a = CertifiedBy (rules_of st (claim_for a)) (asks st) st y f a
