-- The numbered checks of the steps (PANEL 6), each once: as tests, and as lists in the order in which they run.
use Rattle.std.specs.Prelude.{Bool, true, false, not, ◌&&◌, List, [], ◌∷◌, ◌++◌, ℕ, suc, T, eqb, leb, ltb, ℤ}
use Rattle.prelude.specs.Checks.{Check, ◌unless◌}
use Rattle.prelude.specs.Choice.{pick}
use Rattle.prelude.specs.Lists.{all}
use Rattle.prelude.specs.Sums.{all_to}
use Rattle.arc_records.specs.Limits.{most_vertices, most_arcs, most_weight}
use Rattle.arc_records.specs.Arcs.{Arc}
use Rattle.network.specs.Network.{Load, balance}
use Rattle.network.specs.Question.{Question, shortest_path, maximum_flow, assignment, acyclicity, unasked, Setting, asks, pumps, Answer}
use Rattle.network.specs.Certificate.{Claim, of_value, of_none, marked, ends_of, Sums, sums_of, Rules, rules_of, node_meets}

-- ---- opening

-- Is there a question? (PANEL 6, check 1)
abbrev pub is_asked : Question → Bool
is_asked shortest_path = true
is_asked maximum_flow = true
is_asked assignment = true
is_asked acyclicity = true
is_asked unasked = false

-- Are there 2 to 255 vertices? (PANEL 6, check 2)
abbrev pub size_ok : Setting → Bool
size_ok st = leb 2 st.n && leb st.n most_vertices

-- Are s and t two different vertices? (PANEL 6, check 3)
abbrev pub two_vertices : Setting → Bool
two_vertices st = (ltb st.s st.n && ltb st.t st.n) && not (eqb st.s st.t)

-- Are s and t both 0? (PANEL 6, check 3)
abbrev pub both_zero : Setting → Bool
both_zero st = eqb st.s 0 && eqb st.t 0

-- Is s a number of pumps, one at least, that leaves a site, and t 0? (PANEL 6, check 3)
abbrev pub pumps_and_sites : Setting → Bool
pumps_and_sites st = (leb 1 st.s && ltb st.s st.n) && eqb st.t 0

-- Are s and t what the question asks for? (PANEL 6, check 3)
abbrev pub ends_for : Question → Setting → Bool
ends_for shortest_path st = two_vertices st
ends_for maximum_flow st = two_vertices st
ends_for assignment st = pumps_and_sites st
ends_for acyclicity st = both_zero st
ends_for unasked st = false

-- The same for the question of the setting.
abbrev pub ends_ok : Setting → Bool
ends_ok st = ends_for (asks st) st

-- The checks of opening but for that of the points (PANEL 6, checks 1 to 3).
abbrev pub opening_checks : Setting → List Check
opening_checks st = 1 unless is_asked (asks st) ∷ 2 unless size_ok st ∷ 3 unless ends_ok st ∷ []

-- ---- an arc, read or repeated

-- Does it join the sides that the question asks for? (PANEL 6, check 7)
abbrev pub sides_for : Question → Setting → Arc → Bool
sides_for shortest_path st e = true
sides_for maximum_flow st e = true
sides_for assignment st e = ltb e.tail (pumps st) && leb (pumps st) e.head
sides_for acyclicity st e = true
sides_for unasked st e = false

-- Are its ends vertices, on the sides that the question asks for? (PANEL 6, check 7)
abbrev pub joins_ok : Setting → Arc → Bool
joins_ok st e = (ltb e.tail st.n && ltb e.head st.n) && sides_for (asks st) st e

-- Is its weight within the limit? (PANEL 6, check 8)
abbrev pub weight_ok : Arc → Bool
weight_ok e = leb e.weight most_weight

-- The checks of an arc, read or repeated (PANEL 6, checks 7 and 8).
abbrev pub arc_checks : Setting → Arc → List Check
arc_checks st e = 7 unless joins_ok st e ∷ 8 unless weight_ok e ∷ []

-- Reading an arc, where i are read already (PANEL 6, checks 6 to 8).
abbrev pub reading_checks : Setting → ℕ → Arc → List Check
reading_checks st i e = 6 unless ltb i most_arcs ∷ arc_checks st e

-- Reading a list of arcs, one after the other, where i are read already.
unfoldable pub reading_all : Setting → ℕ → List Arc → List Check
reading_all st i [] = []
reading_all st i (e ∷ net) = reading_checks st i e ++ reading_all st (suc i) net

-- ---- the claim

-- The number of a claim (PANEL 5).
abbrev pub claim_number : Claim → ℕ
claim_number of_value = 1
claim_number of_none = 2

-- The claim of a number; of a number that check 9 refuses it does not matter which.
abbrev pub claim_of : ℕ → Claim
claim_of k = pick (eqb k 1) of_value of_none

-- Is the claim 1 or 2, and is there a certificate for it? (PANEL 6, check 9)
abbrev pub claim_ok : Setting → ℕ → Bool
claim_ok st k = (leb 1 k && leb k 2) && (rules_of st (claim_of k)).admitted

-- Making a claim (PANEL 6, check 9).
abbrev pub claiming_checks : Setting → ℕ → List Check
claiming_checks st k = 9 unless claim_ok st k ∷ []

-- ---- the annotation: what has been given of it

-- The claim, how many node numbers are given, what they are, and which vertices are marked.
pub record Numbers : Type 0 where
  pub claim : Claim
  pub given : ℕ
  pub number : ℕ → ℤ
  pub mark : ℕ → Bool

-- Does the node number z of the vertex v meet the rules for it? (PANEL 6, check 10)
abbrev pub node_ok : Setting → Claim → ℕ → ℤ → Bool
node_ok st c v z = node_meets (rules_of st c) st v z

-- A node number, where i are given already (PANEL 6, checks 5 and 10).
abbrev pub numbering_checks : Setting → Claim → ℕ → ℤ → List Check
numbering_checks st c i z = 5 unless ltb i st.n ∷ 10 unless node_ok st c i z ∷ []

-- Is the amount allowed? (PANEL 6, check 11)
abbrev pub amount_ok : Setting → Claim → Load → Bool
amount_ok st c l = leb l.amount ((rules_of st c).most l.arc)

-- Does the arc meet the rule on potentials, on marks or on ranks? (PANEL 6, check 12)
abbrev pub rule_ok : Setting → Numbers → Load → Bool
rule_ok st a l = (rules_of st a.claim).on_arc (ends_of a.number a.mark l.arc) l

-- A repeated arc, where m are read and i are repeated already (PANEL 6, checks 5 to 8, 11, 12).
abbrev pub repeating_checks : Setting → Numbers → ℕ → ℕ → Load → List Check
repeating_checks st a m i l =
    5 unless eqb a.given st.n
    ∷ 6 unless ltb i m
    ∷ (arc_checks st l.arc
    ++ 11 unless amount_ok st a.claim l
    ∷ 12 unless rule_ok st a l
    ∷ [])

-- Is each balance right? (PANEL 6, check 15)
abbrev pub balances_ok : Setting → Claim → Sums → Bool
balances_ok st c u = all_to st.n (λ v. (rules_of st c).on_balance st v (u.balances v))

-- Do the sums agree? (PANEL 6, check 16)
abbrev pub sums_ok : Setting → Numbers → Sums → Bool
sums_ok st a u = (rules_of st a.claim).on_sums st a.number a.mark u

-- Finishing (PANEL 6, checks 5, 13 to 16), where m arcs are read and i repeated, `same` says whether their fingerprints agree, and u are the sums.
abbrev pub finishing_checks : Setting → Numbers → ℕ → ℕ → Bool → Sums → List Check
finishing_checks st a m i same u =
    5 unless eqb a.given st.n
    ∷ 13 unless leb m i
    ∷ 14 unless same
    ∷ 15 unless balances_ok st a.claim u
    ∷ 16 unless sums_ok st a u
    ∷ []

-- The answer of an annotation that passes (PANEL 5).
abbrev pub answer_of : Setting → Claim → Sums → Answer
answer_of st c u = (rules_of st c).answer u

-- Checks 9 to 12, 15 and 16 over a whole annotation.
pub record PassedFor (rules : Rules) (q : Question) (st : Setting) (y : ℕ → ℤ) (f : List Load) : Type 0 where
  pub claim : T rules.admitted
  pub nodes : T (all_to st.n (λ v. node_meets rules st v (y v)))
  pub amounts : T (all (λ l. leb l.amount (rules.most l.arc)) f)
  pub on_arcs : T (all (λ l. rules.on_arc (ends_of y (marked y) l.arc) l) f)
  pub balances : T (all_to st.n (λ v. rules.on_balance st v (balance v f)))
  pub sums : T (rules.on_sums st y (marked y) (sums_of q (marked y) f))

-- The same by the row for the question of the setting and the claim.
abbrev pub Passed : Setting → Claim → (ℕ → ℤ) → List Load → Type 0
Passed st c y f = PassedFor (rules_of st c) (asks st) st y f
