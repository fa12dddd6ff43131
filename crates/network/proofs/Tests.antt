-- An annotation passes the checks exactly where it meets the rules of its row, and gives the answer of the row.
use mathlib.Core.Path.{◌≡◌, refl}
use mathlib.Core.List.{List}
use Prim.Native.Nat.{ℕ}
use lib.Dec.{leb, leb→le, le→leb}
use lib.IntN.{ℤ}
use Rattle.prelude.proofs.Lists.{all→every, every→all}
use Rattle.prelude.proofs.Sums.{all_to_at, at_all_to}
use Rattle.network.specs.Network.{Load, balance}
use Rattle.network.specs.Question.{Question, shortest_path, maximum_flow, assignment, acyclicity, unasked, Setting, asks, Answer}
use Rattle.network.specs.Certificate.{Claim, of_value, of_none, Rules, rules_for, marked, ends_of, sums_of, node_meets, CertifiedBy, claim_for, Certified}
use Rattle.network.specs.Tests.{answer_of, PassedFor, Passed}

module _ (rules : Rules) (q : Question) (st : Setting) (y : ℕ → ℤ) (f : List Load) where
  met : PassedFor rules q st y f → CertifiedBy rules q st y f (rules.answer (sums_of q (marked y) f))
  met p = record {
    admitted = p.claim;
    nodes = all_to_at st.n (λ v. node_meets rules st v (y v)) p.nodes;
    amounts = all→every (λ l. leb l.amount (rules.most l.arc)) (λ l u. leb→le l.amount (rules.most l.arc) u) f p.amounts;
    on_arcs = all→every (λ l. rules.on_arc (ends_of y (marked y) l.arc) l) (λ l u. u) f p.on_arcs;
    balances = all_to_at st.n (λ v. rules.on_balance st v (balance v f)) p.balances;
    sums = p.sums;
    answer = refl;
  }

  passed : (a : Answer) → CertifiedBy rules q st y f a → PassedFor rules q st y f
  passed a c = record {
    claim = c.admitted;
    nodes = at_all_to st.n (λ v. node_meets rules st v (y v)) c.nodes;
    amounts = every→all (λ l. leb l.amount (rules.most l.arc)) (λ l h. le→leb l.amount (rules.most l.arc) h) f c.amounts;
    on_arcs = every→all (λ l. rules.on_arc (ends_of y (marked y) l.arc) l) (λ l u. u) f c.on_arcs;
    balances = at_all_to st.n (λ v. rules.on_balance st v (balance v f)) c.balances;
    sums = c.sums;
  }

-- the answer of a row makes the claim of the row
met_for : (q : Question) (c : Claim) (st : Setting) (y : ℕ → ℤ) (f : List Load) → PassedFor (rules_for q c) q st y f
    → CertifiedBy (rules_for q (claim_for ((rules_for q c).answer (sums_of q (marked y) f)))) q st y f ((rules_for q c).answer (sums_of q (marked y) f))
met_for shortest_path of_value st y f p = met (rules_for shortest_path of_value) shortest_path st y f p
met_for shortest_path of_none st y f p = met (rules_for shortest_path of_none) shortest_path st y f p
met_for maximum_flow of_value st y f p = met (rules_for maximum_flow of_value) maximum_flow st y f p
met_for maximum_flow of_none st y f p = absurd p.claim
met_for assignment of_value st y f p = met (rules_for assignment of_value) assignment st y f p
met_for assignment of_none st y f p = met (rules_for assignment of_none) assignment st y f p
met_for acyclicity of_value st y f p = met (rules_for acyclicity of_value) acyclicity st y f p
met_for acyclicity of_none st y f p = met (rules_for acyclicity of_none) acyclicity st y f p
met_for unasked c st y f p = absurd p.claim

-- An annotation that passes every test meets every rule for its answer.
pub passed_certified : (st : Setting) (c : Claim) (y : ℕ → ℤ) (f : List Load) → Passed st c y f → Certified st y f (answer_of st c (sums_of (asks st) (marked y) f))
passed_certified st c y f p = met_for (asks st) c st y f p

-- One that meets every rule for an answer passes every test of the answer's claim, and gives that answer.
pub certified_passed : (st : Setting) (y : ℕ → ℤ) (f : List Load) (a : Answer) → Certified st y f a → Passed st (claim_for a) y f
certified_passed st y f a c = passed (rules_for (asks st) (claim_for a)) (asks st) st y f a c

pub certified_answer : (st : Setting) (y : ℕ → ℤ) (f : List Load) (a : Answer) → Certified st y f a → a ≡ answer_of st (claim_for a) (sums_of (asks st) (marked y) f)
certified_answer st y f a c = c.answer
