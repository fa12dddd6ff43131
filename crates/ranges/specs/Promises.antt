-- What is promised of the table of ranges (PANEL 5 and 6, checks 9 and 10); proofs/Promises.antt keeps it.
use Rattle.std.specs.Prelude.{◌≡◌, ◌↔◌, ◌&&◌, List, map, ℕ, T, ℤ}
use Rattle.prelude.specs.Integers.{between}
use Rattle.prelude.specs.Lists.{Every, Member, Distinct}
use Rattle.network.specs.Question.{question_of, Setting}
use Rattle.network.specs.Certificate.{Claim, rules_for, rules_of}
use Rattle.network.specs.Tests.{claim_number, claim_of, claim_ok, node_ok}
use Rattle.ranges.specs.Ranges.{NodeRange, node_ranges, in_table}

-- The row has the range that the certificate for its question and claim gives (PANEL 5, check 10).
pub record AsCertified (r : NodeRange) : Type 0 where
  pub lowest : r.low ≡ (rules_for (question_of r.question) (claim_of r.claim)).lowest
  pub highest : r.high ≡ (rules_for (question_of r.question) (claim_of r.claim)).highest

-- So has every row.
abbrev pub RangesAsCertified : Type 0
RangesAsCertified = Every AsCertified node_ranges

-- The questions and claims of the table, row by row.
abbrev pub pairs : List (ℕ × ℕ)
pairs = map (λ r. (r.question, r.claim)) node_ranges

-- They are those that check 9 lets pass (PANEL 6), each once.
pub record PairsOfCheckNine : Type 0 where
  pub same : (st : Setting) (k : ℕ) → Member (st.question, k) pairs ↔ T (claim_ok st k)
  pub once : Distinct pairs

-- What the table lets pass: the range of the certificate where check 9 lets the claim pass, and no number where it does not.
abbrev pub TableExact : Type 0
TableExact =
    (st : Setting) (k : ℕ) (z : ℤ)
    → in_table st.question k z ≡ (claim_ok st k && between (rules_of st (claim_of k)).lowest (rules_of st (claim_of k)).highest z)

-- Check 10 by the table and the rule on a node is the test of the certificate (PANEL 6), for every setting, claim and number.
abbrev pub CheckTenSame : Type 0
CheckTenSame =
    (st : Setting) (c : Claim) (v : ℕ) (z : ℤ)
    → node_ok st c v z ≡ (in_table st.question (claim_number c) z && (rules_of st c).on_node st v z)
