-- What the table of ranges gives, for every question, claim and number.
use mathlib.Core.Path.{◌≡◌, refl, ap, ◌∙◌}
use mathlib.Core.Bool.{Bool, true, false, ◌&&◌, ◌||◌}
use Prim.Native.Nat.{ℕ, zero, suc, ◌<◌}
use native.Mathlib.Omega.{arith}
use lib.Dec.{eqb, leb}
use lib.IntN.{ℤ, pos}
use borrow.Author.Tests.{ne_eqb, le-leb, lt-leb}
use Rattle.prelude.specs.Integers.{between}
use Rattle.prelude.specs.Lists.{any}
use Rattle.network.specs.Question.{Question, shortest_path, maximum_flow, assignment, acyclicity, unasked, question_of, Setting, asks}
use Rattle.network.specs.Certificate.{Claim, of_value, of_none, rules_for, node_meets}
use Rattle.network.specs.Tests.{claim_of}
use Rattle.ranges.specs.Ranges.{node_ranges, covers, in_table}
use Rattle.ranges.specs.Promises.{TableExact, CheckTenSame}

-- found row by row, for the number y that z is
pub by_rows : (q k : ℕ) (y z : ℤ) → y ≡ z → (b : Bool) → b ≡ any (covers q k y) node_ranges → b ≡ in_table q k z
unfolding in_table
by_rows q k y z e b h = h ∙ ap (λ (x : ℤ). any (covers q k x) node_ranges) e

or_false : (b : Bool) → (b || false) ≡ b
or_false true = refl
or_false false = refl

and-false : (b : Bool) → (b && false) ≡ false
and-false true = refl
and-false false = refl

pub above : (q k : ℕ) → k < q → eqb q k ≡ false
above q k h = ne_eqb q k (λ e. omega (arith, e))

-- ---- the table and the certificates

-- check 9 and the range of check 10, by the numbers of the question and of the claim
abbrev certified : ℕ → ℕ → ℤ → Bool
certified q k z =
    let rules = rules_for (question_of q) (claim_of k) in
    ((leb 1 k && leb k 2) && rules.admitted) && between rules.lowest rules.highest z

abbrev Exact : ℕ → ℕ → ℤ → Type 0
Exact q k z = any (covers q k z) node_ranges ≡ certified q k z

-- a question that there is not
past_four : (q k : ℕ) (z : ℤ) → 4 < q → Exact q k z
past_four q k z h = simp (above q 1 (omega arith), above q 2 (omega arith), above q 3 (omega arith), above q 4 h, and-false)

exact_value : (q : ℕ) (z : ℤ) → Exact q 1 z
exact_value zero z = refl
exact_value (suc zero) z = or_false _
exact_value (suc (suc zero)) z = or_false _
exact_value (suc (suc (suc zero))) z = or_false _
exact_value (suc (suc (suc (suc zero)))) z = or_false _
exact_value (suc (suc (suc (suc (suc q))))) z = past_four (suc (suc (suc (suc (suc q))))) 1 z (omega arith)

exact_none : (q : ℕ) (z : ℤ) → Exact q 2 z
exact_none zero z = refl
exact_none (suc zero) z = or_false _
exact_none (suc (suc zero)) z = refl
exact_none (suc (suc (suc zero))) z = or_false _
exact_none (suc (suc (suc (suc zero)))) z = or_false _
exact_none (suc (suc (suc (suc (suc q))))) z = past_four (suc (suc (suc (suc (suc q))))) 2 z (omega arith)

-- a claim that there is not
exact_other : (q k : ℕ) (z : ℤ) → eqb k 1 ≡ false → eqb k 2 ≡ false → (leb 1 k && leb k 2) ≡ false → Exact q k z
exact_other q k z a b c = simp (a, b, c, and-false)

exact : (q k : ℕ) (z : ℤ) → Exact q k z
exact q zero z = exact_other q 0 z refl refl refl
exact q (suc zero) z = exact_value q z
exact q (suc (suc zero)) z = exact_none q z
exact q (suc (suc (suc k))) z =
    let n = suc (suc (suc k)) in
    exact_other q n z (above n 1 (omega arith)) (above n 2 (omega arith)) (rw (le-leb 1 n (omega arith)) (lt-leb n 2 (omega arith)))

pub table_exact : TableExact
unfolding in_table
table_exact st k z = exact st.question k z

-- ---- check 10

-- no number passes where there is no certificate: there the rule on a node holds of none
admitted_meets : (q : Question) (c : Claim) (st : Setting) (v : ℕ) (z : ℤ) →
    let rules = rules_for q c in
    node_meets rules st v z ≡ ((rules.admitted && between rules.lowest rules.highest z) && rules.on_node st v z)
admitted_meets shortest_path of_value st v z = refl
admitted_meets shortest_path of_none st v z = refl
admitted_meets maximum_flow of_value st v z = refl
admitted_meets maximum_flow of_none st v z = and-false (between (pos 0) (pos 0) z)
admitted_meets assignment of_value st v z = refl
admitted_meets assignment of_none st v z = refl
admitted_meets acyclicity of_value st v z = refl
admitted_meets acyclicity of_none st v z = refl
admitted_meets unasked c st v z = and-false (between (pos 0) (pos 0) z)

pub check_ten_same : CheckTenSame
check_ten_same st of_value v z = rw (table_exact st 1 z) (admitted_meets (asks st) of_value st v z)
check_ten_same st of_none v z = rw (table_exact st 2 z) (admitted_meets (asks st) of_none st v z)
