-- The promises of the table of ranges.
use mathlib.Core.Path.{◌≡◌, ap}
use mathlib.Core.Logic.{inl, inr}
use mathlib.Core.Bool.{Bool, true, not, ◌&&◌}
use mathlib.Core.List.{List, [], ◌∷◌}
use Prim.Native.Nat.{ℕ, zero, suc, ◌<◌}
use native.Mathlib.Omega.{arith}
use lib.Dec.{T, eqb, leb}
use borrow.Author.Tests.{eq-eqb}
use Rattle.prelude.specs.Lists.{Every, Member, Distinct, all}
use Rattle.prelude.proofs.Booleans.{and_left, and_right}
use Rattle.prelude.proofs.Lists.{every_at, all→every}
use Rattle.network.specs.Question.{question_of, unasked}
use Rattle.network.specs.Certificate.{rules_for, MayClaim}
use Rattle.network.specs.Tests.{claim_of}
use Rattle.network.proofs.Allowed.{claim_rule}
use Rattle.ranges.specs.Promises.{RangesAsCertified, pairs, PairsOfCheckNine, TableExact, CheckTenSame}
use Rattle.ranges.proofs.Tables.{above}
use Rattle.ranges.proofs.Tables as tables

pub ranges_as_certified : RangesAsCertified
ranges_as_certified = search

-- ---- the pairs

-- check 9 lets the pair pass
abbrev Passes : ℕ × ℕ → Type 0
Passes x = T ((leb 1 x.1 && leb x.1 2) && (rules_for (question_of x.0) (claim_of x.1)).admitted)

all_pass : Every Passes pairs
all_pass = search

no_question : (q : ℕ) → 4 < q → question_of q ≡ unasked
no_question q h = simp (above q 1 (omega arith), above q 2 (omega arith), above q 3 (omega arith), above q 4 h)

listed : (q k : ℕ) → MayClaim (question_of q) k → Member (q, k) pairs
listed zero k h = absurd h
listed (suc zero) k (inl e) = inl (ap (λ (j : ℕ). (1, j)) e)
listed (suc zero) k (inr e) = inr (inl (ap (λ (j : ℕ). (1, j)) e))
listed (suc (suc zero)) k e = inr (inr (inl (ap (λ (j : ℕ). (2, j)) e)))
listed (suc (suc (suc zero))) k (inl e) = inr (inr (inr (inl (ap (λ (j : ℕ). (3, j)) e))))
listed (suc (suc (suc zero))) k (inr e) = inr (inr (inr (inr (inl (ap (λ (j : ℕ). (3, j)) e)))))
listed (suc (suc (suc (suc zero)))) k (inl e) = inr (inr (inr (inr (inr (inl (ap (λ (j : ℕ). (4, j)) e))))))
listed (suc (suc (suc (suc zero)))) k (inr e) = inr (inr (inr (inr (inr (inr (inl (ap (λ (j : ℕ). (4, j)) e)))))))
listed (suc (suc (suc (suc (suc q))))) k h = absurd (rw (no_question (suc (suc (suc (suc (suc q))))) (omega arith)) at h)

-- two pairs that differ in a number
abbrev apart : ℕ × ℕ → ℕ × ℕ → Bool
apart x y = not (eqb x.0 y.0 && eqb x.1 y.1)

differ : (x y : ℕ × ℕ) → T (apart x y) → ¬ (x ≡ y)
differ x y t e = simp (eq-eqb x.0 y.0 (ap (λ (a : ℕ × ℕ). a.0) e), eq-eqb x.1 y.1 (ap (λ (a : ℕ × ℕ). a.1) e)) at t

abbrev all_apart : List (ℕ × ℕ) → Bool
all_apart [] = true
all_apart (x ∷ l) = all (apart x) l && all_apart l

distinct : (l : List (ℕ × ℕ)) → T (all_apart l) → Distinct l
distinct [] t = tt
distinct (x ∷ l) t = (all→every (apart x) (differ x) l (and_left (all (apart x) l) (all_apart l) t), distinct l (and_right (all (apart x) l) (all_apart l) t))

pub pairs_of_check_nine : PairsOfCheckNine
pairs_of_check_nine =
    record {
      same = λ st k. (every_at Passes pairs all_pass, λ t. listed st.question k (claim_rule st k t));
      once = distinct pairs tt;
    }

pub table_exact : TableExact
table_exact = tables.table_exact

pub check_ten_same : CheckTenSame
check_ten_same = tables.check_ten_same
