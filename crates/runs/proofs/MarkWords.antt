-- The words of marks, folded over the node numbers: bit v is the mark of the vertex v.
use mathlib.Core.Path.{◌≡◌, refl, ◌∙◌, ap, fun_ext}
use mathlib.Core.Bool.{Bool, true, false}
use mathlib.Core.List.{List, [], ◌∷◌, ◌++◌}
use Prim.Native.Nat.{ℕ, zero, suc, ◌+◌, ◌/◌, ◌%◌, ◌^◌, ◌≤◌, ◌<◌}
use native.Mathlib.Nat.{zero-div, le_refl}
use native.Mathlib.Omega.{arith}
use native.Mathlib.Decide.{dec_lt}
use lib.IntN.{ℤ, pos}
use lib.ListN.{length, get_or, replicate, length-set, length-replicate, get_or-replicate, get_or-eq_default}
use Rattle.prelude.specs.Choice.{pick}
use Rattle.prelude.specs.Integers.{eq_z}
use Rattle.prelude.specs.Lists.{at}
use Rattle.words.specs.Marks.{is_marked, with_mark}
use Rattle.words.proofs.MarkLaws.{marked_same, marked_other}
use Rattle.arc_records.specs.Limits.{most_vertices}
use Rattle.network.specs.Certificate.{marked}
use Rattle.session_groups.specs.Groups.{marks_after}
use Rattle.runs.specs.HeldAtPoint.{marks_from, marks_of}

-- ---- one node number more

marks_snoc : (ys : List ℤ) (i : ℕ) (ms : List ℕ) (z : ℤ) → marks_after (marks_from i ms ys) (i + length ys) z ≡ marks_from i ms (ys ++ z ∷ [])
marks_snoc [] i ms z = ap (λ (k : ℕ). marks_after ms k z) (omega arith)
marks_snoc (y ∷ ys) i ms z = ap (λ (k : ℕ). marks_after (marks_from (suc i) (marks_after ms i y) ys) k z) (omega arith) ∙ marks_snoc ys (suc i) (marks_after ms i y) z

pub marks_more : (ys : List ℤ) (z : ℤ) → marks_after (marks_of ys) (length ys) z ≡ marks_of (ys ++ z ∷ [])
marks_more ys z = ap (λ (k : ℕ). marks_after (marks_of ys) k z) (omega arith) ∙ marks_snoc ys 0 (replicate 4 0) z

-- ---- the marks of the words are those of the node numbers

-- is the node number a mark?
abbrev is_one : ℤ → Bool
is_one z = eq_z z (pos 1)

length_after : (ms : List ℕ) (i : ℕ) (b : Bool) → length (pick b (with_mark ms i) ms) ≡ length ms
unfolding with_mark
length_after ms i true = length-set ms (i / 64) _
length_after ms i false = refl

other : (ms : List ℕ) (i j : ℕ) (b : Bool) → length ms ≡ 4 → i < 256 → (i ≡ j → ⊥) → is_marked (pick b (with_mark ms i) ms) j ≡ is_marked ms j
other ms i j true e l ne = marked_other ms i j (omega arith) ne
other ms i j false e l ne = refl

same : (ms : List ℕ) (i : ℕ) (b : Bool) → length ms ≡ 4 → i < 256 → is_marked ms i ≡ false → is_marked (pick b (with_mark ms i) ms) i ≡ b
same ms i true e l c = marked_same ms i (omega arith)
same ms i false e l c = c

marks_below : (ys : List ℤ) (i : ℕ) (ms : List ℕ) → length ms ≡ 4 → i + length ys ≤ 256 → (j : ℕ) → j < i → is_marked (marks_from i ms ys) j ≡ is_marked ms j
marks_below [] i ms e l j h = refl
marks_below (z ∷ ys) i ms e l j h =
    marks_below ys (suc i) (marks_after ms i z) (length_after ms i (is_one z) ∙ e) (omega arith) j (omega arith) ∙ other ms i j (is_one z) e (omega arith) (omega arith)

marks_at : (ys : List ℤ) (i : ℕ) (ms : List ℕ) → length ms ≡ 4 → i + length ys ≤ 256 → ((k : ℕ) → i ≤ k → is_marked ms k ≡ false)
    → (k : ℕ) → is_marked (marks_from i ms ys) (i + k) ≡ marked (at ys) k
marks_at [] i ms e l clear k = clear (i + k) (omega arith)
marks_at (z ∷ ys) i ms e l clear zero =
    ap (is_marked (marks_from (suc i) (marks_after ms i z) ys)) (omega arith)
    ∙ marks_below ys (suc i) (marks_after ms i z) (length_after ms i (is_one z) ∙ e) (omega arith) i (le_refl _)
    ∙ same ms i (is_one z) e (omega arith) (clear i (le_refl _))
marks_at (z ∷ ys) i ms e l clear (suc k) =
    ap (is_marked (marks_from (suc i) (marks_after ms i z) ys)) (omega arith)
    ∙ marks_at ys (suc i) (marks_after ms i z) (length_after ms i (is_one z) ∙ e) (omega arith)
    (λ j h. other ms i j (is_one z) e (omega arith) (omega arith) ∙ clear j (omega arith)) k

no_mark : (n k : ℕ) → is_marked (replicate n 0) k ≡ false
unfolding is_marked
no_mark n k = rw (word (dec_lt (k / 64) n), zero-div (2 ^ (k % 64)))
  where
    word : Dec (k / 64 < n) → ◌≡◌ {A = ℕ} (get_or (replicate n 0) (k / 64) 0) 0
    word (yes h) = get_or-replicate n (k / 64) 0 0 h
    word (no h) = get_or-eq_default (replicate n 0) 0 (omega (arith, length-replicate {A = ℕ} n 0))

pub marks_same : (ys : List ℤ) → length ys ≤ most_vertices → is_marked (marks_of ys) ≡ marked (at ys)
marks_same ys l = fun_ext (λ k. ap (is_marked (marks_of ys)) (omega arith) ∙ marks_at ys 0 (replicate 4 0) refl (omega arith) (λ j h. no_mark 4 j) k)
