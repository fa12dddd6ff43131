-- There is room for every row: an arc is copied once.
use Prim.Native.Nat.{ℕ, ◌+◌, ◌*◌, ◌<◌, ◌≤◌}
use mathlib.Core.List.{List}
use native.Mathlib.Omega.{arith}
use native.Mathlib.Decide.{dec_lt}
use lib.Dec.{ltb}
use lib.ListN.{length}
use borrow.Author.Tests.{lt-ltb, le-ltb}
use Rattle.prelude.specs.Choice.{indicator}
use Rattle.prelude.proofs.Sums.{sum_to_le, sum_to_less, sum_to_same}
use Rattle.packed_arcs.specs.Entries.{entry}
use Rattle.arc_index.specs.ArcIndex.{no_arc}
use Rattle.match_rows.specs.Copying.{copied}

-- what is before b is before a later place
before_grows : (k b c : ℕ) → b ≤ c → indicator (ltb k b) ≤ indicator (ltb k c)
before_grows k b c h = go (dec_lt k b)
  where
    go : Dec (k < b) → indicator (ltb k b) ≤ indicator (ltb k c)
    go (yes p) = rw (lt-ltb k b p, lt-ltb k c (omega arith)) (omega arith)
    go (no p) = rw (le-ltb k b (omega arith)) (omega arith)

before_most : (k b : ℕ) → indicator (ltb k b) ≤ 1
before_most k b = go (dec_lt k b)
  where
    go : Dec (k < b) → indicator (ltb k b) ≤ 1
    go (yes p) = rw (lt-ltb k b p) (omega arith)
    go (no p) = rw (le-ltb k b (omega arith)) (omega arith)

module _ (H : List ℕ) where
  -- where the arc j is copied
  abbrev turn : ℕ → ℕ
  turn j = entry H j * no_arc + j

  pub copied_grows : (b c : ℕ) → b ≤ c → copied H b ≤ copied H c
  copied_grows b c h = sum_to_le (length H) (λ j. indicator (ltb (turn j) b)) (λ j. indicator (ltb (turn j) c)) (λ j i. before_grows (turn j) b c h)

  -- strictly, where the arc e is copied between the two
  pub copied_less : (b c e : ℕ) → e < length H → b ≤ turn e → turn e < c → copied H b < copied H c
  copied_less b c e l p q =
      sum_to_less (length H) (λ j. indicator (ltb (turn j) b)) (λ j. indicator (ltb (turn j) c)) e (λ j i. before_grows (turn j) b c (omega arith)) l
      (rw (le-ltb (turn e) b p, lt-ltb (turn e) c q) (omega arith))

  pub copied_most : (b : ℕ) → copied H b ≤ length H
  copied_most b = omega (arith, sum_to_le (length H) (λ j. indicator (ltb (turn j) b)) (λ j. 1) (λ j i. before_most (turn j) b), sum_to_same (length H) 1)
