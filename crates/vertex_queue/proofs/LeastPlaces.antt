-- The first least entry of a part of a list, found one entry after the other.
use mathlib.Core.Path.{◌≡◌, refl, sym, ◌∙◌, ap}
use mathlib.Core.List.{List}
use Prim.Native.Nat.{ℕ, zero, suc, ◌+◌, ◌≤◌, ◌<◌, min}
use native.Mathlib.Decide.{dec_lt, ℕ_discrete}
use native.Mathlib.Numerals.{add-one}
use native.Mathlib.Omega.{arith}
use borrow.Author.Tests.{lt-ltb, le-ltb}
use Rattle.packed_arcs.specs.Entries.{entry}
use Rattle.vertex_queue.specs.VertexQueue.{least_from}

-- an index among the count from `from` on, whose entry is the least of theirs
pub record PlaceOfLeast (l : List ℕ) (from count at : ℕ) : Type 0 where
  pub after : from ≤ at
  pub before : at < from + count
  pub least : (i : ℕ) → from ≤ i → i < from + count → entry l at ≤ entry l i

entry_at : (l : List ℕ) {i j : ℕ} → i ≡ j → entry l i ≡ entry l j
entry_at l e = ap (λ (k : ℕ). entry l k) e

-- ---- one entry more

module _ (l : List ℕ) (from : ℕ) where
  first_one : least_from l from 1 ≡ from
  unfolding least_from
  first_one = rw (le-ltb (entry l (from + 0)) (entry l from) (omega (arith, entry_at l {i = from} {j = from + 0} (omega arith)))) refl

  next_less : (i : ℕ) → entry l (from + i) < entry l (least_from l from i) → least_from l from (suc i) ≡ from + i
  unfolding least_from
  next_less i h = rw (lt-ltb (entry l (from + i)) (entry l (least_from l from i)) h) refl

  next_not : (i : ℕ) → entry l (least_from l from i) ≤ entry l (from + i) → least_from l from (suc i) ≡ least_from l from i
  unfolding least_from
  next_not i h = rw (le-ltb (entry l (from + i)) (entry l (least_from l from i)) h) refl

  -- ---- where it stands, and that it is the least

  pub first_least : (n : ℕ) → PlaceOfLeast l from (suc n) (least_from l from (suc n))
  first_least zero =
      record {
        after = omega (arith, first_one);
        before = omega (arith, first_one);
        least = λ i a b. omega (arith, entry_at l first_one, entry_at l {i = from} {j = i} (omega arith));
      }
  first_least (suc n) = go (dec_lt (entry l (from + suc n)) (entry l (least_from l from (suc n)))) (first_least n)
    where
      more : (at : ℕ) → (i : ℕ) → i < from + suc (suc n) → (i < from + suc n → entry l at ≤ entry l i) → entry l at ≤ entry l (from + suc n) → Dec (i ≡ from + suc n) → entry l at ≤ entry l i
      more at i b f g (yes e) = omega (arith, entry_at l e)
      more at i b f g (no e) = f (omega arith)

      go : Dec (entry l (from + suc n) < entry l (least_from l from (suc n))) → PlaceOfLeast l from (suc n) (least_from l from (suc n)) → PlaceOfLeast l from (suc (suc n)) (least_from l from (suc (suc n)))
      go (yes less) F =
          let e = next_less (suc n) less in
          record {
            after = omega (arith, e);
            before = omega (arith, e);
            least = λ i a b. more (least_from l from (suc (suc n))) i b (λ c. omega (arith, entry_at l e, F.least i a c)) (omega (arith, entry_at l e)) (ℕ_discrete i (from + suc n));
          }
      go (no not-less) F =
          let e = next_not (suc n) (omega arith) in
          record {
            after = omega (arith, e, F.after);
            before = omega (arith, e, F.before);
            least = λ i a b. more (least_from l from (suc (suc n))) i b (λ c. omega (arith, entry_at l e, F.least i a c)) (omega (arith, entry_at l e)) (ℕ_discrete i (from + suc n));
          }

  pub first_of_16 : PlaceOfLeast l from 16 (least_from l from 16)
  first_of_16 = first_least 15

-- ---- a scan of 16 entries

-- the least among i entries: where it first stands, and what it is
pub record Scanned (l : List ℕ) (from i at best : ℕ) : Type 0 where
  pub within : i ≤ 16
  pub place : at ≡ least_from l from i
  pub is : best ≡ entry l at

-- the least alone
pub record ScannedLeast (l : List ℕ) (from i best : ℕ) : Type 0 where
  pub within : i ≤ 16
  pub is : best ≡ entry l (least_from l from i)

module _ (l : List ℕ) (from : ℕ) where
  pub scan_start : Scanned l from 1 from (entry l from)
  scan_start = record { within = omega arith; place = sym (first_one l from); is = refl }

  -- the next entry is less than the least before it, or not
  pub scan_less : (i at best at' best' : ℕ) → i < 16 → Scanned l from i at best → entry l (from + i) < best → at' ≡ from + i → best' ≡ entry l (from + i) → Scanned l from (i + 1) at' best'
  scan_less i at best at' best' h S less e f =
      record {
        within = omega arith;
        place = rw (add-one i) (e ∙ sym (next_less l from i (omega (arith, S.is, entry_at l S.place))));
        is = f ∙ entry_at l (sym e);
      }

  pub scan_not : (i at best at' best' : ℕ) → i < 16 → Scanned l from i at best → best ≤ entry l (from + i) → at' ≡ at → best' ≡ best → Scanned l from (i + 1) at' best'
  scan_not i at best at' best' h S more e f =
      record {
        within = omega arith;
        place = rw (add-one i) (e ∙ S.place ∙ sym (next_not l from i (omega (arith, S.is, entry_at l S.place))));
        is = f ∙ S.is ∙ entry_at l (sym e);
      }

  pub scan_end : (i at best : ℕ) → 16 ≤ i → Scanned l from i at best → at ≡ least_from l from 16
  scan_end i at best h S = S.place ∙ ap (λ (k : ℕ). least_from l from k) (omega (arith, S.within))

  pub least_start : ScannedLeast l from 1 (entry l from)
  least_start = record { within = omega arith; is = entry_at l (sym (first_one l from)) }

  pub least_turn : (i best best' : ℕ) → i < 16 → ScannedLeast l from i best → best' ≡ min best (entry l (from + i)) → ScannedLeast l from (i + 1) best'
  least_turn i best best' h S e = record { within = omega arith; is = rw (add-one i) (go (dec_lt (entry l (from + i)) best)) }
    where
      go : Dec (entry l (from + i) < best) → best' ≡ entry l (least_from l from (suc i))
      go (yes less) = omega (arith, entry_at l (next_less l from i (omega (arith, S.is))))
      go (no more) = omega (arith, S.is, entry_at l (next_not l from i (omega (arith, S.is))))

  pub least_end : (i best : ℕ) → 16 ≤ i → ScannedLeast l from i best → best ≡ entry l (least_from l from 16)
  least_end i best h S = S.is ∙ entry_at l (ap (λ (k : ℕ). least_from l from k) (omega (arith, S.within)))
