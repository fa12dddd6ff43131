-- Of the last arcs of a front that are in order one still comes from an exposed vertex.
use mathlib.Core.Path.{◌≡◌, refl, subst}
use mathlib.Core.List.{List}
use Prim.Native.Nat.{ℕ, ◌+◌, ◌-◌, ◌<◌, ◌≤◌}
use native.Mathlib.Omega.{arith}
use lib.ListN.{length}
use Rattle.packed_arcs.specs.Entries.{entry}
use Rattle.arc_index.specs.ArcIndex.{no_arc}
use Rattle.match_state.specs.Rows.{row_tail, row_weight, Front, Rows, Parted}
use Rattle.match_rows.specs.Parting.{FrontNoted}
use Rattle.match_rows.proofs.LightestLast.{parted_noted}

-- Of the last c arcs before s the k-th from the end comes from an exposed vertex.
abbrev Found : List ℕ → List ℕ → ℕ → ℕ → ℕ → Type 0
Found mate rows s c k = (0 < k) × (k ≤ c) × (entry mate (row_tail (entry rows (s - k))) ≡ no_arc)

-- the k-th from the end weighs no more than those before it
from_end : {rows : List ℕ} {v s c : ℕ} → Front rows v s c → (k j : ℕ) → 0 < k → k ≤ c → entry rows v ≤ j → j < s - k → row_weight (entry rows (s - k)) ≤ row_weight (entry rows j)
from_end {rows} {v} {s} {c} F k j p q f g = subst (λ (n : ℕ). row_weight (entry rows n) ≤ row_weight (entry rows j)) place (F.ordered (k - 1) j (omega arith) f (omega arith))
  where
    place : s - (k - 1) - 1 ≡ s - k
    place = omega arith

module _ {T H W rows : List ℕ} {b : ℕ} (R : Rows T H W rows) (small : b < 256) where
  abbrev s : ℕ
  s = entry rows (257 + b)

  abbrev c : ℕ
  c = entry rows (513 + b)

  F : Front rows b s c
  F = R.fronts b small

  pub may_look : {n : ℕ} → ((e : ℕ) → e < length H → entry T e < n) → (s < 65536) × ((k : ℕ) → 0 < k → k ≤ c → (k ≤ s) × (s - k < length rows) × (row_tail (entry rows (s - k)) < n))
  may_look {n} t = (omega (arith, F.within, within, R.len, R.few), λ k p q. (omega (arith, F.many), omega (arith, F.many, F.within, within), below k p q))
    where
      within : entry rows (b + 1) ≤ length rows
      within = R.ends (b + 1) (omega arith)

      below : (k : ℕ) → 0 < k → k ≤ c → row_tail (entry rows (s - k)) < n
      below k p q = let A = R.own b (s - k) small (omega (arith, F.many)) (omega (arith, F.many, F.within)) in rw A.tail (t _ A.number)

  parted : {mate : List ℕ} (k : ℕ) → Found mate rows s c k → Parted T H W mate rows rows b (s - k)
  parted k x = record {
    rows_are = R;
    same = λ v l. refl;
    from = omega (arith, F.many, x.1);
    within = omega (arith, F.within);
    here = λ l. (omega (arith, F.within, F.many, x.0, x.1), x.2);
    dearer = λ j f g. from_end F k j x.0 x.1 f g;
  }

  pub found : {mate : List ℕ} {k : ℕ} → Found mate rows s c k → Parted T H W mate rows rows b (s - k)
  found {k = k} x = parted k x

  -- the last leaves the front
  pub next_found : {mate rows' : List ℕ} {k : ℕ} → 1 < k → Found mate rows s c k → FrontNoted rows rows' b (s - 1) 1 → Parted T H W mate rows rows' b (s - k)
  next_found {k = k} q x = parted_noted small (parted k x) shorter
    where
      place : (d : ℕ) → d < 1 → s - k ≡ s - 1 - d - 1
      place d l = omega (arith, q, x.1, F.two)

      shorter : Front rows b (s - 1) 1
      shorter = record {
        within = omega (arith, F.within);
        many = omega (arith, F.many, q, x.1);
        two = omega arith;
        ordered = λ d j l f g. subst (λ (n : ℕ). row_weight (entry rows n) ≤ row_weight (entry rows j)) (place d l) (from_end F k j x.0 x.1 f (omega (arith, place d l)));
      }
