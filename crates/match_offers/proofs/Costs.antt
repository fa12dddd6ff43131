-- Laws of costs: the cheapest arcs along a row.
use mathlib.Core.Path.{◌≡◌, refl, sym, ap, subst, ◌∙◌}
use mathlib.Core.List.{List}
use mathlib.Core.Logic.{◌⊎◌, inl, inr, ◌≢◌}
use Prim.Native.Nat.{ℕ, ◌+◌, ◌<◌, ◌≤◌}
use native.Mathlib.Decide.{ℕ_discrete, dec_lt}
use native.Mathlib.Omega.{arith}
use borrow.Author.Tests.{eq-eqb, ne_eqb, lt-ltb, le-ltb, le-leb, lt-leb}
use lib.ListN.{length}
use Rattle.prelude.proofs.Choice.{eqb_on, eqb_off}
use Rattle.packed_arcs.specs.Entries.{entry}
use Rattle.arc_index.specs.ArcIndex.{no_arc}
use Rattle.match_state.specs.Rows.{row_number, row_tail, row_weight, RowArc, InRow, Rows}
use Rattle.match_offers.specs.declared.TwoArcs.{TwoArcs}
use Rattle.match_offers.specs.Offers.{too_much, bid_cost, cost_unless, Affordable, Cheapest, TwoCheapest, with_arc}

-- ---- costs

cost_except : (T W pi : List ℕ) (except e : ℕ) → entry T e ≡ except → cost_unless T W pi except e ≡ too_much
cost_except T W pi except e q = sym (eqb_on ℕ _ _ _ _ _ q refl)

cost_other : (T W pi : List ℕ) (except e : ℕ) → entry T e ≢ except → cost_unless T W pi except e ≡ bid_cost T W pi e
cost_other T W pi except e q = sym (eqb_off ℕ _ _ _ _ _ q refl)

-- ---- the cheapest arc along a row

-- Of the arcs in the row of t before the position i `best` is the cheapest, or none of them is allowed.
pub record Best (T H W rows pi : List ℕ) (t except i best least : ℕ) : Type 0 where
  pub which : ((best ≡ no_arc) × (least ≡ too_much)) ⊎ ((best < no_arc) × (best < length H) × (entry H best ≡ t) × (cost_unless T W pi except best ≡ least) × (least < too_much))
  pub low : (k : ℕ) → entry rows t ≤ k → k < i → least ≤ cost_unless T W pi except (row_number (entry rows k))

least_most : {T H W rows pi : List ℕ} {t except i best least : ℕ} → Best T H W rows pi t except i best least → least ≤ too_much
least_most {T} {H} {W} {rows} {pi} {t} {except} {i} {best} {least} B = go B.which
  where
    go : ((best ≡ no_arc) × (least ≡ too_much)) ⊎ ((best < no_arc) × (best < length H) × (entry H best ≡ t) × (cost_unless T W pi except best ≡ least) × (least < too_much)) → least ≤ too_much
    go (inl q) = omega (arith, q.1)
    go (inr q) = omega (arith, q.4)

module _ {T H W rows pi : List ℕ} {t except i best least : ℕ} (B : Best T H W rows pi t except i best least) (cost : ℕ) (q : cost ≡ cost_unless T W pi except (row_number (entry rows i))) where
  -- the arc at i is cheaper, and is taken
  best_take : length H ≤ no_arc → RowArc T H W rows t i → cost < least → Best T H W rows pi t except (i + 1) (row_number (entry rows i)) cost
  best_take few A s = record { which = inr (omega (arith, A.number), A.number, A.head, sym q, omega (arith, least_most B)); low = λ k f b. go k f b (ℕ_discrete k i) }
    where
      go : (k : ℕ) → entry rows t ≤ k → k < i + 1 → Dec (k ≡ i) → cost ≤ cost_unless T W pi except (row_number (entry rows k))
      go k f b (yes z) = subst (λ (v : ℕ). cost ≤ cost_unless T W pi except (row_number (entry rows v))) (sym z) (omega arith)
      go k f b (no z) = omega (arith, B.low k f (omega arith))

  -- it is not
  best_skip : least ≤ cost → Best T H W rows pi t except (i + 1) best least
  best_skip s = record { which = B.which; low = λ k f b. go k f b (ℕ_discrete k i) }
    where
      go : (k : ℕ) → entry rows t ≤ k → k < i + 1 → Dec (k ≡ i) → least ≤ cost_unless T W pi except (row_number (entry rows k))
      go k f b (yes z) = subst (λ (v : ℕ). least ≤ cost_unless T W pi except (row_number (entry rows v))) (sym z) (omega arith)
      go k f b (no z) = B.low k f (omega arith)

-- at the end of the row
best_end : {T H W rows pi : List ℕ} {t except i best least : ℕ} → Rows T H W rows → t < 256 → length H ≡ length T → entry rows (t + 1) ≤ i
    → Best T H W rows pi t except i best least → Cheapest T H W pi t except best
best_end {T} {H} {W} {rows} {pi} {t} {except} {i} {best} {least} R small same end B =
    record {
      arc = λ s. omega (arith, (chosen s).1);
      head = λ s. (chosen s).2;
      tail = λ s. allowed s;
      least = λ s j l q p. omega (arith, low j (omega arith) q, cost_other T W pi except j p, cost_other T W pi except best (allowed s), (chosen s).3);
    }
  where
    chosen : best < no_arc → (best < no_arc) × (best < length H) × (entry H best ≡ t) × (cost_unless T W pi except best ≡ least) × (least < too_much)
    chosen s = go B.which
      where
        go : ((best ≡ no_arc) × (least ≡ too_much)) ⊎ ((best < no_arc) × (best < length H) × (entry H best ≡ t) × (cost_unless T W pi except best ≡ least) × (least < too_much))
            → (best < no_arc) × (best < length H) × (entry H best ≡ t) × (cost_unless T W pi except best ≡ least) × (least < too_much)
        go (inl q) = absurd (omega (arith, q.0))
        go (inr q) = q

    allowed : best < no_arc → entry T best ≢ except
    allowed s q = omega (arith, cost_except T W pi except best q, (chosen s).3, (chosen s).4)

    -- every arc to t stands somewhere in the row
    low : (j : ℕ) → j < length H → entry H j ≡ t → least ≤ cost_unless T W pi except j
    low j l q =
        let I : InRow rows t j = subst (λ (v : ℕ). InRow rows v j) q (R.all j l (omega arith)) in
        subst (λ (e : ℕ). least ≤ cost_unless T W pi except e) I.is (B.low I.at I.from (omega (arith, I.before)))

-- ---- the two cheapest, from different vertices

-- At the position i of the row of t: of the arcs before i the cheapest, and the cheapest from another vertex than that one.
pub record Looking (T H W rows pi : List ℕ) (t i : ℕ) (two : TwoArcs) : Type 0 where
  pub start : entry rows t ≤ i
  pub cheapest : Best T H W rows pi t 256 i two.first two.least
  pub another : Best T H W rows pi t two.tail i two.second two.next
  pub from : (two.first ≡ no_arc) ⊎ (entry T two.first ≡ two.tail)
  pub order : two.least ≤ two.next

-- the arc at i
module _ {T H W rows pi : List ℕ} {t i : ℕ} {two : TwoArcs} (R : Rows T H W rows) (low : t < 256) (A : Affordable T W pi) (small : length pi ≤ 255) (same : length H ≡ length T)
    (L : Looking T H W rows pi t i two) (b : i < entry rows (t + 1)) where
  abbrev arc : ℕ
  arc = entry rows i

  abbrev e : ℕ
  e = row_number arc

  at : RowArc T H W rows t i
  at = R.own t i low L.start b

  here : e < length T
  here = omega (arith, at.number)

  cost_here : row_weight arc + entry pi (row_tail arc) ≡ bid_cost T W pi e
  cost_here = omega (arith, at.weight, ap (entry pi) at.tail)

  -- its tail has a potential, and what it costs can be added up
  pub looking_fits : (row_tail arc < length pi) × (row_weight arc + entry pi (row_tail arc) ≤ 8355585)
  looking_fits = let f = A e here in (omega (arith, f.0, at.tail), omega (arith, f.1, cost_here))

  -- 256 is no vertex, so it excepts nothing
  cost_all : (j : ℕ) → j < length T → cost_unless T W pi 256 j ≡ bid_cost T W pi j
  cost_all j l = cost_other T W pi 256 j (λ q. omega (arith, q, (A j l).0))

  -- the cheapest goes on, or stays
  taken : (cost : ℕ) → cost ≡ bid_cost T W pi e → cost < two.least → Best T H W rows pi t 256 (i + 1) e cost
  taken cost q s = best_take L.cheapest cost (q ∙ sym (cost_all e here)) R.few at s

  kept : (cost : ℕ) → cost ≡ bid_cost T W pi e → two.least ≤ cost → Best T H W rows pi t 256 (i + 1) two.first two.least
  kept cost q s = best_skip L.cheapest cost (q ∙ sym (cost_all e here)) s

  -- an arc from the vertex of the cheapest does not count for the other
  kept_same : entry T e ≡ two.tail → Best T H W rows pi t two.tail (i + 1) two.second two.next
  kept_same q = best_skip L.another too_much (sym (cost_except T W pi two.tail e q)) (least_most L.another)

  kept_other : (cost : ℕ) → cost ≡ bid_cost T W pi e → two.next ≤ cost → Best T H W rows pi t two.tail (i + 1) two.second two.next
  kept_other cost q s = go (ℕ_discrete (entry T e) two.tail)
    where
      go : Dec (entry T e ≡ two.tail) → Best T H W rows pi t two.tail (i + 1) two.second two.next
      go (yes z) = kept_same z
      go (no z) = best_skip L.another cost (q ∙ sym (cost_other T W pi two.tail e z)) s

  taken_other : (cost : ℕ) → cost ≡ bid_cost T W pi e → entry T e ≢ two.tail → cost < two.next → Best T H W rows pi t two.tail (i + 1) e cost
  taken_other cost q z s = best_take L.another cost (q ∙ sym (cost_other T W pi two.tail e z)) R.few at s

  -- the cheapest becomes the other
  moved : entry T e ≢ two.tail → Best T H W rows pi t (entry T e) (i + 1) two.first two.least
  moved z = record { which = go L.cheapest.which L.from; low = λ k f c. lows k f c (ℕ_discrete (entry T (row_number (entry rows k))) (entry T e)) (ℕ_discrete k i) }
    where
      go : ((two.first ≡ no_arc) × (two.least ≡ too_much))
          ⊎ ((two.first < no_arc) × (two.first < length H) × (entry H two.first ≡ t) × (cost_unless T W pi 256 two.first ≡ two.least) × (two.least < too_much))
          → (two.first ≡ no_arc) ⊎ (entry T two.first ≡ two.tail)
          → ((two.first ≡ no_arc) × (two.least ≡ too_much))
          ⊎ ((two.first < no_arc) × (two.first < length H) × (entry H two.first ≡ t) × (cost_unless T W pi (entry T e) two.first ≡ two.least) × (two.least < too_much))
      go (inl q) y = inl q
      go (inr q) (inl y) = absurd (omega (arith, q.0))
      go (inr q) (inr y) =
          inr (q.0, q.1, q.2, cost_other T W pi (entry T e) two.first (λ x. z (sym x ∙ y)) ∙ sym (cost_all two.first (omega (arith, q.1))) ∙ q.3, q.4)

      lows : (k : ℕ) → entry rows t ≤ k → k < i + 1 → Dec (entry T (row_number (entry rows k)) ≡ entry T e) → Dec (k ≡ i) → two.least ≤ cost_unless T W pi (entry T e) (row_number (entry rows k))
      lows k f c (yes x) y = omega (arith, cost_except T W pi (entry T e) (row_number (entry rows k)) x, least_most L.cheapest)
      lows k f c (no x) (yes y) = absurd (x (ap (λ (v : ℕ). entry T (row_number (entry rows v))) y))
      lows k f c (no x) (no y) =
          let j = row_number (entry rows k) in
          omega (arith, cost_other T W pi (entry T e) j x, cost_all j (omega (arith, (R.own t k low f (omega arith)).number)), L.cheapest.low k f (omega arith))

  with_it : (a cost : ℕ) → a ≡ entry T e → cost ≡ bid_cost T W pi e → Looking T H W rows pi t (i + 1) (with_arc two a e cost)
  with_it a cost p q = go (dec_lt cost two.next) (ℕ_discrete two.tail a) (dec_lt cost two.least)
    where
      further : entry rows t ≤ i + 1
      further = omega (arith, L.start)

      go : Dec (cost < two.next) → Dec (two.tail ≡ a) → Dec (cost < two.least) → Looking T H W rows pi t (i + 1) (with_arc two a e cost)
      go (no n) s l = rw (le-leb two.next cost (omega arith))
          (record { start = further; cheapest = kept cost q (omega (arith, L.order)); another = kept_other cost q (omega arith); from = L.from; order = L.order })
      go (yes n) (yes s) (yes l) = rw (lt-leb two.next cost n, eq-eqb two.tail a s, lt-ltb cost two.least l)
          (record { start = further; cheapest = taken cost q l; another = kept_same (sym p ∙ sym s); from = inr (sym p ∙ sym s); order = omega (arith, L.order) })
      go (yes n) (yes s) (no l) = rw (lt-leb two.next cost n, eq-eqb two.tail a s, le-ltb cost two.least (omega arith))
          (record { start = further; cheapest = kept cost q (omega arith); another = kept_same (sym p ∙ sym s); from = L.from; order = L.order })
      go (yes n) (no s) (yes l) = rw (lt-leb two.next cost n, ne_eqb two.tail a s, lt-ltb cost two.least l)
          (record {
            start = further;
            cheapest = taken cost q l;
            another = subst (λ (v : ℕ). Best T H W rows pi t v (i + 1) two.first two.least) (sym p) (moved (λ z. s (sym z ∙ sym p)));
            from = inr (sym p);
            order = omega arith;
          })
      go (yes n) (no s) (no l) = rw (lt-leb two.next cost n, ne_eqb two.tail a s, le-ltb cost two.least (omega arith))
          (record { start = further; cheapest = kept cost q (omega arith); another = taken_other cost q (λ z. s (sym z ∙ sym p)) n; from = L.from; order = omega arith })

  -- with the arc at i looked at too
  pub looking_next : Looking T H W rows pi t (i + 1) (with_arc two (row_tail arc) e (row_weight arc + entry pi (row_tail arc)))
  looking_next = with_it (row_tail arc) _ at.tail cost_here

-- at the end of the row
pub looking_end : {T H W rows pi : List ℕ} {t i : ℕ} {two : TwoArcs} → Rows T H W rows → t < 256 → length H ≡ length T → Looking T H W rows pi t i two → entry rows (t + 1) ≤ i
    → TwoCheapest T H W pi t two.first two.second
looking_end {T} {H} {W} {rows} {pi} {t} {i} {two} R low same L end = record { first = best_end R low same end L.cheapest; second = λ k. go k L.from }
  where
    go : two.first < no_arc → (two.first ≡ no_arc) ⊎ (entry T two.first ≡ two.tail) → Cheapest T H W pi t (entry T two.first) two.second
    go k (inl q) = absurd (omega arith)
    go k (inr q) = subst (λ (v : ℕ). Cheapest T H W pi t v two.second) (sym q) (best_end R low same end L.another)

-- where the second is an arc, so is the first
pub looking_both : {T H W rows pi : List ℕ} {t i : ℕ} {two : TwoArcs} → Looking T H W rows pi t i two → two.second < no_arc → Rows T H W rows → t < 256 → length H ≡ length T → entry rows (t + 1) ≤ i
    → (two.first < no_arc) × (two.second < no_arc) × TwoCheapest T H W pi t two.first two.second
looking_both {T} {H} {W} {rows} {pi} {t} {i} {two} L k R low same end = (go L.cheapest.which L.another.which, k, looking_end R low same L end)
  where
    go : ((two.first ≡ no_arc) × (two.least ≡ too_much))
        ⊎ ((two.first < no_arc) × (two.first < length H) × (entry H two.first ≡ t) × (cost_unless T W pi 256 two.first ≡ two.least) × (two.least < too_much))
        → ((two.second ≡ no_arc) × (two.next ≡ too_much))
        ⊎ ((two.second < no_arc) × (two.second < length H) × (entry H two.second ≡ t) × (cost_unless T W pi two.tail two.second ≡ two.next) × (two.next < too_much)) → two.first < no_arc
    go (inr q) p = q.0
    go (inl q) (inl p) = absurd (omega (arith, p.0))
    go (inl q) (inr p) = absurd (omega (arith, q.1, p.4, L.order))
