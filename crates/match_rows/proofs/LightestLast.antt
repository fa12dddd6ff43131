-- The lightest arc from an exposed vertex put last in the front of its row, and the lightest of the others before it.
use mathlib.Core.Path.{◌≡◌, refl, sym, ap, subst, ◌∙◌}
use mathlib.Core.List.{List}
use mathlib.Core.Logic.{◌≢◌}
use Prim.Native.Nat.{ℕ, ◌+◌, ◌-◌, ◌<◌, ◌≤◌}
use native.Mathlib.Decide.{ℕ_discrete}
use native.Mathlib.Omega.{arith}
use lib.ListN.{set}
use Rattle.packed_arcs.specs.Entries.{entry}
use Rattle.arc_index.specs.ArcIndex.{no_arc}
use Rattle.match_state.specs.Rows.{row_tail, row_weight, Front, Rows, Parted}
use Rattle.match_rows.specs.Parting.{Exchanged, FrontNoted, ExposedFirst}
use Rattle.match_rows.proofs.OtherOrder.{Held, loose_front, exchanged_back, still_held, before_rows, rows_exchanged, loosened, noted_begins, noted_position, rows_noted}

-- ---- another front noted, of a row that is in order

pub parted_noted : {T H W mate rows₀ rows rows' : List ℕ} {b i s c : ℕ} → b < 256 → Parted T H W mate rows₀ rows b i → Front rows b s c → FrontNoted rows rows' b s c → Parted T H W mate rows₀ rows' b i
parted_noted {rows = rows} {rows'} {b} {i} small P F N = record {
  rows_are = rows_noted P.rows_are small N F;
  same = λ v l. begin v l ∙ P.same v l;
  from = omega (arith, P.from, begin b (omega arith));
  within = omega (arith, P.within, begin (b + 1) (omega arith));
  here = λ l.
      let H = P.here (omega (arith, begin b (omega arith))) in
      (omega (arith, H.0, begin (b + 1) (omega arith)), rw (position i P.from) H.1);
  dearer = λ j f g. let k = start j f in rw (position i P.from, position j k) (P.dearer j k g);
}
  where
    begin : (v : ℕ) → v ≤ 256 → entry rows' v ≡ entry rows v
    begin = noted_begins P.rows_are small N

    start : (j : ℕ) → entry rows' b ≤ j → entry rows b ≤ j
    start j f = omega (arith, begin b (omega arith))

    position : (j : ℕ) → entry rows b ≤ j → entry rows' j ≡ entry rows j
    position j f = noted_position P.rows_are small N j (omega (arith, P.rows_are.begins b (omega arith)))

-- ---- the front loses its order before it is looked at

pub rows_loosened : {T H W rows : List ℕ} {b : ℕ} → Rows T H W rows → b < 256 → Rows T H W (set rows (513 + b) 0) × (entry (set rows (513 + b) 0) (513 + b) ≡ 0)
rows_loosened {rows = rows} {b} R small =
    let N = loosened rows b (omega (arith, R.len)) in
    let F = R.fronts b small in
    (rows_noted R small N (loose_front (omega (arith, F.many)) F.within refl), N.count)

pub since_before : {T H W mate rows₀ rows : List ℕ} {b end at second : ℕ} → Rows T H W rows₀ → b < 256 → ExposedFirst T H W mate (set rows₀ (513 + b) 0) rows b end at second
    → ExposedFirst T H W mate rows₀ rows b end at second
since_before {rows₀ = rows₀} {b = b} R small F = record {
  rows_are = F.rows_are;
  same = λ v l. F.same v l ∙ noted_begins R small (loosened rows₀ b (omega (arith, R.len))) v l;
  loose = F.loose;
  from = F.from;
  within = F.within;
  exposed = F.exposed;
  found = F.found;
  lightest = F.lightest;
  found_next = F.found_next;
  next = F.next;
}

-- ---- the lightest last

-- The lightest of the arcs before end stands last, and comes from an exposed vertex.
pub record Led (T H W mate rows₀ rows : List ℕ) (b end : ℕ) : Type 0 where
  pub rows_are : Rows T H W rows
  pub same : (v : ℕ) → v ≤ 256 → entry rows v ≡ entry rows₀ v
  pub loose : entry rows (513 + b) ≡ 0
  pub some : entry rows b < end
  pub within : end ≤ entry rows (b + 1)
  pub exposed : entry mate (row_tail (entry rows (end - 1))) ≡ no_arc
  pub lightest : (j : ℕ) → entry rows b ≤ j → j < end → row_weight (entry rows (end - 1)) ≤ row_weight (entry rows j)

led_parted : {T H W mate rows₀ rows : List ℕ} {b end : ℕ} → Led T H W mate rows₀ rows b end → Parted T H W mate rows₀ rows b (end - 1)
led_parted {b = b} {end} L = record {
  rows_are = L.rows_are;
  same = L.same;
  from = omega (arith, L.some);
  within = omega (arith, L.within);
  here = λ l. (omega (arith, L.some, L.within), L.exposed);
  dearer = λ j f g. L.lightest j f (omega arith);
}

-- it is the only one, or the next one is not known
pub one_front : {T H W mate rows₀ rows rows' : List ℕ} {b end : ℕ} → b < 256 → Led T H W mate rows₀ rows b end → FrontNoted rows rows' b end 1 → Parted T H W mate rows₀ rows' b (end - 1)
one_front {rows = rows} {b = b} {end} small L N = parted_noted small (led_parted L) front N
  where
    front : Front rows b end 1
    front = record {
      within = L.within;
      many = omega (arith, L.some);
      two = omega arith;
      ordered = λ d j l f g. subst (λ (k : ℕ). row_weight (entry rows k) ≤ row_weight (entry rows j)) (last d l) (L.lightest j f (omega arith));
    }
      where
        last : (d : ℕ) → d < 1 → end - 1 ≡ end - d - 1
        last d l = omega arith

module _ {T H W mate rows₀ rows : List ℕ} {b end at second : ℕ} (small : b < 256) (F : ExposedFirst T H W mate rows₀ rows b end at second) where
  pub none_exposed : {rows' : List ℕ} → end ≤ entry rows b → FrontNoted rows rows' b end 0 → Parted T H W mate rows₀ rows' b end
  none_exposed h N = parted_noted small parted (loose_front F.from F.within refl) N
    where
      parted : Parted T H W mate rows₀ rows b end
      parted = record { rows_are = F.rows_are; same = F.same; from = F.from; within = F.within; here = λ l. absurd (omega arith); dearer = λ j f g. absurd (omega arith) }

  -- the lightest changes its place with the last
  module _ (h : entry rows b < end) where
    place : (entry rows b ≤ at) × (at < end)
    place = F.found h

    at_before : at < entry rows (b + 1)
    at_before = omega (arith, place.1, F.within)

    last_from : entry rows b ≤ end - 1
    last_from = omega arith

    last_before : end - 1 < entry rows (b + 1)
    last_before = omega (arith, F.within)

    module _ {rows' : List ℕ} (E : Exchanged rows rows' at (end - 1)) where
      kept : (k : ℕ) → k < 769 → entry rows' k ≡ entry rows k
      kept = before_rows F.rows_are small F.loose E place.0 at_before last_from last_before

      first_kept : entry rows' b ≡ entry rows b
      first_kept = kept b (omega arith)

      held : (j : ℕ) → entry rows b ≤ j → j < end → Held rows (entry rows b) end (entry rows' j)
      held = still_held (exchanged_back E) (entry rows b) end (λ f g. (last_from, omega arith)) (λ f g. place)

      pub lightest_last : Led T H W mate rows₀ rows' b end
      lightest_last = record {
        rows_are = rows_exchanged F.rows_are small F.loose E place.0 at_before last_from last_before;
        same = λ v l. kept v (omega arith) ∙ F.same v l;
        loose = kept (513 + b) (omega arith) ∙ F.loose;
        some = omega (arith, first_kept);
        within = omega (arith, F.within, kept (b + 1) (omega arith));
        exposed = rw E.right (F.exposed at place.0 place.1);
        lightest = λ j f g. let S = held j (omega (arith, first_kept)) g in rw (E.right, ← S.is) (F.lightest S.at S.from S.before);
      }

      -- where the next one is then: nothing before the last weighs less
      module _ (two : entry rows b < end - 1) {r : ℕ} (m : (second ≡ end - 1 → r ≡ at) × (second ≢ end - 1 → r ≡ second)) where
        next_place : (entry rows b ≤ second) × (second < end) × (second ≢ at)
        next_place = F.found_next (omega arith)

        pub next_moved : (entry rows' b ≤ r) × (r < end - 1) × (entry rows' r ≡ entry rows second)
        next_moved = go (ℕ_discrete second (end - 1))
          where
            go : Dec (second ≡ end - 1) → (entry rows' b ≤ r) × (r < end - 1) × (entry rows' r ≡ entry rows second)
            go (yes q) =
                let p = m.0 q in
                (omega (arith, p, place.0, first_kept), omega (arith, p, other), ap (entry rows') p ∙ E.left ∙ ap (entry rows) (sym q))
              where
                other : at < end - 1
                other = apart (ℕ_discrete at (end - 1))
                  where
                    apart : Dec (at ≡ end - 1) → at < end - 1
                    apart (yes p) = absurd (next_place.2 (q ∙ sym p))
                    apart (no p) = omega (arith, place.1)
            go (no q) =
                let p = m.1 q in
                (omega (arith, p, next_place.0, first_kept), omega (arith, p, next_place.1), ap (entry rows') p ∙ E.others second next_place.2 q)

        pub next_lightest : (j : ℕ) → entry rows' b ≤ j → j < end - 1 → row_weight (entry rows' r) ≤ row_weight (entry rows' j)
        next_lightest j f g = rw next_moved.2 (go (ℕ_discrete j at))
          where
            go : Dec (j ≡ at) → row_weight (entry rows second) ≤ row_weight (entry rows' j)
            go (yes q) = rw (ap (entry rows') q ∙ E.left) (F.next (end - 1) last_from (omega arith) (λ p. omega (arith, q)))
            go (no q) = rw (E.others j q (λ p. omega arith)) (F.next j (omega (arith, first_kept)) (omega arith) q)

-- ---- the next one before the last

module _ {T H W mate rows₀ rows : List ℕ} {b end r : ℕ} (small : b < 256) (L : Led T H W mate rows₀ rows b end) (r-from : entry rows b ≤ r) (r-before : r < end - 1)
    (next : (j : ℕ) → entry rows b ≤ j → j < end - 1 → row_weight (entry rows r) ≤ row_weight (entry rows j)) where
  r_within : r < entry rows (b + 1)
  r_within = omega (arith, L.within)

  j_from : entry rows b ≤ end - 1 - 1
  j_from = omega arith

  j_within : end - 1 - 1 < entry rows (b + 1)
  j_within = omega (arith, L.within)

  module _ {rows' : List ℕ} (E : Exchanged rows rows' r (end - 1 - 1)) where
    kept₂ : (k : ℕ) → k < 769 → entry rows' k ≡ entry rows k
    kept₂ = before_rows L.rows_are small L.loose E r-from r_within j_from j_within

    start : (j : ℕ) → entry rows' b ≤ j → entry rows b ≤ j
    start j f = omega (arith, kept₂ b (omega arith))

    -- the last stays where it is
    last_kept : entry rows' (end - 1) ≡ entry rows (end - 1)
    last_kept = E.others (end - 1) (λ q. omega arith) (λ q. omega arith)

    held_before : (s : ℕ) → end - 1 ≤ s → (j : ℕ) → entry rows b ≤ j → j < s → Held rows (entry rows b) s (entry rows' j)
    held_before s g = still_held (exchanged_back E) (entry rows b) s (λ f k. (j_from, omega arith)) (λ f k. (r-from, omega arith))

    led : Led T H W mate rows₀ rows' b end
    led = record {
      rows_are = rows_exchanged L.rows_are small L.loose E r-from r_within j_from j_within;
      same = λ v l. kept₂ v (omega arith) ∙ L.same v l;
      loose = kept₂ (513 + b) (omega arith) ∙ L.loose;
      some = omega (arith, L.some, kept₂ b (omega arith));
      within = omega (arith, L.within, kept₂ (b + 1) (omega arith));
      exposed = rw last_kept L.exposed;
      lightest = λ j f g. let S = held_before end (omega arith) j (start j f) g in rw (last_kept, ← S.is) (L.lightest S.at S.from S.before);
    }

    -- of the last two each weighs no more than any before it
    ordered₂ : (d j : ℕ) → d < 2 → entry rows' b ≤ j → j + d + 1 < end → row_weight (entry rows' (end - d - 1)) ≤ row_weight (entry rows' j)
    ordered₂ d j l f g = go (ℕ_discrete d 0)
      where
        go : Dec (d ≡ 0) → row_weight (entry rows' (end - d - 1)) ≤ row_weight (entry rows' j)
        go (yes q) = subst (λ (k : ℕ). row_weight (entry rows' k) ≤ row_weight (entry rows' j)) (last q) (led.lightest j f (omega arith))
          where
            last : d ≡ 0 → end - 1 ≡ end - d - 1
            last q = omega arith
        go (no q) =
            let S = held_before (end - 1) (omega arith) j (start j f) (omega arith) in
            subst (λ (k : ℕ). row_weight (entry rows' k) ≤ row_weight (entry rows' j)) (before_last q) (rw (E.right, ← S.is) (next S.at S.from S.before))
          where
            before_last : d ≢ 0 → end - 1 - 1 ≡ end - d - 1
            before_last n = omega arith

    pub two_front : {rows'' : List ℕ} → FrontNoted rows' rows'' b end 2 → Parted T H W mate rows₀ rows'' b (end - 1)
    two_front N = parted_noted small (led_parted led) (record { within = led.within; many = omega (arith, kept₂ b (omega arith)); two = omega arith; ordered = ordered₂ }) N
