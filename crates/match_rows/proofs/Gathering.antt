-- The arcs of a row from exposed vertices put before the others, one after the other, and the two lightest of them last.
use mathlib.Core.Path.{◌≡◌, sym, ap, ◌∙◌}
use mathlib.Core.List.{List}
use mathlib.Core.Logic.{◌≢◌}
use Prim.Native.Nat.{ℕ, ◌+◌, ◌-◌, ◌<◌, ◌≤◌}
use native.Mathlib.Decide.{ℕ_discrete}
use native.Mathlib.Omega.{arith}
use lib.ListN.{length}
use borrow.Author.Count.{below_more}
use Rattle.packed_arcs.specs.Entries.{entry}
use Rattle.arc_index.specs.ArcIndex.{no_arc}
use Rattle.match_state.specs.Rows.{row_tail, row_weight, Rows}
use Rattle.match_rows.specs.Parting.{Exchanged, ExposedFirst}
use Rattle.match_rows.proofs.OtherOrder.{before_rows, rows_exchanged}

light : (arc : ℕ) → row_weight arc < 65536
light arc = omega arith

-- The arcs of the row of b before the position i come from exposed vertices, and those from end on are not looked at any more. The lightest before i weighs `least` and stands at `at`, where there is one; the lightest
-- of the others weighs `next` and stands at `second`.
pub record Gathering (T H W mate rows₀ rows : List ℕ) (b i end at second least next : ℕ) : Type 0 where
  pub rows_are : Rows T H W rows
  pub same : (v : ℕ) → v ≤ 256 → entry rows v ≡ entry rows₀ v
  pub loose : entry rows (513 + b) ≡ 0
  pub from : entry rows b ≤ i
  pub below : i ≤ end
  pub within : end ≤ entry rows (b + 1)
  pub exposed : (j : ℕ) → j < i → entry rows b ≤ j → entry mate (row_tail (entry rows j)) ≡ no_arc
  pub found : least < 65536 → (entry rows b ≤ at) × (at < i) × (row_weight (entry rows at) ≡ least)
  pub lightest : (j : ℕ) → j < i → entry rows b ≤ j → least ≤ row_weight (entry rows j)
  pub found_next : next < 65536 → (entry rows b ≤ second) × (second < i) × (row_weight (entry rows second) ≡ next) × (second ≢ at)
  pub others : (j : ℕ) → j < i → entry rows b ≤ j → j ≢ at → next ≤ row_weight (entry rows j)
  pub order : least ≤ next

module _ {T H W mate rows₀ rows : List ℕ} {b i end at second least next : ℕ} (small : b < 256) (G : Gathering T H W mate rows₀ rows b i end at second least next) (l : i < end) where
  pub in_rows : i < length rows
  in_rows = omega (arith, G.within, G.rows_are.ends (b + 1) (omega arith))

  pub tail_below : {n : ℕ} → ((e : ℕ) → e < length H → entry T e < n) → row_tail (entry rows i) < n
  tail_below f = let A = G.rows_are.own b i small G.from (omega (arith, G.within)) in rw A.tail (f _ A.number)

  -- the arc at i comes from an exposed vertex
  module _ (h : entry mate (row_tail (entry rows i)) ≡ no_arc) where
    exposed₁ : (j : ℕ) → j < i + 1 → entry rows b ≤ j → entry mate (row_tail (entry rows j)) ≡ no_arc
    exposed₁ = below_more (λ j. entry rows b ≤ j → entry mate (row_tail (entry rows j)) ≡ no_arc) i G.exposed (λ f. h)

    pub lighter : {weight here : ℕ} → here ≡ i → weight ≡ row_weight (entry rows i) → weight < least → Gathering T H W mate rows₀ rows b (i + 1) end here at weight least
    lighter {weight} {here} p q c = record {
      rows_are = G.rows_are;
      same = G.same;
      loose = G.loose;
      from = omega (arith, G.from);
      below = omega arith;
      within = G.within;
      exposed = exposed₁;
      found = λ k. (omega (arith, p, G.from), omega (arith, p), ap (λ (n : ℕ). row_weight (entry rows n)) p ∙ sym q);
      lightest = below_more (λ j. entry rows b ≤ j → weight ≤ row_weight (entry rows j)) i (λ j g f. omega (arith, G.lightest j g f)) (λ f. omega arith);
      found_next = λ k. let F = G.found k in (F.0, omega (arith, F.1), F.2, λ r. omega (arith, F.1));
      others = below_more (λ j. entry rows b ≤ j → j ≢ here → least ≤ row_weight (entry rows j)) i (λ j g f n. G.lightest j g f) (λ f n. absurd (n (sym p)));
      order = omega arith;
    }

    pub between : {weight here : ℕ} → here ≡ i → weight ≡ row_weight (entry rows i) → least ≤ weight → weight < next → Gathering T H W mate rows₀ rows b (i + 1) end at here least weight
    between {weight} {here} p q c d = record {
      rows_are = G.rows_are;
      same = G.same;
      loose = G.loose;
      from = omega (arith, G.from);
      below = omega arith;
      within = G.within;
      exposed = exposed₁;
      found = λ k. let F = G.found k in (F.0, omega (arith, F.1), F.2);
      lightest = below_more (λ j. entry rows b ≤ j → least ≤ row_weight (entry rows j)) i G.lightest (λ f. omega arith);
      found_next = λ k.
          let F = G.found (omega arith) in
          (omega (arith, p, G.from), omega (arith, p), ap (λ (n : ℕ). row_weight (entry rows n)) p ∙ sym q, λ r. omega (arith, F.1, p));
      others = below_more (λ j. entry rows b ≤ j → j ≢ at → weight ≤ row_weight (entry rows j)) i (λ j g f n. omega (arith, G.others j g f n)) (λ f n. omega arith);
      order = c;
    }

    pub heavier : next ≤ row_weight (entry rows i) → Gathering T H W mate rows₀ rows b (i + 1) end at second least next
    heavier c = record {
      rows_are = G.rows_are;
      same = G.same;
      loose = G.loose;
      from = omega (arith, G.from);
      below = omega arith;
      within = G.within;
      exposed = exposed₁;
      found = λ k. let F = G.found k in (F.0, omega (arith, F.1), F.2);
      lightest = below_more (λ j. entry rows b ≤ j → least ≤ row_weight (entry rows j)) i G.lightest (λ f. omega (arith, G.order));
      found_next = λ k. let F = G.found_next k in (F.0, omega (arith, F.1), F.2, F.3);
      others = below_more (λ j. entry rows b ≤ j → j ≢ at → next ≤ row_weight (entry rows j)) i G.others (λ f n. c);
      order = G.order;
    }

  -- it does not
  pub set_aside : {rows' : List ℕ} → Exchanged rows rows' i (end - 1) → Gathering T H W mate rows₀ rows' b i (end - 1) at second least next
  set_aside {rows'} E = record {
    rows_are = rows_exchanged R small G.loose E G.from i_before j_from j_before;
    same = λ v h. kept v (omega arith) ∙ G.same v h;
    loose = kept (513 + b) (omega arith) ∙ G.loose;
    from = omega (arith, G.from, kept b (omega arith));
    below = omega arith;
    within = omega (arith, G.within, kept (b + 1) (omega arith));
    exposed = λ j g f. rw (before_i j g) (G.exposed j g (start j f));
    found = λ k. let F = G.found k in (omega (arith, F.0, kept b (omega arith)), F.1, ap row_weight (before_i at F.1) ∙ F.2);
    lightest = λ j g f. rw (before_i j g) (G.lightest j g (start j f));
    found_next = λ k. let F = G.found_next k in (omega (arith, F.0, kept b (omega arith)), F.1, ap row_weight (before_i second F.1) ∙ F.2, F.3);
    others = λ j g f n. rw (before_i j g) (G.others j g (start j f) n);
    order = G.order;
  }
    where
      R : Rows T H W rows
      R = G.rows_are

      i_before : i < entry rows (b + 1)
      i_before = omega (arith, G.within)

      j_from : entry rows b ≤ end - 1
      j_from = omega (arith, G.from)

      j_before : end - 1 < entry rows (b + 1)
      j_before = omega (arith, G.within)

      kept : (k : ℕ) → k < 769 → entry rows' k ≡ entry rows k
      kept = before_rows R small G.loose E G.from i_before j_from j_before

      start : (j : ℕ) → entry rows' b ≤ j → entry rows b ≤ j
      start j f = omega (arith, kept b (omega arith))

      before_i : (j : ℕ) → j < i → entry rows' j ≡ entry rows j
      before_i j g = E.others j (λ q. omega arith) (λ q. omega arith)

pub gathering_end : {T H W mate rows₀ rows : List ℕ} {b i end at second least next : ℕ} → end ≤ i → Gathering T H W mate rows₀ rows b i end at second least next
    → ExposedFirst T H W mate rows₀ rows b end at second
gathering_end {rows = rows} {b} {i} {end} {at} {second} {least} {next} h G = record {
  rows_are = G.rows_are;
  same = G.same;
  loose = G.loose;
  from = omega (arith, G.from, G.below);
  within = G.within;
  exposed = λ j f g. G.exposed j (omega (arith, G.below)) f;
  found = λ l. let F = any (entry rows b) (omega arith) l in (F.0, omega (arith, F.1, G.below));
  lightest = λ j f g. omega (arith, (any j f g).2, G.lightest j (omega (arith, G.below)) f);
  found_next = λ l. let F = two l (ℕ_discrete (entry rows b) at) in (F.0, omega (arith, F.1, G.below), F.3);
  next = λ j f g n. omega (arith, (another j f g n).2, G.others j (omega (arith, G.below)) f n);
}
  where
    -- where an arc was found, so was the lightest
    any : (j : ℕ) → entry rows b ≤ j → j < end → (entry rows b ≤ at) × (at < i) × (row_weight (entry rows at) ≡ least)
    any j f g = G.found (omega (arith, G.lightest j (omega (arith, G.below)) f, light (entry rows j)))

    another : (j : ℕ) → entry rows b ≤ j → j < end → j ≢ at → (entry rows b ≤ second) × (second < i) × (row_weight (entry rows second) ≡ next) × (second ≢ at)
    another j f g n = G.found_next (omega (arith, G.others j (omega (arith, G.below)) f n, light (entry rows j)))

    -- of two arcs one is not the lightest
    two : entry rows b + 1 < end → Dec (entry rows b ≡ at) → (entry rows b ≤ second) × (second < i) × (row_weight (entry rows second) ≡ next) × (second ≢ at)
    two l (yes q) = another (entry rows b + 1) (omega arith) l (λ r. omega (arith, q))
    two l (no q) = another (entry rows b) (omega arith) (omega arith) q
