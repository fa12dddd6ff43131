-- Marks along the path, from the vertex on from which an arc enters the last: a cycle.
use mathlib.Core.Path.{◌≡◌, refl, sym, ◌∙◌, ap, subst}
use mathlib.Core.Logic.{⊎_elim}
use mathlib.Core.List.{List}
use Prim.Native.Nat.{ℕ, ◌+◌, ◌-◌, ◌<◌, ◌≤◌}
use native.Mathlib.Decide.{dec_lt, ℕ_discrete}
use native.Mathlib.Omega.{arith}
use lib.ListN.{length, get_or, take, drop, set, length-set, length-replicate}
use lib.Seq.{get_or-drop, get_or-take}
use Rattle.arc_records.specs.Arcs.{delta}
use Rattle.packed_arcs.specs.Entries.{entry, zero_list, flow_at}
use Rattle.packed_arcs.proofs.LentParts.{zero_at}
use Rattle.packed_arcs.proofs.ColumnSums.{flow_none, flow_add}
use Rattle.packed_arcs.proofs.ListLoops.{set_cases}
use Rattle.arc_index.specs.ArcIndex.{no_arc}
use Rattle.order_path.specs.Search.{Circulation}
use Rattle.order_path.specs.Steps.{Arcs, Points, Path, ClosedPath}

-- the arc e, which has no mark, gets one
at_marked : (l xs : List ℕ) (e v : ℕ) → e < length l → length xs ≡ length l → entry xs e ≡ 0 → flow_at l (set xs e 1) v ≡ flow_at l xs v + delta (entry l e) v
unfolding delta
at_marked l xs e v h q z = let f = rw z at (flow_add l xs e 1 v h q) in omega (arith, f)

-- ---- along the path

-- the vertex at the index j of the part from k on
pub in_part : (path : List ℕ) (k len j : ℕ) → k + j < len → get_or (take (len - k) (drop k path)) j 0 ≡ entry path (k + j)
in_part path k len j h = get_or-take (len - k) (drop k path) j 0 (omega arith) ∙ get_or-drop k path j 0

-- The arcs into the vertices of the path from k to i - 1 are marked. They lead from the vertex `from` to that at k.
pub record Marking (tails heads into path spot marks : List ℕ) (k len i : ℕ) : Type 0 where
  pub begun : k ≤ i
  pub marks_len : length marks ≡ length tails
  pub zero_or_one : (e : ℕ) → entry marks e ≤ 1
  pub behind : (e : ℕ) → 0 < entry marks e → entry spot (entry heads e) ≤ i
  pub hook : k < i → 0 < entry marks (entry into (entry path k))
  pub from : ℕ
  pub on_path : i < len → from ≡ entry path i
  pub around : len ≤ i → from ≡ entry path k
  pub balance : (v : ℕ) → flow_at tails marks v + delta (entry path k) v ≡ flow_at heads marks v + delta from v

-- what the code asks at the index i of the path
pub record AtIndex (rs into path : List ℕ) (i : ℕ) : Type 0 where
  pub inside : i < length path
  pub low : i < 255
  pub vertex : entry path i < length into
  pub vertex_low : entry path i < 255
  pub arc : entry into (entry path i) < length rs
  pub arc_low : entry into (entry path i) < 4096

module _ {n : ℕ} {tails heads into path spot : List ℕ} {len : ℕ} (A : Arcs n tails heads) (C : ClosedPath n tails heads into path spot len) where
  abbrev P : Path n tails into path spot len
  P = C.on_path

  -- the arc into the vertex at i
  module _ (i : ℕ) (h : i < len) where
    abbrev arc : ℕ
    arc = entry into (entry path i)

    some_arc : arc < no_arc
    some_arc = go (dec_lt (i + 1) len)
      where
        go : Dec (i + 1 < len) → arc < no_arc
        go (yes l) = (P.joined i l).some
        go (no ne) = subst (λ (j : ℕ). entry into (entry path j) < no_arc) (omega arith) C.taken

    at_vertex : Points heads (entry path i) arc
    at_vertex = C.points (entry path i) (P.vertex i h)

    pub arc_below : arc < length tails
    arc_below = omega (arith, at_vertex.within some_arc, A.heads_len)

    arc_head : entry heads arc ≡ entry path i
    arc_head = at_vertex.here some_arc

  -- what the code asks at the index i
  pub at_index : (rs : List ℕ) → length tails ≡ length rs → (i : ℕ) → i < len → AtIndex rs into path i
  at_index rs q i h =
      let vertex : entry path i < n = P.vertex i h in
      let arc : entry into (entry path i) < length tails = arc_below i h in
      record {
        inside = omega (arith, P.count, P.path_len);
        low = omega (arith, P.count, A.vertices);
        vertex = omega (arith, C.into_len);
        vertex_low = omega (arith, A.vertices);
        arc = omega arith;
        arc_low = omega (arith, A.few);
      }

  -- w is the vertex from which an arc enters the last, and k is its index
  module _ (w k : ℕ) (hw : w ≡ entry tails (entry into (entry path (len - 1)))) (hk : k ≡ entry spot w - 1) where
    spotted : 0 < entry spot w
    spotted = subst (λ (u : ℕ). 0 < entry spot u) (sym hw) C.closes

    within_path : k < len
    within_path = omega (arith, spotted, P.within w)

    is_vertex : entry path k ≡ w
    is_vertex = ap (entry path) hk ∙ P.back w spotted

    pub marking_none : (marks : List ℕ) → marks ≡ zero_list (length tails) → Marking tails heads into path spot marks k len k
    marking_none marks z = rw z (record {
      begun = omega arith;
      marks_len = length-replicate (length tails) 0;
      zero_or_one = λ e. omega (arith, zero_at (length tails) e);
      behind = λ e p. absurd (omega (arith, zero_at (length tails) e));
      hook = λ p. absurd (omega arith);
      from = entry path k;
      on_path = λ p. refl;
      around = λ p. absurd (omega (arith, within_path));
      balance = λ v. omega (arith, flow_none tails (length tails) v, flow_none heads (length tails) v);
    })

    -- the arc e into the vertex at i gets a mark
    module _ {marks : List ℕ} {i e : ℕ} (M : Marking tails heads into path spot marks k len i) (h : i < len) (he : e ≡ arc i h) where
      below : e < length tails
      below = omega (arith, arc_below i h)

      slot : e < length marks
      slot = omega (arith, below, M.marks_len)

      spot_head : entry spot (entry heads e) ≡ i + 1
      spot_head = ap (λ (d : ℕ). entry spot (entry heads d)) he ∙ ap (entry spot) (arc_head i h) ∙ P.spots i h

      unmarked : entry marks e ≡ 0
      unmarked = go (dec_lt 0 (entry marks e))
        where
          go : Dec (0 < entry marks e) → entry marks e ≡ 0
          go (yes p) = absurd (omega (arith, M.behind e p, spot_head))
          go (no ne) = omega arith

      pub marking_more : Marking tails heads into path spot (set marks e 1) k len (i + 1)
      marking_more = record {
        begun = omega (arith, M.begun);
        marks_len = length-set marks e 1 ∙ M.marks_len;
        zero_or_one = λ d. ⊎_elim (λ p. omega (arith, p.1)) (λ p. omega (arith, p.1, M.zero_or_one d)) (set_cases marks e 1 d slot);
        behind = λ d l. ⊎_elim
            (λ p. omega (arith, ap (λ (j : ℕ). entry spot (entry heads j)) p.0, spot_head))
            (λ p. omega (arith, M.behind d (omega (arith, p.1))))
            (set_cases marks e 1 d slot);
        hook = λ l. ⊎_elim
            (λ p. omega (arith, p.1))
            (λ p. omega (arith, p.1, M.hook (begun_before p.0)))
            (set_cases marks e 1 (entry into (entry path k)) slot);
        from = entry tails e;
        on_path = λ l. ap (entry tails) he ∙ (P.joined i l).tail;
        around = λ l. ap (entry tails) he ∙ ap (λ (j : ℕ). entry tails (entry into (entry path j))) (last l) ∙ sym hw ∙ sym is_vertex;
        balance = λ v.
            let at_tail = at_marked tails marks e v below M.marks_len unmarked in
            let at_head = at_marked heads marks e v (omega (arith, below, A.heads_len)) (M.marks_len ∙ sym A.heads_len) unmarked in
            let same : delta (entry heads e) v ≡ delta M.from v = ap (λ (u : ℕ). delta u v) (ap (entry heads) he ∙ arc_head i h ∙ sym (M.on_path h)) in
            omega (arith, M.balance v);
      }
        where
          last : len ≤ i + 1 → i ≡ len - 1
          last l = omega arith

          begun_before : (entry into (entry path k) ≡ e → ⊥) → k < i
          begun_before ne = go (ℕ_discrete k i)
            where
              go : Dec (k ≡ i) → k < i
              go (yes q) = absurd (ne (ap (λ (j : ℕ). entry into (entry path j)) q ∙ sym he))
              go (no other) = omega (arith, M.begun)
