-- The path: empty, longer by a vertex, shorter by its last vertex, and the places of its vertices.
use mathlib.Core.Path.{◌≡◌, refl, sym, ◌∙◌, ap, subst}
use mathlib.Core.Logic.{◌≢◌, ⊎_elim}
use mathlib.Core.List.{List}
use Prim.Native.Nat.{ℕ, ◌+◌, ◌-◌, ◌<◌, ◌≤◌}
use native.Mathlib.Decide.{ℕ_discrete}
use native.Mathlib.Omega.{arith}
use lib.ListN.{length, set, length-set, length-replicate}
use lib.Seq.{get_or-set_same, get_or-set_other}
use Rattle.packed_arcs.specs.Entries.{entry, zero_list, zero_count}
use Rattle.packed_arcs.proofs.LentParts.{zero_at}
use Rattle.packed_arcs.proofs.ListLoops.{set_cases}
use Rattle.order_path.specs.Steps.{LeadsFrom, Path}
use Rattle.packed_arcs.proofs.Zeros.{zeros_all, zeros_fewer, zeros_more}

pub path_none : {n : ℕ} {tails into path spot : List ℕ} → length path ≡ n → spot ≡ zero_list n → Path n tails into path spot 0
path_none {n} {tails} {into} {path} {spot} q z = record {
  path_len = q;
  spot_len = ap length z ∙ length-replicate n 0;
  count = omega (arith, ap zero_count z, zeros_all n);
  vertex = λ i h. absurd (omega arith);
  spots = λ i h. absurd (omega arith);
  joined = λ i h. absurd (omega arith);
  within = λ v. omega (arith, none v);
  back = λ v h. absurd (omega (arith, none v));
}
  where
    none : (v : ℕ) → entry spot v ≡ 0
    none v = ap (λ (l : List ℕ). entry l v) z ∙ zero_at n v

module _ {n : ℕ} {tails into path spot : List ℕ} {len : ℕ} (P : Path n tails into path spot len) where
  -- the vertices are different
  pub path_apart : (i j : ℕ) → i < len → j < len → i ≢ j → entry path i ≢ entry path j
  path_apart i j h l ne q = ne (omega (arith, P.spots i h, P.spots j l, ap (entry spot) q))

  -- the current arc of the last vertex moves on
  pub path_moved : (into' : List ℕ) → 0 < len → ((u : ℕ) → u ≢ entry path (len - 1) → entry into' u ≡ entry into u) → Path n tails into' path spot len
  path_moved into' some others = record {
    path_len = P.path_len;
    spot_len = P.spot_len;
    count = P.count;
    vertex = P.vertex;
    spots = P.spots;
    joined = λ i h.
        subst (λ (k : ℕ). LeadsFrom tails k (entry path (i + 1)))
        (sym (others (entry path i) (path_apart i (len - 1) (omega arith) (omega arith) (λ e. absurd (omega arith)))))
        (P.joined i h);
    within = P.within;
    back = P.back;
  }

  -- the vertex v is put at its end
  module _ (v : ℕ) (hv : v < n) (off : entry spot v ≡ 0) where
    slot : v < length spot
    slot = omega (arith, P.spot_len)

    fewer : zero_count (set spot v (len + 1)) + 1 ≡ zero_count spot
    fewer = zeros_fewer spot v (len + 1) slot off (omega arith)

    pub has_room : len < n
    has_room = omega (arith, fewer, P.count)

    room : len < length path
    room = omega (arith, has_room, P.path_len)

    abbrev path₁ : List ℕ
    path₁ = set path len v

    abbrev spot₁ : List ℕ
    spot₁ = set spot v (len + 1)

    last₁ : entry path₁ len ≡ v
    last₁ = get_or-set_same path len v 0 room

    same₁ : (i : ℕ) → i < len → entry path₁ i ≡ entry path i
    same₁ i h = get_or-set_other path len i v 0 (λ e. absurd (omega arith))

    -- at the end, or before it
    along : (Q : ℕ → ℕ → Type 0) → Q len v → ((i : ℕ) → i < len → Q i (entry path i)) → (i : ℕ) → i < len + 1 → Q i (entry path₁ i)
    along Q new old i h = go (ℕ_discrete i len)
      where
        go : Dec (i ≡ len) → Q i (entry path₁ i)
        go (yes e) = subst (λ (j : ℕ). Q j (entry path₁ j)) (sym e) (subst (Q len) (sym last₁) new)
        go (no ne) = let b : i < len = omega arith in subst (Q i) (sym (same₁ i b)) (old i b)

    pub path_longer : (0 < len → LeadsFrom tails (entry into (entry path (len - 1))) v) → Path n tails into path₁ spot₁ (len + 1)
    path_longer joint = record {
      path_len = length-set path len v ∙ P.path_len;
      spot_len = length-set spot v (len + 1) ∙ P.spot_len;
      count = omega (arith, fewer, P.count);
      vertex = along (λ i u. u < n) hv P.vertex;
      spots = along (λ i u. entry spot₁ u ≡ i + 1) (get_or-set_same spot v (len + 1) 0 slot) (λ i h.
          get_or-set_other spot v (entry path i) (len + 1) 0 (λ e. absurd (omega (arith, P.spots i h, ap (entry spot) e))) ∙ P.spots i h);
      joined = λ i h.
          subst (λ (u : ℕ). LeadsFrom tails (entry into u) (entry path₁ (i + 1))) (sym (same₁ i (omega arith)))
          (along (λ j u. (d : ℕ) → d + 1 ≡ j → LeadsFrom tails (entry into (entry path d)) u)
          (λ d e. subst (λ (k : ℕ). LeadsFrom tails (entry into (entry path k)) v) (omega arith) (joint (omega arith)))
          (λ j b d e. subst (λ (k : ℕ). LeadsFrom tails (entry into (entry path d)) (entry path k)) e (P.joined d (omega arith)))
          (i + 1) (omega arith) i refl);
      within = λ u. ⊎_elim (λ p. omega (arith, p.1)) (λ p. omega (arith, p.1, P.within u)) (set_cases spot v (len + 1) u slot);
      back = λ u h. ⊎_elim
          (λ p. subst (λ (k : ℕ). entry path₁ (k - 1) ≡ u) (sym p.1) (subst (λ (k : ℕ). entry path₁ k ≡ u) (omega arith) (last₁ ∙ sym p.0)))
          (λ p. subst (λ (k : ℕ). entry path₁ (k - 1) ≡ u) (sym p.1)
          (same₁ (entry spot u - 1) (omega (arith, P.within u, p.1)) ∙ P.back u (omega (arith, p.1))))
          (set_cases spot v (len + 1) u slot);
    }

  -- its last vertex v is taken off
  module _ (v : ℕ) (some : 0 < len) (last : v ≡ entry path (len - 1)) where
    has_slot : v < length spot
    has_slot = omega (arith, P.spot_len, P.vertex (len - 1) (omega arith))

    spot_last : entry spot v ≡ (len - 1) + 1
    spot_last = ap (entry spot) last ∙ P.spots (len - 1) (omega arith)

    pub not_last : (i : ℕ) → i < len - 1 → entry path i ≢ v
    not_last i h e = path_apart i (len - 1) (omega arith) (omega arith) (λ q. absurd (omega arith)) (e ∙ last)

    pub path_shorter : Path n tails into path (set spot v 0) (len - 1)
    path_shorter = record {
      path_len = P.path_len;
      spot_len = length-set spot v 0 ∙ P.spot_len;
      count = omega (arith, zeros_more spot v has_slot (omega (arith, spot_last)), P.count);
      vertex = λ i h. P.vertex i (omega arith);
      spots = λ i h. get_or-set_other spot v (entry path i) 0 0 (not_last i h) ∙ P.spots i (omega arith);
      joined = λ i h. P.joined i (omega arith);
      within = λ u. ⊎_elim (λ p. omega (arith, p.1)) (λ p. omega (arith, p.1, lower u p.0)) (set_cases spot v 0 u has_slot);
      back = λ u h. ⊎_elim
          (λ p. absurd (omega (arith, p.1)))
          (λ p. subst (λ (k : ℕ). entry path (k - 1) ≡ u) (sym p.1) (P.back u (omega (arith, p.1))))
          (set_cases spot v 0 u has_slot);
    }
      where
        lower : (u : ℕ) → u ≢ v → entry spot u ≤ len - 1
        lower u ne = go (ℕ_discrete (entry spot u) len)
          where
            go : Dec (entry spot u ≡ len) → entry spot u ≤ len - 1
            go (yes e) = absurd (ne (sym (P.back u (omega arith)) ∙ ap (λ (k : ℕ). entry path (k - 1)) e ∙ sym last))
            go (no other) = omega (arith, P.within u)
