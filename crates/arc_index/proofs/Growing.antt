-- An index grows by one arc.
use mathlib.Core.Path.{◌≡◌, refl, sym, ap, subst, ◌∙◌}
use mathlib.Core.List.{List, [], ◌∷◌}
use mathlib.Core.Logic.{◌⊎◌, inl, inr, ⊎_elim, ◌≢◌}
use Prim.Native.Nat.{ℕ, suc, ◌+◌, ◌<◌, ◌≤◌}
use native.Mathlib.Omega.{arith}
use native.Mathlib.Decide.{ℕ_discrete, dec_lt}
use lib.ListN.{length, length-set, length-replicate, get_or-replicate}
use lib.Seq.{get_or-set_same, get_or-set_other}
use Rattle.prelude.specs.Lists.{Every}
use Rattle.prelude.proofs.Lists.{list_to_length}
use Rattle.packed_arcs.specs.Entries.{entry}
use Rattle.packed_arcs.proofs.ListLoops.{set_cases}
use Rattle.arc_index.specs.ArcIndex.{no_arc, Index, first_arc, next_arc, empty_index, added, index_from}
use Rattle.arc_index.proofs.Filled.{listed_at}

-- e is the first of the arcs lo to m - 1 whose end in the column is v, or no_arc where there is none
pub data FirstOf (col : ℕ → ℕ) (m v lo e : ℕ) : Type 0 where
  found : lo ≤ e → e < m → col e ≡ v → ((j : ℕ) → lo ≤ j → j < e → col j ≢ v) → FirstOf col m v lo e
  none : e ≡ no_arc → ((j : ℕ) → lo ≤ j → j < m → col j ≢ v) → FirstOf col m v lo e

-- p is the last place of the chain of v: v itself, or 256 + e for its last arc e
pub data Last (col : ℕ → ℕ) (m v p : ℕ) : Type 0 where
  empty : p ≡ v → ((j : ℕ) → j < m → col j ≢ v) → Last col m v p
  after : (e : ℕ) → p ≡ 256 + e → e < m → col e ≡ v → ((j : ℕ) → e < j → j < m → col j ≢ v) → Last col m v p

-- an index of the first m arcs, with room for most
pub record Growing (col : ℕ → ℕ) (most m : ℕ) (I : Index) : Type 0 where
  pub few : most ≤ no_arc
  pub room : length I.links ≡ 256 + most
  pub places : length I.last ≡ 256
  pub heads : (v : ℕ) → v < 256 → FirstOf col m v 0 (first_arc I.links v)
  pub nexts : (e : ℕ) → e < m → FirstOf col m (col e) (e + 1) (next_arc I.links e)
  pub lasts : (v : ℕ) → v < 256 → Last col m v (entry I.last v)
  pub rest : (e : ℕ) → m ≤ e → e < most → next_arc I.links e ≡ no_arc

-- ---- no arcs

pub growing_none : (col : ℕ → ℕ) (most : ℕ) → most ≤ no_arc → Growing col most 0 (empty_index most)
growing_none col most h = record {
  few = h;
  room = length-replicate (256 + most) no_arc;
  places = list_to_length 256 (λ v. v);
  heads = λ v l. FirstOf.none (get_or-replicate (256 + most) v no_arc 0 (omega arith)) (λ j g i. absurd (omega arith));
  nexts = λ e l. absurd (omega arith);
  lasts = λ v l. Last.empty (listed_at 256 v l) (λ j i. absurd (omega arith));
  rest = λ e l b. get_or-replicate (256 + most) (256 + e) no_arc 0 (omega arith);
}

-- ---- one arc more

-- of another end, or after the one found
first_more : {col : ℕ → ℕ} {m v lo e : ℕ} → m ≤ no_arc → FirstOf col m v lo e → ((e < m) ⊎ (col m ≢ v)) → FirstOf col (m + 1) v lo e
first_more {col} {m} {v} {lo} {e} hm (FirstOf.found a b c d) h = FirstOf.found a (omega arith) c d
first_more {col} {m} {v} {lo} {e} hm (FirstOf.none a d) (inl h) = absurd (omega arith)
first_more {col} {m} {v} {lo} {e} hm (FirstOf.none a d) (inr h) = FirstOf.none a (λ j g i. go j g (ℕ_discrete j m) i)
  where
    go : (j : ℕ) → lo ≤ j → Dec (j ≡ m) → j < m + 1 → col j ≢ v
    go j g (yes q) i = subst (λ (z : ℕ). col z ≢ v) (sym q) h
    go j g (no q) i = d j g (omega arith)

-- where an arc has that end, one is found
first_some : {col : ℕ → ℕ} {m v lo e j : ℕ} → FirstOf col m v lo e → lo ≤ j → j < m → col j ≡ v → e < m
first_some (FirstOf.found a b c d) g i q = b
first_some {j = j} (FirstOf.none a d) g i q = absurd (d j g i q)

module _ (col : ℕ → ℕ) (most e v : ℕ) (I : Index) (within : e < most) (hv : v < 256) (ev : col e ≡ v) (G : Growing col most e I) where
  abbrev p : ℕ
  p = entry I.last v

  abbrev links₁ : List ℕ
  links₁ = (added e v I).links

  abbrev last₁ : List ℕ
  last₁ = (added e v I).last

  low : e ≤ no_arc
  low = omega (arith, G.few)

  last_p : Last col e v p
  last_p = G.lasts v hv

  p_ok : p < 256 + e
  p_ok = go last_p
    where
      go : Last col e v p → p < 256 + e
      go (Last.empty q h) = omega arith
      go (Last.after j q i c h) = omega arith

  -- a place other than p keeps its link
  same : (i : ℕ) → i ≢ p → entry links₁ i ≡ entry I.links i
  same i ne = get_or-set_other I.links p i e 0 ne

  at_p : entry links₁ p ≡ e
  at_p = get_or-set_same I.links p e 0 (omega (arith, p_ok, G.room))

  heads₁ : (w : ℕ) → w < 256 → FirstOf col (e + 1) w 0 (entry links₁ w)
  heads₁ w hw = go (ℕ_discrete w p) (ℕ_discrete w v)
    where
      old : FirstOf col e w 0 (entry I.links w)
      old = G.heads w hw

      here : Last col e v p → w ≡ p → FirstOf col (e + 1) w 0 (entry links₁ w)
      here (Last.empty q h) r =
          subst (λ (z : ℕ). FirstOf col (e + 1) w 0 z) (sym (ap (entry links₁) r ∙ at_p))
          (FirstOf.found (omega arith) (omega arith) (ev ∙ sym q ∙ sym r) (λ j g i. subst (λ (z : ℕ). col j ≢ z) (sym q ∙ sym r) (h j i)))
      here (Last.after j q i c h) r = absurd (omega arith)

      away : Last col e v p → w ≢ p → w ≡ v → FirstOf col (e + 1) w 0 (entry links₁ w)
      away (Last.empty q h) ne r = absurd (ne (r ∙ sym q))
      away (Last.after j q i c h) ne r =
          subst (λ (z : ℕ). FirstOf col (e + 1) w 0 z) (sym (same w ne)) (first_more low old (inl (first_some old (omega arith) i (c ∙ sym r))))

      go : Dec (w ≡ p) → Dec (w ≡ v) → FirstOf col (e + 1) w 0 (entry links₁ w)
      go (yes r) d = here last_p r
      go (no r) (yes q) = away last_p r q
      go (no r) (no q) = subst (λ (z : ℕ). FirstOf col (e + 1) w 0 z) (sym (same w r)) (first_more low old (inr (λ c. q (sym c ∙ ev))))

  nexts₁ : (j : ℕ) → j < e + 1 → FirstOf col (e + 1) (col j) (j + 1) (entry links₁ (256 + j))
  nexts₁ j hj = go (ℕ_discrete j e)
    where
      old : j < e → FirstOf col e (col j) (j + 1) (entry I.links (256 + j))
      old h = G.nexts j h

      at_last : Last col e v p → 256 + j ≡ p → j < e → FirstOf col (e + 1) (col j) (j + 1) (entry links₁ (256 + j))
      at_last (Last.empty q h) r l = absurd (omega arith)
      at_last (Last.after i q b c h) r l =
          let s : j ≡ i = omega arith in
          subst (λ (z : ℕ). FirstOf col (e + 1) (col j) (j + 1) z) (sym (ap (entry links₁) r ∙ at_p))
          (FirstOf.found (omega arith) (omega arith) (ev ∙ sym c ∙ ap col (sym s)) (λ k g f. subst (λ (z : ℕ). col k ≢ z) (sym c ∙ ap col (sym s)) (h k (omega arith) f)))

      before : Last col e v p → 256 + j ≢ p → j < e → col j ≡ v → FirstOf col (e + 1) (col j) (j + 1) (entry links₁ (256 + j))
      before (Last.empty q h) ne l r = absurd (h j l r)
      before (Last.after i q b c h) ne l r = more (dec_lt i j)
        where
          more : Dec (i < j) → FirstOf col (e + 1) (col j) (j + 1) (entry links₁ (256 + j))
          more (yes t) = absurd (h j t l r)
          more (no t) =
              let s : j < i = omega arith in
              subst (λ (z : ℕ). FirstOf col (e + 1) (col j) (j + 1) z) (sym (same (256 + j) ne))
              (first_more low (old l) (inl (first_some (old l) (omega arith) b (c ∙ sym r))))

      go : Dec (j ≡ e) → FirstOf col (e + 1) (col j) (j + 1) (entry links₁ (256 + j))
      go (yes q) = FirstOf.none (same (256 + j) (λ r. absurd (omega (arith, p_ok))) ∙ G.rest j (omega arith) (omega arith)) (λ k g i. absurd (omega arith))
      go (no q) = go₂ (ℕ_discrete (256 + j) p) (ℕ_discrete (col j) v)
        where
          l : j < e
          l = omega arith

          go₂ : Dec (256 + j ≡ p) → Dec (col j ≡ v) → FirstOf col (e + 1) (col j) (j + 1) (entry links₁ (256 + j))
          go₂ (yes r) d = at_last last_p r l
          go₂ (no r) (yes c) = before last_p r l c
          go₂ (no r) (no c) =
              subst (λ (z : ℕ). FirstOf col (e + 1) (col j) (j + 1) z) (sym (same (256 + j) r)) (first_more low (old l) (inr (λ s. c (sym s ∙ ev))))

  lasts₁ : (w : ℕ) → w < 256 → Last col (e + 1) w (entry last₁ w)
  lasts₁ w hw =
      ⊎_elim
      (λ q. subst (λ (z : ℕ). Last col (e + 1) w z) (sym q.1) (Last.after e refl (omega arith) (ev ∙ sym q.0) (λ j g i. absurd (omega arith))))
      (λ q. subst (λ (z : ℕ). Last col (e + 1) w z) (sym q.1) (old q.0 (G.lasts w hw)))
      (set_cases I.last v (256 + e) w (omega (arith, G.places)))
    where
      off : w ≢ v → (j : ℕ) → Dec (j ≡ e) → (j < e → col j ≢ w) → j < e + 1 → col j ≢ w
      off ne j (yes q) h i = λ c. ne (sym c ∙ ap col q ∙ ev)
      off ne j (no q) h i = h (omega arith)

      old : {z : ℕ} → w ≢ v → Last col e w z → Last col (e + 1) w z
      old ne (Last.empty q h) = Last.empty q (λ j i. off ne j (ℕ_discrete j e) (h j) i)
      old ne (Last.after k q b c h) = Last.after k q (omega arith) c (λ j g i. off ne j (ℕ_discrete j e) (h j g) i)

  pub growing_more : Growing col most (e + 1) (added e v I)
  growing_more = record {
    few = G.few;
    room = length-set I.links p e ∙ G.room;
    places = length-set I.last v (256 + e) ∙ G.places;
    heads = heads₁;
    nexts = nexts₁;
    lasts = lasts₁;
    rest = λ j l b. same (256 + j) (λ r. absurd (omega (arith, p_ok))) ∙ G.rest j (omega arith) b;
  }

-- ---- all arcs of a list

pub growing_all : (col : ℕ → ℕ) (most : ℕ) (vs : List ℕ) (e : ℕ) (I : Index) → Every (λ v. v < 256) vs → ((i : ℕ) → i < length vs → col (e + i) ≡ entry vs i) → e + length vs ≤ most
    → Growing col most e I → Growing col most (e + length vs) (index_from e vs I)
unfolding index_from
growing_all col most [] e I b c h G = subst (λ (k : ℕ). Growing col most k I) (omega arith) G
growing_all col most (v ∷ vs) e I b c h G =
    subst (λ (k : ℕ). Growing col most k (index_from (e + 1) vs (added e v I))) (shift e (length vs))
    (growing_all col most vs (e + 1) (added e v I) b.1 rest (omega arith)
    (growing_more col most e v I (omega arith) b.0 (ap col (from e) ∙ c 0 (omega arith)) G))
  where
    shift : (e n : ℕ) → (e + 1) + n ≡ e + suc n
    shift e n = omega arith

    from : (e : ℕ) → e ≡ e + 0
    from e = omega arith

    rest : (i : ℕ) → i < length vs → col ((e + 1) + i) ≡ entry vs i
    rest i l = ap col (shift e i) ∙ c (suc i) (omega arith)

-- the index of a list of ends
pub grown : (most : ℕ) (ends : List ℕ) → most ≤ no_arc → length ends ≤ most → Every (λ v. v < 256) ends → Growing (entry ends) most (length ends) (index_from 0 ends (empty_index most))
grown most ends h l b =
    subst (λ (k : ℕ). Growing (entry ends) most k (index_from 0 ends (empty_index most))) (omega arith)
    (growing_all (entry ends) most ends 0 (empty_index most) b (λ i g. ap (entry ends) (none i)) (omega arith) (growing_none (entry ends) most h))
  where
    none : (i : ℕ) → 0 + i ≡ i
    none i = omega arith
