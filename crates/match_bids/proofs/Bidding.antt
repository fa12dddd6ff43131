-- Laws of bids: an offer from the two cheapest arcs, and the state after one is taken.
use mathlib.Core.Path.{◌≡◌, refl, sym, ap, subst, ◌∙◌}
use mathlib.Core.List.{List}
use mathlib.Core.Logic.{◌⊎◌, inl, inr, ◌≢◌}
use Prim.Native.Nat.{ℕ, ◌+◌, ◌-◌, ◌<◌, ◌≤◌}
use native.Mathlib.Decide.{ℕ_discrete, dec_lt}
use native.Mathlib.Omega.{arith}
use lib.ListN.{length, set, length-set}
use lib.Seq.{get_or-set_same, get_or-set_other}
use Rattle.prelude.proofs.Choice.{leb_on, leb_off}
use Rattle.packed_arcs.specs.Entries.{entry}
use Rattle.arc_index.specs.ArcIndex.{no_arc}
use Rattle.match_offers.specs.Offers.{bid_cost, Affordable, Cheapest, TwoCheapest, Offer, Room, freed, assigned_mates, assigned_potentials}
use Rattle.match_state.specs.Matching.{Bipartite, Noted, State}
use Rattle.match_state.proofs.Pairs.{noted, left_end}

-- ---- an offer

pub affordable : {h n : ℕ} {T H W mate pi : List ℕ} → State h n T H W mate pi → Affordable T W pi
affordable {h} {n} {T} S e l =
    let a = S.graph.from_left e l in
    (omega (arith, a, S.graph.within, S.priced.len), omega (arith, S.graph.weights e l, S.range (entry T e) (omega (arith, a, S.graph.within))))

-- the cheapest arc, or the second, where they cost the same, for what the second costs
pub offer : {h n : ℕ} {T H W mate pi : List ℕ} (t e1 e2 e u : ℕ) → State h n T H W mate pi → e1 < no_arc → e2 < no_arc → TwoCheapest T H W pi t e1 e2
    → u ≡ bid_cost T W pi e2 → u ≤ 8322818 → (e ≡ e1) ⊎ ((e ≡ e2) × (u ≤ bid_cost T W pi e1)) → Offer T H W pi t e u
offer {h} {n} {T} {H} {W} {mate} {pi} t e1 e2 e u S i j two q m c = go c
  where
    A : Cheapest T H W pi t 256 e1
    A = two.first

    B : Cheapest T H W pi t (entry T e1) e2
    B = two.second i

    -- nobody is excepted in the first place
    first : (k : ℕ) → k < length T → entry H k ≡ t → bid_cost T W pi e1 ≤ bid_cost T W pi k
    first k l r = A.least i k l r (λ z. absurd (omega (arith, S.graph.from_left k l, S.graph.within, S.graph.small)))

    go : (e ≡ e1) ⊎ ((e ≡ e2) × (u ≤ bid_cost T W pi e1)) → Offer T H W pi t e u
    go (inl z) =
        subst (λ (k : ℕ). Offer T H W pi t k u) (sym z)
        (record {
          arc = A.arc i;
          head = A.head i;
          covers = omega (arith, first e2 (B.arc j) (B.head j));
          most = m;
          others = λ k l r p. omega (arith, B.least j k l r p);
          same = λ k l r p. omega (arith, first k l r, ap (entry pi) p);
        })
    go (inr z) =
        subst (λ (k : ℕ). Offer T H W pi t k u) (sym z.0)
        (record {
          arc = B.arc j;
          head = B.head j;
          covers = omega arith;
          most = m;
          others = λ k l r p. omega (arith, first k l r, z.1);
          same = λ k l r p. omega (arith, B.least j k l r (λ y. B.tail j (sym p ∙ y)), ap (entry pi) p);
        })

-- ---- the state after an offer is taken

module _ {h n : ℕ} {T H W mate pi : List ℕ} {t e u : ℕ} (S : State h n T H W mate pi) (right : h ≤ t) (target : t < n) (bare : entry mate t ≡ no_arc) (O : Offer T H W pi t e u) where
  abbrev G : Bipartite h n T H W
  G = S.graph

  abbrev a : ℕ
  a = entry T e

  left : a < h
  left = G.from_left e O.arc

  small : a < n
  small = omega (arith, left, G.within)

  apart : a ≢ t
  apart q = omega (arith, left)

  few : (k : ℕ) → k < length T → k < no_arc
  few k l = omega (arith, G.few)

  -- what is noted at a left vertex that is matched
  at_left : (v : ℕ) → v < h → entry mate v < no_arc → Noted T H mate v (entry mate v)
  at_left v l k = noted S.pairs v (omega (arith, G.within)) k

  pub room : Room T H W mate pi t e u
  room = record {
    few = G.few;
    arc = O.arc;
    tail = omega (arith, small, S.pairs.len);
    right = omega (arith, S.pairs.len);
    same_len = S.priced.len ∙ sym S.pairs.len;
    covers = omega (arith, O.covers);
    matched = λ k. let N = at_left a left k in (N.arc, omega (arith, G.below (entry mate a) N.arc, S.pairs.len));
  }

  -- ---- potentials

  abbrev pi' : List ℕ
  pi' = assigned_potentials pi a t u (entry W e)

  pi_a : entry pi' a ≡ u - entry W e
  pi_a = get_or-set_same (set pi t u) a (u - entry W e) 0 (simp length-set (omega (arith, small, S.priced.len)))

  pi_t : entry pi' t ≡ u
  pi_t = get_or-set_other (set pi t u) a t (u - entry W e) 0 (λ q. apart (sym q)) ∙ get_or-set_same pi t u 0 (omega (arith, S.priced.len))

  pi_other : (v : ℕ) → v ≢ a → v ≢ t → entry pi' v ≡ entry pi v
  pi_other v p q = get_or-set_other (set pi t u) a v (u - entry W e) 0 p ∙ get_or-set_other pi t v u 0 q

  -- no left vertex falls
  raised : (v : ℕ) → v < h → entry pi v ≤ entry pi' v
  raised v l = go (ℕ_discrete v a)
    where
      go : Dec (v ≡ a) → entry pi v ≤ entry pi' v
      go (yes q) = subst (λ (k : ℕ). entry pi k ≤ entry pi' k) (sym q) (omega (arith, pi_a, O.covers))
      go (no q) = omega (arith, pi_other v q (λ z. absurd (omega arith)))

  feasible : (j : ℕ) → j < length T → entry pi' (entry H j) ≤ entry pi' (entry T j) + entry W j
  feasible j l = go (ℕ_discrete (entry H j) t) (ℕ_discrete (entry T j) a)
    where
      go : Dec (entry H j ≡ t) → Dec (entry T j ≡ a) → entry pi' (entry H j) ≤ entry pi' (entry T j) + entry W j
      go (no q) p = omega (arith, pi_other (entry H j) (λ z. absurd (omega (arith, G.to_right j l, left))) q, S.priced.feasible j l, raised (entry T j) (G.from_left j l))
      go (yes q) (yes p) = omega (arith, ap (entry pi') q, ap (entry pi') p, pi_t, pi_a, O.same j l q p, O.covers)
      go (yes q) (no p) = omega (arith, ap (entry pi') q, pi_t, O.others j l q p, raised (entry T j) (G.from_left j l))

  -- ---- the matching

  abbrev mate' : List ℕ
  mate' = assigned_mates H mate a t e

  freed_len : length (freed H mate a) ≡ n
  freed_len = go (dec_lt (entry mate a) no_arc)
    where
      go : Dec (entry mate a < no_arc) → length (freed H mate a) ≡ n
      go (yes k) = ap length (sym (leb_off (List ℕ) _ _ _ _ _ k refl)) ∙ simp length-set S.pairs.len
      go (no k) = let z : no_arc ≤ entry mate a = omega arith in ap length (sym (leb_on (List ℕ) _ _ _ _ _ z refl)) ∙ S.pairs.len

  mate_len : length mate' ≡ n
  mate_len = simp length-set freed_len

  mate_t : entry mate' t ≡ e
  mate_t = get_or-set_same (set (freed H mate a) a e) t e 0 (simp length-set (omega (arith, freed_len)))

  mate_a : entry mate' a ≡ e
  mate_a = get_or-set_other (set (freed H mate a) a e) t a e 0 apart ∙ get_or-set_same (freed H mate a) a e 0 (omega (arith, freed_len, small))

  mate_rest : (v : ℕ) → v ≢ a → v ≢ t → entry mate' v ≡ entry (freed H mate a) v
  mate_rest v p q = get_or-set_other (set (freed H mate a) a e) t v e 0 q ∙ get_or-set_other (freed H mate a) a v e 0 p

  -- neither an end of e nor freed
  mate_kept : (v : ℕ) → v ≢ a → v ≢ t → (entry mate a < no_arc → v ≢ entry H (entry mate a)) → entry mate' v ≡ entry mate v
  mate_kept v p q r = mate_rest v p q ∙ go (dec_lt (entry mate a) no_arc)
    where
      go : Dec (entry mate a < no_arc) → entry (freed H mate a) v ≡ entry mate v
      go (yes k) = ap (λ (l : List ℕ). entry l v) (sym (leb_off (List ℕ) _ _ _ _ _ k refl)) ∙ get_or-set_other mate (entry H (entry mate a)) v no_arc 0 (r k)
      go (no k) = let z : no_arc ≤ entry mate a = omega arith in ap (λ (l : List ℕ). entry l v) (sym (leb_on (List ℕ) _ _ _ _ _ z refl))

  mate_freed : (v : ℕ) → v < n → v ≢ a → v ≢ t → entry mate a < no_arc → v ≡ entry H (entry mate a) → entry mate' v ≡ no_arc
  mate_freed v l p q k r =
      mate_rest v p q ∙ ap (λ (m : List ℕ). entry m v) (sym (leb_off (List ℕ) _ _ _ _ _ k refl))
      ∙ subst (λ (b : ℕ). entry (set mate b no_arc) v ≡ no_arc) r (get_or-set_same mate v no_arc 0 (omega (arith, S.pairs.len)))

  -- What became of the vertex v.
  data After (v : ℕ) : Type 0 where
    taken : (v ≡ a) ⊎ (v ≡ t) → entry mate' v ≡ e → After v
    bared : v ≢ a → v ≢ t → entry mate a < no_arc → v ≡ entry H (entry mate a) → entry mate' v ≡ no_arc → After v
    kept : v ≢ a → v ≢ t → (entry mate a < no_arc → v ≢ entry H (entry mate a)) → entry mate' v ≡ entry mate v → After v

  after : (v : ℕ) → v < n → After v
  after v l = go (ℕ_discrete v a) (ℕ_discrete v t) (dec_lt (entry mate a) no_arc) (ℕ_discrete v (entry H (entry mate a)))
    where
      go : Dec (v ≡ a) → Dec (v ≡ t) → Dec (entry mate a < no_arc) → Dec (v ≡ entry H (entry mate a)) → After v
      go (yes p) q k r = taken (inl p) (ap (entry mate') p ∙ mate_a)
      go (no p) (yes q) k r = taken (inr q) (ap (entry mate') q ∙ mate_t)
      go (no p) (no q) (yes k) (yes r) = bared p q k r (mate_freed v l p q k r)
      go (no p) (no q) (yes k) (no r) = kept p q (λ i. r) (mate_kept v p q (λ i. r))
      go (no p) (no q) (no k) r = kept p q (λ i. absurd (k i)) (mate_kept v p q (λ i. absurd (k i)))

  -- a matched arc k of a vertex that was kept: it does not come from a, nor lead to t
  not_from : (v : ℕ) → v ≢ a → (entry mate a < no_arc → v ≢ entry H (entry mate a)) → Noted T H mate v (entry mate v) → entry T (entry mate v) ≢ a
  not_from v p r N q = go N.end
    where
      same : entry mate a ≡ entry mate v
      same = sym (ap (entry mate) q) ∙ N.at_tail

      go : (entry T (entry mate v) ≡ v) ⊎ (entry H (entry mate v) ≡ v) → ⊥
      go (inl z) = p (sym z ∙ q)
      go (inr z) = r (omega (arith, same, few (entry mate v) N.arc)) (sym z ∙ ap (entry H) (sym same))

  not_to : (v : ℕ) → Noted T H mate v (entry mate v) → entry H (entry mate v) ≢ t
  not_to v N q = omega (arith, ap (entry mate) q, N.at_head, bare, few (entry mate v) N.arc)

  still : (v : ℕ) → v ≢ a → (entry mate a < no_arc → v ≢ entry H (entry mate a)) → entry mate' v ≡ entry mate v → Noted T H mate v (entry mate v) → Noted T H mate' v (entry mate' v)
  still v p r m N =
      let k = entry mate v in
      let l = G.from_left k N.arc in
      subst (λ (i : ℕ). Noted T H mate' v i) (sym m)
      (record {
        arc = N.arc;
        end = N.end;
        at_tail = mate_kept (entry T k) (not_from v p r N) (λ z. absurd (omega (arith, l))) (λ i z. absurd (omega (arith, l, G.to_right (entry mate a) (at_left a left i).arc))) ∙ N.at_tail;
        at_head = mate_kept (entry H k) (λ z. absurd (omega (arith, left, G.to_right k N.arc))) (not_to v N) (λ i z. not_from v p r N (one i z)) ∙ N.at_head;
      })
    where
      one : entry mate a < no_arc → entry H (entry mate v) ≡ entry H (entry mate a) → entry T (entry mate v) ≡ a
      one i z =
          let A = at_left a left i in
          let q : entry mate v ≡ entry mate a = sym N.at_head ∙ ap (entry mate) z ∙ A.at_head in
          ap (entry T) q ∙ left_end G a left A

  each : (v : ℕ) → v < n → (entry mate' v ≡ no_arc) ⊎ Noted T H mate' v (entry mate' v)
  each v l = go (after v l)
    where
      ends : (v ≡ a) ⊎ (v ≡ t) → (entry T e ≡ v) ⊎ (entry H e ≡ v)
      ends (inl q) = inl (sym q)
      ends (inr q) = inr (O.head ∙ sym q)

      old : v ≢ a → (entry mate a < no_arc → v ≢ entry H (entry mate a)) → entry mate' v ≡ entry mate v → (entry mate v ≡ no_arc) ⊎ Noted T H mate v (entry mate v)
          → (entry mate' v ≡ no_arc) ⊎ Noted T H mate' v (entry mate' v)
      old p r m (inl z) = inl (m ∙ z)
      old p r m (inr N) = inr (still v p r m N)

      go : After v → (entry mate' v ≡ no_arc) ⊎ Noted T H mate' v (entry mate' v)
      go (taken q m) = inr (subst (λ (i : ℕ). Noted T H mate' v i) (sym m) (record { arc = O.arc; end = ends q; at_tail = mate_a; at_head = ap (entry mate') O.head ∙ mate_t }))
      go (bared p q k r m) = inl m
      go (kept p q r m) = old p r m (S.pairs.each v l)

  -- ---- both together

  tight : (v : ℕ) → v < n → entry mate' v < no_arc → entry pi' (entry H (entry mate' v)) ≡ entry pi' (entry T (entry mate' v)) + entry W (entry mate' v)
  tight v l k = go (after v l)
    where
      new : entry pi' (entry H e) ≡ entry pi' (entry T e) + entry W e
      new = omega (arith, ap (entry pi') O.head, pi_t, pi_a, O.covers)

      old : v ≢ a → (entry mate a < no_arc → v ≢ entry H (entry mate a)) → entry mate v < no_arc → entry pi' (entry H (entry mate v)) ≡ entry pi' (entry T (entry mate v)) + entry W (entry mate v)
      old p r i =
          let N = noted S.pairs v l i in
          let k = entry mate v in
          omega (arith, S.priced.tight v l i, pi_other (entry H k) (λ z. absurd (omega (arith, left, G.to_right k N.arc))) (not_to v N), pi_other (entry T k) (not_from v p r N) (λ z. absurd (omega (arith, G.from_left k N.arc))))

      go : After v → entry pi' (entry H (entry mate' v)) ≡ entry pi' (entry T (entry mate' v)) + entry W (entry mate' v)
      go (taken q m) = subst (λ (i : ℕ). entry pi' (entry H i) ≡ entry pi' (entry T i) + entry W i) (sym m) new
      go (bared p q i r m) = absurd (omega arith)
      go (kept p q r m) = subst (λ (i : ℕ). entry pi' (entry H i) ≡ entry pi' (entry T i) + entry W i) (sym m) (old p r (omega arith))

  bare_left : (v : ℕ) → v < h → entry mate' v ≡ no_arc → entry pi' v ≡ 0
  bare_left v l z = go (after v (omega (arith, G.within)))
    where
      go : After v → entry pi' v ≡ 0
      go (taken q m) = absurd (omega (arith, few e O.arc))
      go (bared p q i r m) = absurd (omega (arith, G.to_right (entry mate a) (at_left a left i).arc))
      go (kept p q r m) = pi_other v p q ∙ S.exposed v l (sym m ∙ z)

  within : (v : ℕ) → v < n → entry pi' v ≤ 8322818
  within v l = go (ℕ_discrete v a) (ℕ_discrete v t)
    where
      go : Dec (v ≡ a) → Dec (v ≡ t) → entry pi' v ≤ 8322818
      go (yes p) q = omega (arith, ap (entry pi') p, pi_a, O.most)
      go (no p) (yes q) = omega (arith, ap (entry pi') q, pi_t, O.most)
      go (no p) (no q) = omega (arith, pi_other v p q, S.range v l)

  pub assigned : State h n T H W (assigned_mates H mate (entry T e) t e) (assigned_potentials pi (entry T e) t u (entry W e))
  assigned = record {
    graph = G;
    pairs = record { len = mate_len; each = each };
    priced = record { len = simp length-set S.priced.len; feasible = feasible; tight = tight };
    exposed = bare_left;
    range = within;
  }

  -- with the lists that this gives
  pub taken_offer : (mate₁ pi₁ : List ℕ) → mate₁ ≡ assigned_mates H mate (entry T e) t e → pi₁ ≡ assigned_potentials pi (entry T e) t u (entry W e) → State h n T H W mate₁ pi₁
  taken_offer mate₁ pi₁ q p = subst (λ (m : List ℕ). State h n T H W m pi₁) (sym q) (subst (λ (l : List ℕ). State h n T H W (assigned_mates H mate (entry T e) t e) l) (sym p) assigned)

-- the number of vertices is how many potentials there are
pub sized : {h n : ℕ} {T H W mate pi : List ℕ} → State h n T H W mate pi → State h (length pi) T H W mate pi
sized {h} {n} {T} {H} {W} {mate} {pi} S = subst (λ (k : ℕ). State h k T H W mate pi) (sym S.priced.len) S

-- and stays so
pub resized : {h m n : ℕ} {T H W mate pi : List ℕ} → m ≡ n → State h m T H W mate pi → State h n T H W mate pi
resized {h} {m} {n} {T} {H} {W} {mate} {pi} q S = subst (λ (k : ℕ). State h k T H W mate pi) q S
