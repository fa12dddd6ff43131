-- What the matching and a search that found nothing say: a matching of least cost that saturates the right vertices, or none.
use mathlib.Core.Path.{◌≡◌, refl, sym, ap, subst, ◌∙◌}
use mathlib.Core.List.{List}
use mathlib.Core.Logic.{◌⊎◌, inl, inr, ◌≢◌}
use Prim.Native.Nat.{ℕ, zero, suc, ◌+◌, ◌*◌, ◌-◌, ◌<◌, ◌≤◌}
use native.Mathlib.Decide.{ℕ_discrete, dec_lt}
use native.Mathlib.Omega.{arith}
use lib.ListN.{length}
use borrow.Author.Tests.{le-leb, lt-leb}
use Rattle.prelude.specs.Choice.{indicator}
use Rattle.prelude.specs.Lists.{list_to}
use Rattle.prelude.specs.Sums.{sum_to}
use Rattle.prelude.proofs.Choice.{ltb_on, ltb_off, eqb_on, eqb_off, leb_on, leb_off}
use Rattle.prelude.proofs.Lists.{list_to_length}
use Rattle.prelude.proofs.Sums.{sum_to_le, sum_to_less}
use Rattle.packed_arcs.specs.Entries.{entry, flow_at}
use Rattle.arc_index.specs.ArcIndex.{no_arc}
use Rattle.vertex_queue.specs.VertexQueue.{waits_not}
use Rattle.match_state.specs.Matching.{Noted, State}
use Rattle.match_state.specs.Amounts.{matched_amount, Amounts}
use Rattle.match_tree.specs.Tree.{InTree, root, matched, Tree}
use Rattle.match_results.specs.Results.{Saturating, far_mark, Marks, Deficient}
use Rattle.match_state.proofs.MatchedAmounts.{entry_past, carried, zero_or_one, left_matched, right_matched, right_exposed, left_most, right_most, both_sides}
use Rattle.match_state.proofs.Flows.{listed_at}

-- ---- every right vertex is matched

pub saturating : {h n : ℕ} {T H W mate pi x : List ℕ} → State h n T H W mate pi → ((b : ℕ) → h ≤ b → b < n → entry mate b < no_arc) → Amounts H mate x
    → Saturating h n T H W x pi
saturating {h} {n} {T} {H} {W} {mate} {pi} {x} S all A =
    let G = S.graph in
    let M = S.pairs in
    record {
      x_len = A.len ∙ G.heads_len;
      zero_or_one = zero_or_one G M A;
      left_most = left_most G M A;
      left_spare = λ a l q. spare a l q (M.each a (omega (arith, G.within)));
      right_one = λ b l i. right_matched G M A b l i (all b l i);
      pi_len = S.priced.len;
      feasible = S.priced.feasible;
      tight = λ e l p. go e l p (carried G M A e l);
      range = S.range;
    }
  where
    spare : (a : ℕ) → a < h → flow_at T x a ≡ 0 → (entry mate a ≡ no_arc) ⊎ Noted T H mate a (entry mate a) → entry pi a ≡ 0
    spare a l q (inl z) = S.exposed a l z
    spare a l q (inr N) = absurd (omega (arith, left_matched S.graph S.pairs A a l (omega (arith, N.arc, S.graph.few))))

    go : (e : ℕ) → e < length T → 0 < entry x e → (entry x e ≡ 0) ⊎ ((entry x e ≡ 1) × Noted T H mate (entry H e) e) → entry pi (entry H e) ≡ entry pi (entry T e) + entry W e
    go e l p (inl z) = absurd (omega arith)
    go e l p (inr N) =
        let k = N.1.at_head in
        subst (λ (i : ℕ). entry pi (entry H i) ≡ entry pi (entry T i) + entry W i) k (S.priced.tight (entry H e) (S.graph.below e l) (omega (arith, k, S.graph.few)))

-- ---- a search from t that found nothing

far_on : (d : ℕ) → waits_not ≤ d → far_mark d ≡ 1
far_on d h = ap indicator (le-leb waits_not d h)

far_off : (d : ℕ) → d < waits_not → far_mark d ≡ 0
far_off d h = ap indicator (lt-leb waits_not d h)

-- the right vertex b is in the tree, at a distance that leaves room for one more arc
record Near (T mate dist order : List ℕ) (t b : ℕ) : Type 0 where
  D : ℕ
  j : ℕ
  in_tree : InTree T mate dist order t b D j
  few : D ≤ 20000000

module _ {h n : ℕ} {T H W mate pi : List ℕ} {t : ℕ} {dist par order keys : List ℕ} {k nd : ℕ} {marks : List ℕ} (S : State h n T H W mate pi)
    (F : Tree h n T H W mate pi t dist par order keys k nd n waits_not) (end : (a : ℕ) → a < h → entry order a ≡ 0 → waits_not ≤ entry dist a) (K : Marks n T mate dist t marks) where
  -- a vertex that was taken is near
  near : (a : ℕ) → a < h → 0 < entry order a → entry dist a ≤ 20000000
  near a l o = omega (arith, (F.taken a l o).near, F.count, S.graph.within, S.graph.small, S.range a (omega (arith, S.graph.within)))

  far_left : (a : ℕ) → a < h → entry order a ≡ 0 → far_mark (entry dist a) ≡ 1
  far_left a l o = far_on (entry dist a) (end a l o)

  near_left : (a : ℕ) → a < h → 0 < entry order a → far_mark (entry dist a) ≡ 0
  near_left a l o = far_off (entry dist a) (omega (arith, near a l o))

  left_mark : (a : ℕ) → a < h → entry marks a ≡ far_mark (entry dist a)
  left_mark a l = let p : a < length dist = omega (arith, F.dist_len) in K.by a (omega (arith, S.graph.within)) ∙ sym (ltb_on ℕ _ _ _ _ _ p refl)

  -- a right vertex is the root, or exposed, or as far as what it is matched to
  root_mark : entry marks t ≡ 0
  root_mark = let p : length dist ≤ t = omega (arith, F.dist_len, F.right) in K.by t F.target ∙ sym (ltb_off ℕ _ _ _ _ _ p (eqb_on ℕ _ _ _ t t refl refl))

  exposed_mark : (b : ℕ) → h ≤ b → b < n → b ≢ t → entry mate b ≡ no_arc → entry marks b ≡ 1
  exposed_mark b l i z q =
      let p : length dist ≤ b = omega (arith, F.dist_len) in
      let none : no_arc ≤ entry mate b = omega arith in
      K.by b i ∙ sym (ltb_off ℕ _ _ _ _ _ p (eqb_off ℕ _ _ _ _ _ z (leb_on ℕ _ _ _ _ _ none refl)))

  matched_mark : (b : ℕ) → h ≤ b → b < n → entry mate b < no_arc → entry marks b ≡ far_mark (entry dist (entry T (entry mate b)))
  matched_mark b l i q =
      let p : length dist ≤ b = omega (arith, F.dist_len) in
      let other : b ≢ t = λ z. absurd (omega (arith, ap (entry mate) z, F.bare)) in
      K.by b i ∙ sym (ltb_off ℕ _ _ _ _ _ p (eqb_off ℕ _ _ _ _ _ other (leb_off ℕ _ _ _ _ _ q refl)))

  -- without a mark a left vertex was taken, and a right one is in the tree, near the root
  left_cases : (a : ℕ) → a < h → ((entry marks a ≡ 1) × (entry order a ≡ 0)) ⊎ ((entry marks a ≡ 0) × (0 < entry order a))
  left_cases a l = go (ℕ_discrete (entry order a) 0)
    where
      go : Dec (entry order a ≡ 0) → ((entry marks a ≡ 1) × (entry order a ≡ 0)) ⊎ ((entry marks a ≡ 0) × (0 < entry order a))
      go (yes q) = inl (left_mark a l ∙ far_left a l q, q)
      go (no q) = inr (left_mark a l ∙ near_left a l (omega arith), omega arith)

  right_cases : (b : ℕ) → h ≤ b → b < n → (entry marks b ≡ 1) ⊎ ((entry marks b ≡ 0) × Near T mate dist order t b)
  right_cases b l i = go (ℕ_discrete b t) (S.pairs.each b i)
    where
      after : (N : Noted T H mate b (entry mate b)) → Dec (entry order (entry T (entry mate b)) ≡ 0)
          → (entry marks b ≡ 1) ⊎ ((entry marks b ≡ 0) × Near T mate dist order t b)
      after N (yes q) = let e = entry mate b in inl (matched_mark b l i (omega (arith, N.arc, S.graph.few)) ∙ far_left (entry T e) (S.graph.from_left e N.arc) q)
      after N (no q) =
          let e = entry mate b in
          let m : e < no_arc = omega (arith, N.arc, S.graph.few) in
          let a = S.graph.from_left e N.arc in
          let o : 0 < entry order (entry T e) = omega arith in
          inr (matched_mark b l i m ∙ near_left (entry T e) a o, record { D = entry dist (entry T e); j = entry order (entry T e); in_tree = matched m o refl refl; few = near (entry T e) a o })

      go : Dec (b ≡ t) → (entry mate b ≡ no_arc) ⊎ Noted T H mate b (entry mate b)
          → (entry marks b ≡ 1) ⊎ ((entry marks b ≡ 0) × Near T mate dist order t b)
      go (yes q) N = inr (ap (entry marks) q ∙ root_mark, record { D = 0; j = 0; in_tree = root q refl refl; few = omega arith })
      go (no q) (inl z) = inl (exposed_mark b l i q z)
      go (no q) (inr N) = after N (ℕ_discrete (entry order (entry T (entry mate b))) 0)

  -- an arc to a vertex in the tree comes from a vertex that was taken
  closed : (e : ℕ) → e < length T → entry marks (entry T e) ≡ 1 → entry marks (entry H e) ≡ 1
  closed e l m = go (left_cases (entry T e) (S.graph.from_left e l)) (right_cases (entry H e) (S.graph.to_right e l) (S.graph.below e l))
    where
      go : ((entry marks (entry T e) ≡ 1) × (entry order (entry T e) ≡ 0)) ⊎ ((entry marks (entry T e) ≡ 0) × (0 < entry order (entry T e)))
          → (entry marks (entry H e) ≡ 1) ⊎ ((entry marks (entry H e) ≡ 0) × Near T mate dist order t (entry H e))
          → entry marks (entry H e) ≡ 1
      go A (inl r) = r
      go (inr A) (inr B) = absurd (omega (arith, A.0))
      go (inl A) (inr B) =
          let a = S.graph.from_left e l in
          absurd (omega (arith, F.looked e B.1.D B.1.j l B.1.in_tree (λ q. absurd (omega (arith, S.graph.below e l))), B.1.few, end (entry T e) a A.1, S.range (entry T e) (omega (arith, a, S.graph.within)), S.graph.weights e l))

  marks_most : (v : ℕ) → entry marks v ≤ 1
  marks_most v = go (dec_lt v n) (dec_lt v h)
    where
      right : (entry marks v ≡ 1) ⊎ ((entry marks v ≡ 0) × Near T mate dist order t v) → entry marks v ≤ 1
      right (inl r) = omega arith
      right (inr r) = omega (arith, r.0)

      left : ((entry marks v ≡ 1) × (entry order v ≡ 0)) ⊎ ((entry marks v ≡ 0) × (0 < entry order v)) → entry marks v ≤ 1
      left (inl r) = omega (arith, r.0)
      left (inr r) = omega (arith, r.0)

      go : Dec (v < n) → Dec (v < h) → entry marks v ≤ 1
      go (no i) l = omega (arith, entry_past marks v (omega (arith, K.len)))
      go (yes i) (yes l) = left (left_cases v l)
      go (yes i) (no l) = right (right_cases v (omega arith) i)

  -- the left vertices without a mark are matched, to right ones without a mark, and the root is one more of these
  fewer : sum_to h (λ a. 1 - entry marks a) < sum_to (n - h) (λ i. 1 - entry marks (h + i))
  fewer =
      let G = S.graph in
      let M = S.pairs in
      let x = list_to (length H) (matched_amount H mate) in
      let A : Amounts H mate x = record { len = list_to_length (length H) (matched_amount H mate); by = listed_at (length H) (matched_amount H mate) } in
      let g : ℕ → ℕ = λ v. 1 - entry marks v in
      let back : h + (t - h) ≡ t = omega (arith, F.right) in
      omega (
        arith,
        both_sides G M A g same_ends,
        sum_to_le h g (λ a. g a * flow_at T x a) (λ a l. taken_once x A a l (left_cases a l)),
        sum_to_less (n - h) (λ i. g (h + i) * flow_at H x (h + i)) (λ i. g (h + i)) (t - h)
            (λ i l. at_most (1 - entry marks (h + i)) (flow_at H x (h + i)) (right_most G M A (h + i) (omega arith) (omega arith))) (omega (arith, F.target, F.right))
            (subst (λ (v : ℕ). g v * flow_at H x v < g v) (sym back) (none_at (entry marks t) (flow_at H x t) root_mark (right_exposed G M A t F.bare))),
      )
    where
      same_ends : (e : ℕ) → e < length T → Noted T H mate (entry H e) e → 1 - entry marks (entry T e) ≡ 1 - entry marks (entry H e)
      same_ends e l N =
          let q = matched_mark (entry H e) (S.graph.to_right e l) (S.graph.below e l) (omega (arith, N.at_head, S.graph.few)) in
          ap (λ (m : ℕ). 1 - m) (left_mark (entry T e) (S.graph.from_left e l) ∙ sym (q ∙ ap (λ (k : ℕ). far_mark (entry dist (entry T k))) N.at_head))

      at_most : (g f : ℕ) → f ≤ 1 → g * f ≤ g
      at_most g zero p = omega arith
      at_most g (suc zero) p = omega arith
      at_most g (suc (suc f)) p = absurd (omega arith)

      none_at : (m f : ℕ) → m ≡ 0 → f ≡ 0 → (1 - m) * f < 1 - m
      none_at m f p q = rw (p, q) (omega arith)

      taken_once : (x : List ℕ) → Amounts H mate x → (a : ℕ) → a < h → ((entry marks a ≡ 1) × (entry order a ≡ 0)) ⊎ ((entry marks a ≡ 0) × (0 < entry order a))
          → 1 - entry marks a ≤ (1 - entry marks a) * flow_at T x a
      taken_once x A a l (inl r) = rw r.0 (omega arith)
      taken_once x A a l (inr r) = rw (r.0, left_matched S.graph S.pairs A a l (F.taken a l r.1).mated) (omega arith)

  pub deficient : Deficient h n T H marks
  deficient = record { len = K.len; zero_or_one = marks_most; closed = closed; fewer = fewer }
