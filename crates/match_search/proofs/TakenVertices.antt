-- A vertex that the search takes: it is exposed and the search ends, or what it is matched to comes into the tree.
use mathlib.Core.Path.{◌≡◌, refl, sym, ◌∙◌, ap, subst}
use mathlib.Core.List.{List}
use mathlib.Core.Logic.{◌⊎◌, inl, inr, ◌≢◌, ⊎_elim}
use Prim.Native.Nat.{ℕ, ◌+◌, ◌<◌, ◌≤◌, min}
use native.Mathlib.Omega.{arith}
use native.Mathlib.Decide.{dec_lt}
use lib.ListN.{length, set, length-set}
use Rattle.packed_arcs.specs.Entries.{entry}
use Rattle.packed_arcs.proofs.ListLoops.{set_cases}
use Rattle.packed_arcs.proofs.Zeros.{zeros_fewer}
use Rattle.arc_index.specs.ArcIndex.{no_arc}
use Rattle.vertex_queue.specs.VertexQueue.{waits_not}
use Rattle.match_state.specs.Matching.{Noted, State}
use Rattle.match_tree.specs.Tree.{InTree, Parent, TakenLeft, Tree}
use Rattle.match_tree.proofs.TreeLaws.{right_end, left_end, in_tree_near}
use Rattle.match_state.proofs.Pairs.{noted}

module _ {h n : ℕ} {T H W mate pi : List ℕ} (S : State h n T H W mate pi) where
  module _ {t : ℕ} {dist par order keys : List ℕ} {k nd best : ℕ} (R : Tree h n T H W mate pi t dist par order keys k nd n best)
      (a : ℕ) (ha : a < h) (wait : entry keys a < waits_not) (least : (u : ℕ) → u < 256 → entry keys a ≤ entry keys u) where
    -- it was not taken before, and is as far as its key says
    pub untaken : entry order a ≡ 0
    untaken = go (dec_lt 0 (entry order a))
      where
        go : Dec (0 < entry order a) → entry order a ≡ 0
        go (yes o) = absurd (omega (arith, R.gone a ha o))
        go (no o) = omega arith

    pub key_is : entry keys a ≡ entry dist a
    key_is = R.waits a ha untaken

    -- who was not taken is no nearer
    pub none_nearer : (c : ℕ) → c < h → entry order c ≡ 0 → entry dist a ≤ entry dist c
    none_nearer c hc o = omega (arith, key_is, R.waits c hc o, least c (omega (arith, S.graph.within, S.graph.small)))

    key_at : (c : ℕ) → ((c ≡ a) × (entry (set keys a waits_not) c ≡ waits_not)) ⊎ ((c ≢ a) × (entry (set keys a waits_not) c ≡ entry keys c))
    key_at c = set_cases keys a waits_not c (omega (arith, R.keys_len, ha, S.graph.within, S.graph.small))

    -- ---- what it is matched to comes into the tree

    module _ (m : entry mate a < no_arc) where
      abbrev order' : List ℕ
      order' = set order a (nd + 1)

      order_at : (c : ℕ) → ((c ≡ a) × (entry order' c ≡ nd + 1)) ⊎ ((c ≢ a) × (entry order' c ≡ entry order c))
      order_at c = set_cases order a (nd + 1) c (omega (arith, R.order_len, ha))

      N : Noted T H mate a (entry mate a)
      N = noted S.pairs a (omega (arith, ha, S.graph.within)) m

      abbrev b : ℕ
      b = entry H (entry mate a)

      -- the vertex that a is matched to comes into the tree
      pub here : InTree T mate dist order' t b (entry dist a) (nd + 1)
      here = InTree.matched (rw N.at_head m)
          (subst (λ (z : ℕ). 0 < entry order' z) (sym is_a) (omega (arith, at_a)))
          (sym (ap (entry dist) is_a))
          (sym (ap (entry order') is_a ∙ at_a))
        where
          at_a : entry order' a ≡ nd + 1
          at_a = ⊎_elim (λ p. p.1) (λ p. absurd (p.0 refl)) (order_at a)

          is_a : entry T (entry mate b) ≡ a
          is_a = ap (entry T) N.at_head ∙ left_end S a ha m

      in_on : (c D i : ℕ) → InTree T mate dist order t c D i → InTree T mate dist order' t c D i
      in_on c D i (InTree.root x y z) = InTree.root x y z
      in_on c D i (InTree.matched q o x y) = ⊎_elim
          (λ p. absurd (omega (arith, untaken, ap (entry order) p.0)))
          (λ p. InTree.matched q (omega (arith, p.1)) x (y ∙ sym (p.1)))
          (order_at (entry T (entry mate c)))

      -- who is in the tree now was in it, or is matched to a
      in_back : (c D i : ℕ) → InTree T mate dist order' t c D i → InTree T mate dist order t c D i ⊎ ((entry mate c < no_arc) × (entry T (entry mate c) ≡ a))
      in_back c D i (InTree.root x y z) = inl (InTree.root x y z)
      in_back c D i (InTree.matched q o x y) = ⊎_elim
          (λ p. inr (q, p.0))
          (λ p. inl (InTree.matched q (omega (arith, p.1)) x (y ∙ p.1)))
          (order_at (entry T (entry mate c)))

      parent_on : (c i : ℕ) → entry (dist) c < waits_not → c < h → Parent T H W mate pi dist order t c i → Parent T H W mate pi dist order' t c i
      parent_on c i l hc P = record {
        arc = P.arc;
        tail = P.tail;
        D = P.D;
        j = P.j;
        in_tree = in_on (entry H i) P.D P.j P.in_tree;
        earlier = λ o. ⊎_elim
            (λ p. omega (arith, p.1, in_tree_near S R (entry H i) P.D P.j (S.graph.to_right i P.arc) (S.graph.below i P.arc) P.in_tree))
            (λ p. omega (arith, p.1, P.earlier (omega (arith, p.1))))
            (order_at c);
        far = P.far;
      }

      taken' : (c : ℕ) → c < h → 0 < entry order' c → TakenLeft mate pi dist order' t (entry dist a) (nd + 1) c
      taken' c hc o = ⊎_elim
          (λ p. record {
            no_farther = omega (arith, ap (entry dist) p.0);
            mated = subst (λ (z : ℕ). entry mate z < no_arc) (sym (p.0)) m;
            when = omega (arith, p.1);
            near = omega (arith, ap (entry dist) p.0, ap (entry pi) p.0, R.near a ha (omega (arith, key_is)));
            not_below = omega (arith, ap (entry dist) p.0, ap (entry pi) p.0, R.not_below a ha (omega (arith, key_is)));
          })
          (λ p. let A = R.taken c hc (omega (arith, p.1)) in record {
            no_farther = omega (arith, A.no_farther, R.ahead a ha untaken);
            mated = A.mated;
            when = omega (arith, p.1, A.when);
            near = omega (arith, A.near);
            not_below = omega (arith, A.not_below);
          })
          (order_at c)

      looked' : (i D l : ℕ) → i < length T → InTree T mate dist order' t (entry H i) D l → entry H i ≢ b
          → min (entry dist (entry T i)) best + entry pi (entry H i) ≤ D + entry pi (entry T i) + entry W i
      looked' i D l hi I c = ⊎_elim
          (λ J. R.looked i D l hi J (λ z. absurd (omega (arith, S.graph.below i hi))))
          (λ p. absurd (c (sym (right_end S (entry H i) (S.graph.to_right i hi) (S.graph.below i hi) (p.0)) ∙ ap (entry H) (same_arc (entry H i) (S.graph.below i hi) (p.0) (p.1)))))
          (in_back (entry H i) D l I)
        where
          same_arc : (c : ℕ) → c < n → entry mate c < no_arc → entry T (entry mate c) ≡ a → entry mate c ≡ entry mate a
          same_arc c hc q z = sym (noted S.pairs c hc q).at_tail ∙ ap (entry mate) z

      pub goes_on : Tree h n T H W mate pi t dist par order' (set keys a waits_not) (entry dist a) (nd + 1) b best
      goes_on = record {
        dist_len = R.dist_len;
        par_len = R.par_len;
        order_len = length-set order a (nd + 1) ∙ R.order_len;
        keys_len = length-set keys a waits_not ∙ R.keys_len;
        target = R.target;
        right = R.right;
        bare = R.bare;
        parents = λ c hc l. parent_on c (entry par c) l hc (R.parents c hc l);
        waits = λ c hc o. ⊎_elim
            (λ p. absurd (omega (arith, p.1)))
            (λ p. ⊎_elim (λ q. absurd (p.0 (q.0))) (λ q. q.1) (key_at c) ∙ R.waits c hc (omega (arith, p.1)))
            (order_at c);
        gone = λ c hc o. ⊎_elim
            (λ p. omega (arith, p.1))
            (λ p. omega (arith, p.1, R.gone c hc (⊎_elim (λ q. absurd (p.0 (q.0))) (λ q. omega (arith, q.1)) (order_at c))))
            (key_at c);
        nobody = λ c g l. ⊎_elim (λ p. omega (arith, p.1)) (λ p. omega (arith, p.1, R.nobody c g l)) (key_at c);
        most = R.most;
        taken = taken';
        ahead = λ c hc o. ⊎_elim (λ p. absurd (omega (arith, p.1))) (λ p. none_nearer c hc (omega (arith, p.1))) (order_at c);
        looked = looked';
        least = R.least;
        near = λ c hc l. omega (arith, R.near c hc l);
        not_below = λ c hc l. omega (arith, R.not_below c hc l);
        count = omega (arith, R.count, zeros_fewer order a (nd + 1) (omega (arith, R.order_len, ha)) untaken (omega arith));
      }
