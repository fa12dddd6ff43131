-- The tree of the search: vertices in it, and what an arc that is looked at keeps of it.
use mathlib.Core.Path.{◌≡◌, refl, sym, ◌∙◌, ap, subst}
use mathlib.Core.List.{List}
use mathlib.Core.Logic.{◌⊎◌, ◌≢◌, ⊎_elim}
use Prim.Native.Nat.{ℕ, ◌+◌, ◌*◌, ◌-◌, ◌<◌, ◌≤◌, min}
use native.Mathlib.Omega.{arith}
use native.Mathlib.Decide.{dec_lt}
use lib.ListN.{length, set, length-set}
use Rattle.packed_arcs.specs.Entries.{entry}
use Rattle.packed_arcs.proofs.ListLoops.{set_cases}
use Rattle.arc_index.specs.ArcIndex.{no_arc}
use Rattle.match_state.specs.Matching.{State}
use Rattle.match_tree.specs.Tree.{InTree, Parent, Tree}
use Rattle.match_state.proofs.Pairs as pairs
use Rattle.match_state.proofs.Pairs.{noted}

-- the same search at a later distance, where those not taken are no nearer, and with other arcs looked at
pub retold : {h n : ℕ} {T H W mate pi : List ℕ} {t : ℕ} {dist par order keys : List ℕ} {k k' nd cur cur' best : ℕ} → Tree h n T H W mate pi t dist par order keys k nd cur best → k ≤ k'
    → ((a : ℕ) → a < h → entry order a ≡ 0 → k' ≤ entry dist a)
    → ((e D j : ℕ) → e < length T → InTree T mate dist order t (entry H e) D j → entry H e ≢ cur' → min (entry dist (entry T e)) best + entry pi (entry H e) ≤ D + entry pi (entry T e) + entry W e)
    → Tree h n T H W mate pi t dist par order keys k' nd cur' best
retold R later ahead looked = record {
  dist_len = R.dist_len;
  par_len = R.par_len;
  order_len = R.order_len;
  keys_len = R.keys_len;
  target = R.target;
  right = R.right;
  bare = R.bare;
  parents = R.parents;
  waits = R.waits;
  gone = R.gone;
  nobody = R.nobody;
  most = R.most;
  taken = λ a l o. let A = R.taken a l o in record { no_farther = omega (arith, A.no_farther); mated = A.mated; when = A.when; near = A.near; not_below = A.not_below };
  ahead = ahead;
  looked = looked;
  least = R.least;
  near = R.near;
  not_below = R.not_below;
  count = R.count;
}

module _ {h n : ℕ} {T H W mate pi : List ℕ} (S : State h n T H W mate pi) where
  -- the arc of a right vertex ends there, that of a left one begins there
  pub right_end : (b : ℕ) → h ≤ b → b < n → entry mate b < no_arc → entry H (entry mate b) ≡ b
  right_end b g l m = pairs.right_end S.graph b g (noted S.pairs b l m)

  pub left_end : (a : ℕ) → a < h → entry mate a < no_arc → entry T (entry mate a) ≡ a
  left_end a g m = pairs.left_end S.graph a g (noted S.pairs a (omega (arith, S.graph.within)) m)

  -- the left vertex that a right one is matched to
  pub partner : (b : ℕ) → h ≤ b → b < n → entry mate b < no_arc → entry T (entry mate b) < h
  partner b g l m = S.graph.from_left (entry mate b) (noted S.pairs b l m).arc

  -- how far the potential of a right vertex in the tree is from its distance
  pub in_tree_near : {t : ℕ} {dist par order keys : List ℕ} {k nd cur best : ℕ} → Tree h n T H W mate pi t dist par order keys k nd cur best
      → (b D j : ℕ) → h ≤ b → b < n → InTree T mate dist order t b D j
      → (D + entry pi t ≤ entry pi b + nd * 32767) × (entry pi b ≤ D + entry pi t + nd * 32767) × (D ≤ k) × (j ≤ nd)
  in_tree_near {t} {dist} {par} {order} {keys} {k} {nd} R b D j g l (InTree.root eb eD ej) =
      let q : entry pi b ≡ entry pi t = ap (entry pi) eb in
      (omega arith, omega arith, omega arith, omega arith)
  in_tree_near {t} {dist} {par} {order} {keys} {k} {nd} R b D j g l (InTree.matched m o eD ej) =
      let a : ℕ = entry T (entry mate b) in
      let A = R.taken a (partner b g l m) o in
      let q = S.priced.tight b l m in
      let r : entry pi (entry H (entry mate b)) ≡ entry pi b = ap (entry pi) (right_end b g l m) in
      let w = S.graph.weights (entry mate b) (noted S.pairs b l m).arc in
      (omega (arith, A.near), omega (arith, A.not_below), omega (arith, A.no_farther), omega (arith, A.when))

  -- a vertex of the tree has one distance
  pub one_distance : {t : ℕ} {dist par order keys : List ℕ} {k nd cur best : ℕ} → Tree h n T H W mate pi t dist par order keys k nd cur best
      → (b D D' j j' : ℕ) → InTree T mate dist order t b D j → InTree T mate dist order t b D' j' → D ≡ D'
  one_distance R b D D' j j' (InTree.root eb eD ej) (InTree.root fb fD fj) = eD ∙ sym fD
  one_distance R b D D' j j' (InTree.root eb eD ej) (InTree.matched m o x y) = absurd (omega (arith, R.bare, ap (entry mate) eb))
  one_distance R b D D' j j' (InTree.matched m o x y) (InTree.root eb eD ej) = absurd (omega (arith, R.bare, ap (entry mate) eb))
  one_distance R b D D' j j' (InTree.matched m o x y) (InTree.matched m' o' x' y') = x ∙ sym x'

  -- ---- an arc that brings its tail nearer

  module _ {t : ℕ} {dist par order keys : List ℕ} {k nd b best : ℕ} (R : Tree h n T H W mate pi t dist par order keys k nd b best)
      (j : ℕ) (here : InTree T mate dist order t b k j) (e : ℕ) (he : e < length T) (hb : entry H e ≡ b) where
    abbrev a : ℕ
    a = entry T e

    abbrev far : ℕ
    far = k + (entry W e + entry pi a - entry pi b)

    ha : a < h
    ha = S.graph.from_left e he

    right_b : h ≤ b
    right_b = omega (arith, S.graph.to_right e he)

    below_b : b < n
    below_b = omega (arith, S.graph.below e he)

    price : entry pi b ≤ entry pi a + entry W e
    price = subst (λ (z : ℕ). entry pi z ≤ entry pi a + entry W e) hb (S.priced.feasible e he)

    room : (k + entry pi t ≤ entry pi b + nd * 32767) × (entry pi b ≤ k + entry pi t + nd * 32767) × (k ≤ k) × (j ≤ nd)
    room = in_tree_near R b k j right_b below_b here

    pub far_is : far + entry pi b ≡ k + entry pi a + entry W e
    far_is = omega (arith, price)

    -- what is nearer was not taken yet
    pub fresh : far < entry dist a → entry order a ≡ 0
    fresh q = go (dec_lt 0 (entry order a))
      where
        go : Dec (0 < entry order a) → entry order a ≡ 0
        go (yes o) = absurd (omega (arith, (R.taken a ha o).no_farther))
        go (no o) = omega arith

    module _ (q : far < entry dist a) where
      dist_at : (c : ℕ) → ((c ≡ a) × (entry (set dist a far) c ≡ far)) ⊎ ((c ≢ a) × (entry (set dist a far) c ≡ entry dist c))
      dist_at c = set_cases dist a far c (omega (arith, R.dist_len, ha))

      -- taken vertices kept their distances
      same : (c : ℕ) → 0 < entry order c → entry (set dist a far) c ≡ entry dist c
      same c o = ⊎_elim (λ p. absurd (omega (arith, fresh q, ap (entry order) p.0))) (λ p. p.1) (dist_at c)

      no_more : (c : ℕ) → entry (set dist a far) c ≤ entry dist c
      no_more c = ⊎_elim (λ p. omega (arith, p.1, ap (entry dist) p.0)) (λ p. omega (arith, p.1)) (dist_at c)

      pub in_on : (c D i : ℕ) → InTree T mate dist order t c D i → InTree T mate (set dist a far) order t c D i
      in_on c D i (InTree.root x y z) = InTree.root x y z
      in_on c D i (InTree.matched m o x y) = InTree.matched m o (x ∙ sym (same (entry T (entry mate c)) o)) y

      in_back : (c D i : ℕ) → InTree T mate (set dist a far) order t c D i → InTree T mate dist order t c D i
      in_back c D i (InTree.root x y z) = InTree.root x y z
      in_back c D i (InTree.matched m o x y) = InTree.matched m o (x ∙ same (entry T (entry mate c)) o) y

      parent_on : (c i : ℕ) → entry (set dist a far) c ≡ entry dist c → Parent T H W mate pi dist order t c i → Parent T H W mate pi (set dist a far) order t c i
      parent_on c i s P = record {
        arc = P.arc;
        tail = P.tail;
        D = P.D;
        j = P.j;
        in_tree = in_on (entry H i) P.D P.j P.in_tree;
        earlier = P.earlier;
        far = omega (arith, s, P.far);
      }

      own_far : entry (set dist a far) a + entry pi (entry H e) ≡ k + entry pi a + entry W e
      own_far = omega (arith, far_is, ap (entry pi) hb, ⊎_elim (λ p. p.1) (λ p. absurd (p.0 refl)) (dist_at a))

      own : Parent T H W mate pi (set dist a far) order t a e
      own = record {
        arc = he;
        tail = refl;
        D = k;
        j = j;
        in_tree = in_on (entry H e) k j (subst (λ (z : ℕ). InTree T mate dist order t z k j) (sym hb) here);
        earlier = λ o. absurd (omega (arith, fresh q));
        far = own_far;
      }

      -- now no exposed vertex is nearer than best'
      pub nearer_tree : (best' : ℕ) → best' ≤ best → (entry mate a ≡ no_arc → best' ≤ far)
          → Tree h n T H W mate pi t (set dist a far) (set par a e) order (set keys a far) k nd b best'
      nearer_tree best' no_farther exposed = record {
        dist_len = length-set dist a far ∙ R.dist_len;
        par_len = length-set par a e ∙ R.par_len;
        order_len = R.order_len;
        keys_len = length-set keys a far ∙ R.keys_len;
        target = R.target;
        right = R.right;
        bare = R.bare;
        parents = λ c hc l. ⊎_elim
            (λ p. subst (λ (z : ℕ). Parent T H W mate pi (set dist a far) order t z (entry (set par a e) z)) (sym (p.0)) (subst (Parent T H W mate pi (set dist a far) order t a) (sym par_a) own))
            (λ p. subst (Parent T H W mate pi (set dist a far) order t c) (sym (par_other c (p.0))) (parent_on c (entry par c) (p.1) (R.parents c hc (omega (arith, p.1)))))
            (dist_at c);
        waits = λ c hc o. ⊎_elim (λ p. key_same c (p.0) ∙ sym (p.1)) (λ p. key_other c (p.0) ∙ R.waits c hc o ∙ sym (p.1)) (dist_at c);
        gone = λ c hc o. ⊎_elim (λ p. absurd (omega (arith, fresh q, ap (entry order) p.0))) (λ p. omega (arith, key_other c (p.0), R.gone c hc o)) (dist_at c);
        nobody = λ c g l. omega (arith, key_other c (λ z. omega (arith, ha)), R.nobody c g l);
        most = λ c hc. omega (arith, no_more c, R.most c hc);
        taken = λ c hc o. let A = R.taken c hc o in let s = same c o in
            record { no_farther = omega (arith, A.no_farther); mated = A.mated; when = A.when; near = omega (arith, A.near); not_below = omega (arith, A.not_below) };
        ahead = λ c hc o. ⊎_elim (λ p. omega (arith, p.1)) (λ p. omega (arith, p.1, R.ahead c hc o)) (dist_at c);
        looked = λ i D l hi I z. omega (arith, no_more (entry T i), R.looked i D l hi (in_back (entry H i) D l I) z);
        least = λ c hc m. ⊎_elim (λ p. omega (arith, p.1, exposed (subst (λ (z : ℕ). entry mate z ≡ no_arc) (p.0) m))) (λ p. omega (arith, p.1, R.least c hc m)) (dist_at c);
        near = λ c hc l. ⊎_elim (λ p. omega (arith, p.1, ap (entry pi) p.0, far_is, room.0, S.graph.weights e he)) (λ p. omega (arith, p.1, R.near c hc (omega (arith, p.1)))) (dist_at c);
        not_below = λ c hc l. ⊎_elim (λ p. omega (arith, p.1, ap (entry pi) p.0, far_is, room.1)) (λ p. omega (arith, p.1, R.not_below c hc (omega (arith, p.1)))) (dist_at c);
        count = R.count;
      }
        where
          par_a : entry (set par a e) a ≡ e
          par_a = ⊎_elim (λ p. p.1) (λ p. absurd (p.0 refl)) (set_cases par a e a (omega (arith, R.par_len, ha)))

          par_other : (c : ℕ) → c ≢ a → entry (set par a e) c ≡ entry par c
          par_other c z = ⊎_elim (λ p. absurd (z (p.0))) (λ p. p.1) (set_cases par a e c (omega (arith, R.par_len, ha)))

          keys_long : a < length keys
          keys_long = omega (arith, R.keys_len, ha, S.graph.within, S.graph.small)

          key_same : (c : ℕ) → c ≡ a → entry (set keys a far) c ≡ far
          key_same c z = ⊎_elim (λ p. p.1) (λ p. absurd (p.0 z)) (set_cases keys a far c keys_long)

          key_other : (c : ℕ) → c ≢ a → entry (set keys a far) c ≡ entry keys c
          key_other c z = ⊎_elim (λ p. absurd (z (p.0))) (λ p. p.1) (set_cases keys a far c keys_long)
