-- Potentials that rose after a search: still no arc has a negative reduced cost, and parent arcs have none.
use mathlib.Core.Path.{◌≡◌, refl, sym, ◌∙◌, ap, subst}
use mathlib.Core.List.{List}
use mathlib.Core.Logic.{◌⊎◌, inl, inr, ◌≢◌, ⊎_elim}
use Prim.Native.Nat.{ℕ, ◌+◌, ◌-◌, ◌<◌, ◌≤◌}
use native.Mathlib.Omega.{arith}
use native.Mathlib.Decide.{ℕ_discrete, dec_lt}
use borrow.Author.Tests.{lt-ltb, le-ltb, eq-eqb, ne_eqb}
use lib.ListN.{length, set, length-set}
use Rattle.packed_arcs.specs.Entries.{entry}
use Rattle.packed_arcs.proofs.ListLoops.{set_cases}
use Rattle.arc_index.specs.ArcIndex.{no_arc}
use Rattle.match_state.specs.Matching.{State}
use Rattle.match_tree.specs.Tree.{InTree, Parent, Reached}
use Rattle.match_augmenting.specs.Augmenting.{Raised, Onward, Alternating}
use Rattle.match_tree.proofs.TreeLaws.{right_end, partner}
use Rattle.match_state.proofs.Pairs.{noted, exposed_or_matched}

module _ {h n : ℕ} {T H W mate pi : List ℕ} (S : State h n T H W mate pi) {t : ℕ} {dist par order : List ℕ} {r : ℕ} (R : Reached h n T H W mate pi t dist par order r)
    {pi' : List ℕ} (U : Raised h T mate dist t (entry dist r) pi pi') where
  abbrev d : ℕ
  d = entry dist r

  up_left : (a : ℕ) → a < h → entry pi' a ≡ entry pi a + (d - entry dist a)
  up_left a l = U.each a (omega (arith, S.priced.len, S.graph.within)) ∙ rw (lt-ltb a h l)

  up_root : entry pi' t ≡ entry pi t + d
  up_root = U.each t (omega (arith, S.priced.len, R.target)) ∙ rw (le-ltb t h R.right, eq-eqb t t refl)

  not_root : (b : ℕ) → entry mate b < no_arc → b ≢ t
  not_root b m e = omega (arith, R.open_root, ap (entry mate) e)

  up_matched : (b : ℕ) → h ≤ b → b < n → entry mate b < no_arc → entry pi' b ≡ entry pi b + (d - entry dist (entry T (entry mate b)))
  up_matched b g l m = U.each b (omega (arith, S.priced.len)) ∙ rw (le-ltb b h g, ne_eqb b t (not_root b m), lt-ltb (entry mate b) no_arc m)

  up_exposed : (b : ℕ) → h ≤ b → b < n → b ≢ t → no_arc ≤ entry mate b → entry pi' b ≡ entry pi b
  up_exposed b g l z m = U.each b (omega (arith, S.priced.len)) ∙ rw (le-ltb b h g, ne_eqb b t z, le-ltb (entry mate b) no_arc m) (omega arith)

  -- a right vertex is the root, or matched, or did not rise
  data Rose (b : ℕ) : Type 0 where
    root : b ≡ t → Rose b
    matched : entry mate b < no_arc → Rose b
    not_at_all : entry pi' b ≡ entry pi b → Rose b

  rose : (b : ℕ) → h ≤ b → b < n → Rose b
  rose b g l = go (ℕ_discrete b t) (dec_lt (entry mate b) no_arc)
    where
      go : Dec (b ≡ t) → Dec (entry mate b < no_arc) → Rose b
      go (yes e) m = Rose.root e
      go (no e) (yes m) = Rose.matched m
      go (no e) (no m) = Rose.not_at_all (up_exposed b g l e (omega arith))

  feasible : (e : ℕ) → e < length T → entry pi' (entry H e) ≤ entry pi' (entry T e) + entry W e
  feasible e he = go (rose (entry H e) (S.graph.to_right e he) (S.graph.below e he))
    where
      up : entry pi' (entry T e) ≡ entry pi (entry T e) + (d - entry dist (entry T e))
      up = up_left (entry T e) (S.graph.from_left e he)

      go : Rose (entry H e) → entry pi' (entry H e) ≤ entry pi' (entry T e) + entry W e
      go (Rose.root z) = omega (arith, up, up_root, ap (entry pi') z, R.to_root e he z)
      go (Rose.matched m) = omega (arith, up, up_matched (entry H e) (S.graph.to_right e he) (S.graph.below e he) m, R.to_matched e he m, S.priced.feasible e he)
      go (Rose.not_at_all q) = omega (arith, up, S.priced.feasible e he)

  tight : (v : ℕ) → v < n → entry mate v < no_arc → entry pi' (entry H (entry mate v)) ≡ entry pi' (entry T (entry mate v)) + entry W (entry mate v)
  tight v l m =
      let e : ℕ = entry mate v in
      let N = noted S.pairs v l m in
      let b : ℕ = entry H e in
      let a : ℕ = entry T e in
      let q = up_matched b (S.graph.to_right e N.arc) (S.graph.below e N.arc) (omega (arith, N.at_head)) in
      let z : entry dist (entry T (entry mate b)) ≡ entry dist a = ap (λ (k : ℕ). entry dist (entry T k)) N.at_head in
      omega (arith, q, z, up_left a (S.graph.from_left e N.arc), S.priced.tight v l m)

  -- exposed left vertices did not rise
  exposed : (a : ℕ) → a < h → entry mate a ≡ no_arc → entry pi' a ≡ 0
  exposed a l m = omega (arith, up_left a l, R.exposed a l m, S.exposed a l m)

  left_range : (a : ℕ) → a < h → (entry mate a ≡ no_arc) ⊎ (entry mate a < no_arc) → Dec (entry dist a < d) → entry pi' a ≤ 8322818
  left_range a l (inl m) q = omega (arith, exposed a l m)
  left_range a l (inr m) (yes q) = omega (arith, up_left a l, R.range a l m q)
  left_range a l (inr m) (no q) = omega (arith, up_left a l, S.range a (omega (arith, S.graph.within)))

  right_range : (b : ℕ) → h ≤ b → b < n → Rose b → entry pi' b ≤ 8322818
  right_range b g l (Rose.not_at_all q) = omega (arith, S.range b l)
  right_range b g l (Rose.root e) = omega (arith, ap (entry pi') e, up_root, R.range_root)
  right_range b g l (Rose.matched m) = go (dec_lt (entry dist a) d)
    where
      a : ℕ
      a = entry T (entry mate b)

      a_matched : entry mate a < no_arc
      a_matched = omega (arith, (noted S.pairs b l m).at_tail)

      go : Dec (entry dist a < d) → entry pi' b ≤ 8322818
      go (yes q) = omega (
        arith,
        tight b l m,
        ap (entry pi') (right_end S b g l m),
        up_left a (partner S b g l m),
        R.range a (partner S b g l m) a_matched q,
        S.graph.weights (entry mate b) (noted S.pairs b l m).arc,
      )
      go (no q) = omega (arith, up_matched b g l m, S.range b l)

  range : (v : ℕ) → v < n → entry pi' v ≤ 8322818
  range v l = go (dec_lt v h)
    where
      go : Dec (v < h) → entry pi' v ≤ 8322818
      go (yes q) = left_range v q (exposed_or_matched S.graph S.pairs v l) (dec_lt (entry dist v) d)
      go (no q) = right_range v (omega arith) l (rose v (omega arith) l)

  -- ---- parent arcs are tight

  up_tree : (b D j : ℕ) → h ≤ b → b < n → InTree T mate dist order t b D j → entry pi' b ≡ entry pi b + (d - D)
  up_tree b D j g l (InTree.root e x y) = subst (λ (z : ℕ). entry pi' z ≡ entry pi z + (d - D)) (sym e) (omega (arith, up_root))
  up_tree b D j g l (InTree.matched m o x y) = subst (λ (z : ℕ). entry pi' b ≡ entry pi b + (d - z)) (sym x) (up_matched b g l m)

  fresh : entry order r ≡ 0
  fresh = go (dec_lt 0 (entry order r))
    where
      go : Dec (0 < entry order r) → entry order r ≡ 0
      go (yes o) = absurd (omega (arith, (R.taken r R.left o).0, R.bare))
      go (no o) = omega arith

  abbrev order' : List ℕ
  order' = set order r 255

  order_at : (c : ℕ) → ((c ≡ r) × (entry order' c ≡ 255)) ⊎ ((c ≢ r) × (entry order' c ≡ entry order c))
  order_at c = set_cases order r 255 c (omega (arith, R.order_len, R.left))

  onward : (c : ℕ) → c < h → (w : (0 < entry order c) ⊎ (c ≡ r)) → entry dist c ≤ d → ((j : ℕ) → j ≤ 254 → (0 < entry order c → j < entry order c) → j < entry order' c)
      → Onward T H W mate pi' order' t c (entry par c)
  onward c l w q before =
      record {
        arc = P.arc;
        tail = P.tail;
        tight = omega (arith, up_tree (entry H e) P.D P.j g b P.in_tree, up_left c l, P.far, S.priced.feasible e P.arc, ap (entry pi) P.tail);
        on = go P.in_tree;
      }
    where
      e : ℕ
      e = entry par c

      P : Parent T H W mate pi dist order t c e
      P = R.parents c l w

      g : h ≤ entry H e
      g = S.graph.to_right e P.arc

      b : entry H e < n
      b = S.graph.below e P.arc

      go : InTree T mate dist order t (entry H e) P.D P.j → (entry H e ≡ t)
          ⊎ ((entry mate (entry H e) < no_arc) × (0 < entry order' (entry T (entry mate (entry H e)))) × (entry order' (entry T (entry mate (entry H e))) < entry order' c))
      go (InTree.root x y z) = inl x
      go (InTree.matched m o x y) = ⊎_elim
          (λ p. absurd (omega (arith, fresh, ap (entry order) p.0)))
          (λ p. inr (m, omega (arith, p.1), omega (arith, p.1, y, before P.j (omega (arith, y, (R.taken (entry T (entry mate (entry H e))) (partner S (entry H e) g b m) o).2)) P.earlier)))
          (order_at (entry T (entry mate (entry H e))))

  pub alternating : Alternating h n T H W mate pi' par order' t r
  alternating = record {
    graph = S.graph;
    pairs = S.pairs;
    priced = record { len = U.len ∙ S.priced.len; feasible = feasible; tight = tight };
    range = range;
    exposed = λ c l m z. exposed c l m;
    left = R.left;
    bare = R.bare;
    first = omega (arith, at_r);
    right = R.right;
    below = R.target;
    open_root = R.open_root;
    par_len = R.par_len;
    order_len = length-set order r 255 ∙ R.order_len;
    path = λ c l o q. ⊎_elim
        (λ p. onward c l (inr (p.0)) (omega (arith, ap (entry dist) p.0)) (λ j x y. omega (arith, p.1)))
        (λ p. onward c l (inl (omega (arith, p.1))) (R.taken c l (omega (arith, p.1))).1 (λ j x y. omega (arith, p.1, y (omega (arith, p.1)))))
        (order_at c);
  }
    where
      at_r : entry order' r ≡ 255
      at_r = ⊎_elim (λ p. p.1) (λ p. absurd (p.0 refl)) (order_at r)
