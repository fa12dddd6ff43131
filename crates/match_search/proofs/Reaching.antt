-- The end of a search that found an exposed vertex: with matched vertices brought nearer, potentials may rise.
use mathlib.Core.Path.{◌≡◌, refl, sym, ◌∙◌, ap, subst}
use mathlib.Core.List.{List}
use mathlib.Core.Logic.{◌⊎◌, inl, inr, ⊎_elim}
use Prim.Native.Nat.{ℕ, ◌+◌, ◌*◌, ◌-◌, ◌<◌, ◌≤◌, min}
use native.Mathlib.Omega.{arith}
use native.Mathlib.Decide.{ℕ_discrete, dec_lt}
use borrow.Author.Tests.{lt-ltb, le-ltb}
use lib.ListN.{length, set}
use Rattle.packed_arcs.specs.Entries.{entry, zero_count}
use Rattle.packed_arcs.proofs.Zeros.{zeros_fewer}
use Rattle.arc_index.specs.ArcIndex.{no_arc}
use Rattle.vertex_queue.specs.VertexQueue.{waits_not}
use Rattle.match_state.specs.Matching.{State}
use Rattle.match_state.proofs.Pairs.{noted, exposed_or_matched}
use Rattle.match_state.proofs.MatchedAmounts.{taken_few}
use Rattle.match_tree.specs.Tree.{InTree, Parent, Tree, Reached}
use Rattle.match_tree.proofs.TreeLaws.{left_end, partner}
use Rattle.match_search.specs.Bringing.{BroughtNear}

zeros_some : (l : List ℕ) (i : ℕ) → i < length l → entry l i ≡ 0 → 0 < zero_count l
zeros_some l i h e = go (zeros_fewer l i 1 h e (omega arith))
  where
    go : zero_count (set l i 1) + 1 ≡ zero_count l → 0 < zero_count l
    go q = omega arith

-- r is the nearest exposed vertex, at the distance best, and k the least key; where that is less, arcs from exposed to matched vertices are dear enough
module _ {h n : ℕ} {T H W mate pi : List ℕ} (S : State h n T H W mate pi)
    {t : ℕ} {dist par order keys : List ℕ} {k nd cur best : ℕ} (R : Tree h n T H W mate pi t dist par order keys k nd cur best)
    (r : ℕ) (hr : r < h) (br : entry mate r ≡ no_arc) (dr : entry dist r ≡ best) (reached-it : best < waits_not) (near_enough : k ≤ best)
    (last : (D j : ℕ) → cur < n → InTree T mate dist order t cur D j → best ≤ D)
    (dear : k < best → (e : ℕ) → e < length T → entry mate (entry T e) ≡ no_arc → entry mate (entry H e) < no_arc → best + entry pi (entry H e) ≤ k + entry W e)
    (low-prices : k < best → (b : ℕ) → h ≤ b → b < n → entry mate b < no_arc → entry pi b + (best - k) ≤ 32767)
    {dist' : List ℕ} (L : BroughtNear best k mate dist dist') where
  -- ---- distances after it

  bare_stays : (a : ℕ) → a < h → entry mate a ≡ no_arc → entry dist' a ≡ entry dist a
  bare_stays a l m = go L
    where
      go : BroughtNear best k mate dist dist' → entry dist' a ≡ entry dist a
      go (BroughtNear.kept q e) = ap (λ (d : List ℕ). entry d a) e
      go (BroughtNear.brought q n f) = f a (omega (arith, R.dist_len)) ∙ rw (le-ltb (entry mate a) no_arc (omega arith))

  brought_to : (a : ℕ) → a < h → entry mate a < no_arc → (k < best → entry dist' a ≡ min (entry dist a) k) × (best ≤ k → entry dist' a ≡ entry dist a)
  brought_to a l m = go L
    where
      go : BroughtNear best k mate dist dist' → (k < best → entry dist' a ≡ min (entry dist a) k) × (best ≤ k → entry dist' a ≡ entry dist a)
      go (BroughtNear.kept q e) = (λ c. absurd (omega arith), λ c. ap (λ (d : List ℕ). entry d a) e)
      go (BroughtNear.brought q n f) = (λ c. f a (omega (arith, R.dist_len)) ∙ rw (lt-ltb (entry mate a) no_arc m), λ c. absurd (omega arith))

  brought : (a : ℕ) → a < h → entry mate a < no_arc → min (entry dist' a) best ≡ min (entry dist a) k
  brought a l m = go (dec_lt k best)
    where
      go : Dec (k < best) → min (entry dist' a) best ≡ min (entry dist a) k
      go (yes q) = omega (arith, (brought_to a l m).0 q)
      go (no q) = omega (arith, (brought_to a l m).1 (omega arith))

  taken_stays : (a : ℕ) → a < h → 0 < entry order a → entry dist' a ≡ entry dist a
  taken_stays a l o = go (dec_lt k best)
    where
      go : Dec (k < best) → entry dist' a ≡ entry dist a
      go (yes q) = omega (arith, (brought_to a l (R.taken a l o).mated).0 q, (R.taken a l o).no_farther)
      go (no q) = (brought_to a l (R.taken a l o).mated).1 (omega arith)

  long : length dist' ≡ h
  long = go L
    where
      go : BroughtNear best k mate dist dist' → length dist' ≡ h
      go (BroughtNear.kept q e) = ap length e ∙ R.dist_len
      go (BroughtNear.brought q n f) = n ∙ R.dist_len

  at_r : entry dist' r ≡ best
  at_r = bare_stays r hr br ∙ dr

  sides : (a : ℕ) → a < h → (entry mate a ≡ no_arc) ⊎ (entry mate a < no_arc)
  sides a l = exposed_or_matched S.graph S.pairs a (omega (arith, S.graph.within))

  no_farther : (a : ℕ) → a < h → min (entry dist' a) best ≤ min (entry dist a) best
  no_farther a l = ⊎_elim (λ m. omega (arith, bare_stays a l m)) (λ m. omega (arith, brought a l m)) (sides a l)

  untaken : (a : ℕ) → a < h → entry order a ≡ 0 → entry mate a < no_arc → min (entry dist' a) best ≡ k
  untaken a l o m = omega (arith, brought a l m, R.ahead a l o)

  -- ---- arcs

  to_root : (e : ℕ) → e < length T → entry H e ≡ t → min (entry dist' (entry T e)) (entry dist' r) + entry pi t ≤ entry pi (entry T e) + entry W e
  to_root e he z = go (ℕ_discrete (entry H e) cur)
    where
      go : Dec (entry H e ≡ cur) → min (entry dist' (entry T e)) (entry dist' r) + entry pi t ≤ entry pi (entry T e) + entry W e
      go (yes c) = omega (arith, at_r, last 0 0 (omega (arith, R.target)) (InTree.root (sym c ∙ z) refl refl), S.priced.feasible e he, ap (entry pi) z)
      go (no c) = omega (arith, at_r, no_farther (entry T e) (S.graph.from_left e he), R.looked e 0 0 he (InTree.root z refl refl) c, ap (entry pi) z)

  to_matched : (e : ℕ) → e < length T → entry mate (entry H e) < no_arc
      → min (entry dist' (entry T e)) (entry dist' r) + entry pi (entry H e) ≤ entry dist' (entry T (entry mate (entry H e))) + entry pi (entry T e) + entry W e
  to_matched e he m = go (dec_lt 0 (entry order a₀)) (ℕ_discrete (entry H e) cur)
    where
      a₀ : ℕ
      a₀ = entry T (entry mate (entry H e))

      l₀ : a₀ < h
      l₀ = partner S (entry H e) (S.graph.to_right e he) (S.graph.below e he) m

      fair : entry pi (entry H e) ≤ entry pi (entry T e) + entry W e
      fair = S.priced.feasible e he

      waits : entry order a₀ ≡ 0 → entry mate a₀ < no_arc → min (entry dist' a₀) best ≡ k → Dec (k < best) → (entry mate (entry T e) ≡ no_arc) ⊎ (entry mate (entry T e) < no_arc)
          → min (entry dist' (entry T e)) (entry dist' r) + entry pi (entry H e) ≤ entry dist' a₀ + entry pi (entry T e) + entry W e
      waits o m₀ q (yes c) (inl z) = omega (arith, at_r, dear c e he z m)
      waits o m₀ q (no c) (inl z) = omega (arith, at_r, fair)
      waits o m₀ q c (inr z) = omega (arith, at_r, fair, brought (entry T e) (S.graph.from_left e he) z)

      go : Dec (0 < entry order a₀) → Dec (entry H e ≡ cur)
          → min (entry dist' (entry T e)) (entry dist' r) + entry pi (entry H e) ≤ entry dist' (entry T (entry mate (entry H e))) + entry pi (entry T e) + entry W e
      go (yes o) (yes c) = omega (
        arith,
        at_r,
        fair,
        taken_stays a₀ l₀ o,
        last (entry dist a₀) (entry order a₀) (omega (arith, S.graph.below e he)) (subst (λ (v : ℕ). InTree T mate dist order t v (entry dist a₀) (entry order a₀)) c (InTree.matched m o refl refl)),
      )
      go (yes o) (no c) = omega (arith, at_r, taken_stays a₀ l₀ o, no_farther (entry T e) (S.graph.from_left e he), R.looked e (entry dist a₀) (entry order a₀) he (InTree.matched m o refl refl) c)
      go (no o) c =
          let m₀ : entry mate a₀ < no_arc = omega (arith, (noted S.pairs (entry H e) (S.graph.below e he) m).at_tail) in
          let z : entry order a₀ ≡ 0 = omega arith in
          waits z m₀ (untaken a₀ l₀ z m₀) (dec_lt k best) (sides (entry T e) (S.graph.from_left e he))

  -- ---- ranges

  fresh : entry order r ≡ 0
  fresh = go (dec_lt 0 (entry order r))
    where
      go : Dec (0 < entry order r) → entry order r ≡ 0
      go (yes o) = absurd (omega (arith, (R.taken r hr o).mated))
      go (no o) = omega arith

  few : nd ≤ 126
  few = omega (
    arith,
    R.count,
    S.graph.small,
    zeros_some order r (omega (arith, R.order_len)) fresh,
    taken_few S.graph S.pairs order R.order_len (λ a l o. (R.taken a l o).mated) t R.right R.target R.bare,
  )

  reach : best + entry pi t ≤ 127 * 32767
  reach = omega (arith, R.near r hr (omega arith), S.exposed r hr br, few, dr)

  range : (a : ℕ) → a < h → entry mate a < no_arc → entry dist' a < entry dist' r → entry pi a + (entry dist' r - entry dist' a) ≤ 8290051
  range a l m q = go (dec_lt 0 (entry order a))
    where
      go : Dec (0 < entry order a) → entry pi a + (entry dist' r - entry dist' a) ≤ 8290051
      go (yes o) = omega (arith, at_r, taken_stays a l o, (R.taken a l o).not_below, reach, few)
      go (no o) =
          let N = noted S.pairs a (omega (arith, S.graph.within)) m in
          let e : ℕ = entry mate a in
          let u = untaken a l (omega arith) m in
          omega (
            arith,
            at_r,
            q,
            u,
            low-prices (omega (arith, at_r, q, u)) (entry H e) (S.graph.to_right e N.arc) (S.graph.below e N.arc) (omega (arith, N.at_head)),
            S.priced.tight a (omega (arith, S.graph.within)) m,
            ap (entry pi) (left_end S a l m),
          )

  -- ---- parents

  in_near : (b D j : ℕ) → h ≤ b → b < n → InTree T mate dist order t b D j → InTree T mate dist' order t b D j
  in_near b D j g l (InTree.root x y z) = InTree.root x y z
  in_near b D j g l (InTree.matched m o x y) = InTree.matched m o (x ∙ sym (taken_stays (entry T (entry mate b)) (partner S b g l m) o)) y

  parents : (c : ℕ) → c < h → (0 < entry order c) ⊎ (c ≡ r) → Parent T H W mate pi dist' order t c (entry par c)
  parents c l w = record {
    arc = P.arc;
    tail = P.tail;
    D = P.D;
    j = P.j;
    in_tree = in_near (entry H (entry par c)) P.D P.j (S.graph.to_right (entry par c) P.arc) (S.graph.below (entry par c) P.arc) P.in_tree;
    earlier = P.earlier;
    far = omega (arith, same w, P.far);
  }
    where
      same : (0 < entry order c) ⊎ (c ≡ r) → entry dist' c ≡ entry dist c
      same (inl o) = taken_stays c l o
      same (inr q) = ap (entry dist') q ∙ at_r ∙ sym dr ∙ ap (entry dist) (sym q)

      found : (0 < entry order c) ⊎ (c ≡ r) → entry dist c < waits_not
      found (inl o) = omega (arith, (R.taken c l o).no_farther)
      found (inr q) = omega (arith, ap (entry dist) q, dr)

      P : Parent T H W mate pi dist order t c (entry par c)
      P = R.parents c l (found w)

  pub reached : Reached h n T H W mate pi t dist' par order r
  reached = record {
    dist_len = long;
    par_len = R.par_len;
    order_len = R.order_len;
    target = R.target;
    right = R.right;
    open_root = R.bare;
    left = hr;
    bare = br;
    exposed = λ a l m. omega (arith, at_r, bare_stays a l m, R.least a l m);
    to_root = to_root;
    to_matched = to_matched;
    range_root = omega (arith, at_r, reach);
    range = range;
    taken = λ a l o. ((R.taken a l o).mated, omega (arith, at_r, taken_stays a l o, (R.taken a l o).no_farther), omega (arith, (R.taken a l o).when, few));
    parents = parents;
  }
