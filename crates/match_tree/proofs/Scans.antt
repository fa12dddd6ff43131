-- The arcs to a right vertex, looked at one after the other along its row.
use mathlib.Core.Path.{◌≡◌, refl, sym, ◌∙◌, ap, subst}
use mathlib.Core.Bool.{Bool, true, false, false≢true}
use mathlib.Core.List.{List}
use mathlib.Core.Logic.{◌⊎◌, ◌≢◌, ⊎_elim}
use Prim.Native.Nat.{ℕ, ◌+◌, ◌-◌, ◌/◌, ◌<◌, ◌≤◌, min}
use native.Mathlib.Omega.{arith}
use native.Mathlib.Decide.{ℕ_discrete, dec_lt}
use lib.Dec.{eqb→eq}
use lib.ListN.{length, set, length-set}
use borrow.Author.Tests.{lt-ltb, le-ltb, eq-eqb}
use Rattle.prelude.proofs.Booleans.{true→T}
use Rattle.packed_arcs.specs.Entries.{entry}
use Rattle.packed_arcs.proofs.ListLoops.{set_cases}
use Rattle.arc_index.specs.ArcIndex.{no_arc}
use Rattle.vertex_queue.specs.VertexQueue.{waits_not, Kept}
use Rattle.vertex_queue.proofs.Laws.{put_kept}
use Rattle.match_state.specs.Rows.{row_number, row_tail, row_weight, RowArc, InRow, Parted}
use Rattle.match_state.specs.Matching.{State}
use Rattle.match_tree.specs.Tree.{InTree, Tree, exposed_distance, NearestExposed, Lowered, Relaxable, ScanEnd, Scanned}
use Rattle.match_tree.proofs.TreeLaws.{retold, one_distance, nearer_tree, in_on, fresh, far_is}

-- the distance that the code has for the nearest exposed vertex
pub nearest_distance : {h : ℕ} {mate dist : List ℕ} {r best : ℕ} → length dist ≡ h → NearestExposed h mate dist r best → exposed_distance dist r ≡ best
nearest_distance {h} {mate} {dist} {r} {best} q (NearestExposed.some a m d b) = rw (lt-ltb r (length dist) (omega arith)) d
nearest_distance {h} {mate} {dist} {r} {best} q (NearestExposed.none a b) = rw (le-ltb r (length dist) (omega arith)) (sym b)

-- The arc e to b, which is at the distance k, was looked at.
abbrev Seen : (T W pi dist : List ℕ) (b k best e : ℕ) → Type 0
Seen T W pi dist b k best e = min (entry dist (entry T e)) best + entry pi b ≤ k + entry pi (entry T e) + entry W e

-- The search grows to what it is now, whatever the root and the order were. Once the arc at the position `from` was looked at, so were all before i.
abbrev Grows : (h n : ℕ) (T H W rows mate pi dist₀ par₀ keys₀ low₀ : List ℕ) (b k r₀ from : ℕ) (dist par keys low : List ℕ) (i r best : ℕ) → Type 0
Grows h n T H W rows mate pi dist₀ par₀ keys₀ low₀ b k r₀ from dist par keys low i r best =
    (t nd j best₀ : ℕ) (order : List ℕ) → InTree T mate dist₀ order t b k j → Kept keys₀ low₀ → NearestExposed h mate dist₀ r₀ best₀
    → Tree h n T H W mate pi t dist₀ par₀ order keys₀ k nd b best₀
    → Kept keys low × InTree T mate dist order t b k j × NearestExposed h mate dist r best × Tree h n T H W mate pi t dist par order keys k nd b best
    × (from < i → (p : ℕ) → entry rows b ≤ p → p < i → Seen T W pi dist b k best (row_number (entry rows p)))

-- what holds before the position i of the row of b is looked at, where the nearest exposed vertex is r, at the distance best
pub record Scanning (h n : ℕ) (T H W rows mate pi dist₀ par₀ keys₀ low₀ : List ℕ) (b k r₀ from : ℕ) (dist par keys low : List ℕ) (i r best : ℕ) : Type 0 where
  pub dist_len : length dist ≡ length dist₀
  pub par_len : length par ≡ length par₀
  pub start : from ≤ i
  pub grows : Grows h n T H W rows mate pi dist₀ par₀ keys₀ low₀ b k r₀ from dist par keys low i r best

module _ {h n : ℕ} {T H W mate pi : List ℕ} (S : State h n T H W mate pi) {rows : List ℕ} {b from : ℕ} (X : Parted T H W mate rows rows b from) (lb : b < n) where
  vertices : h ≤ 255
  vertices = omega (arith, S.graph.within, S.graph.small)

  below_256 : b < 256
  below_256 = omega (arith, S.graph.small)

  -- the arcs before `from` come from exposed vertices, as does the one there, which is no dearer: where that was looked at, so were they
  before_from : {t : ℕ} {dist par order keys : List ℕ} {k nd best : ℕ} → Tree h n T H W mate pi t dist par order keys k nd b best → from < entry rows (b + 1)
      → Seen T W pi dist b k best (row_number (entry rows from)) → (p : ℕ) → entry rows b ≤ p → p < from → Seen T W pi dist b k best (row_number (entry rows p))
  before_from {t} {dist} {par} {order} {keys} {k} {nd} {best} R l q p g f =
      let A = X.rows_are.own b from below_256 X.from l in
      let B = X.rows_are.own b p below_256 g (omega (arith, X.within)) in
      let bare : entry mate (entry T (row_number (entry rows from))) ≡ no_arc = ap (entry mate) (sym A.tail) ∙ (X.here (omega arith)).1 in
      let left = S.graph.from_left (row_number (entry rows from)) (omega (arith, A.number, S.graph.heads_len)) in
      omega (arith, q, X.dearer p g f, A.weight, B.weight, R.least (entry T (row_number (entry rows from))) left bare, S.exposed (entry T (row_number (entry rows from))) left bare)

  module _ {dist₀ par₀ keys₀ low₀ : List ℕ} {k r₀ : ℕ} {dist par keys low : List ℕ} {i r best : ℕ}
      (G : Scanning h n T H W rows mate pi dist₀ par₀ keys₀ low₀ b k r₀ from dist par keys low i r best) (d₀ : length dist₀ ≡ h) (l : i < entry rows (b + 1)) where
    abbrev e : ℕ
    e = row_number (entry rows i)

    A : RowArc T H W rows b i
    A = X.rows_are.own b i below_256 (omega (arith, X.from, G.start)) l

    pub here : e < length T
    here = omega (arith, A.number, S.graph.heads_len)

    abbrev a : ℕ
    a = entry T e

    abbrev far : ℕ
    far = k + (entry W e + entry pi a - entry pi b)

    pub ha : a < h
    ha = S.graph.from_left e here

    pub tail : row_tail (entry rows i) ≡ a
    tail = A.tail

    -- what looking at the arc takes for granted
    pub ready : length par₀ ≡ length dist₀ → k ≤ 2000000000 → Relaxable (entry rows i) k (entry pi b) mate pi dist par
    ready p q = record {
      number = omega (arith, A.number, X.rows_are.few);
      tail = omega (arith, tail, ha, G.dist_len);
      small = omega (arith, vertices, G.dist_len);
      mates = omega (arith, S.pairs.len, S.graph.within, G.dist_len);
      potentials = omega (arith, S.priced.len, S.graph.within, G.dist_len);
      par_len = omega (arith, G.par_len, G.dist_len);
      near = q;
      weight = omega (arith, A.weight, S.graph.weights e here);
      potential = omega (arith, ap (entry pi) tail, S.range a (omega (arith, ha, S.graph.within)));
      not_negative = omega (arith, A.weight, ap (entry pi) tail, S.priced.feasible e here, ap (entry pi) A.head);
    }

    -- the arc was looked at, by what stands in the row
    abbrev Looked : (dist' par' keys' low' : List ℕ) → Bool → Type 0
    Looked dist' par' keys' low' x =
        Lowered (row_tail (entry rows i)) e (k + (row_weight (entry rows i) + entry pi (row_tail (entry rows i)) - entry pi b)) best mate dist par keys low dist' par' keys' low' x

    -- what is seen after the arc at i
    seen_on : {t : ℕ} {order dist' par' keys' : List ℕ} {nd best' j : ℕ} → InTree T mate dist order t b k j → Tree h n T H W mate pi t dist par order keys k nd b best
        → Tree h n T H W mate pi t dist' par' order keys' k nd b best' → ((x : ℕ) → min (entry dist' x) best' ≤ min (entry dist x) best) → min (entry dist' a) best' ≤ far
        → (from < i → (p : ℕ) → entry rows b ≤ p → p < i → Seen T W pi dist b k best (row_number (entry rows p)))
        → from < i + 1 → (p : ℕ) → entry rows b ≤ p → p < i + 1 → Seen T W pi dist' b k best' (row_number (entry rows p))
    seen_on {t} {order} {dist'} {par'} {keys'} {nd} {best'} {j} I R R' less now seen f p g q = go (ℕ_discrete p i) (dec_lt from i)
      where
        at_i : Seen T W pi dist' b k best' e
        at_i = omega (arith, now, far_is S R j I e here A.head)

        go : Dec (p ≡ i) → Dec (from < i) → Seen T W pi dist' b k best' (row_number (entry rows p))
        go (yes z) y = subst (λ (v : ℕ). Seen T W pi dist' b k best' (row_number (entry rows v))) (sym z) at_i
        go (no z) (yes y) = omega (arith, seen y p g (omega arith), less (entry T (row_number (entry rows p))))
        go (no z) (no y) =
            let same : i ≡ from = omega (arith, G.start) in
            before_from R' (omega arith) (subst (λ (v : ℕ). Seen T W pi dist' b k best' (row_number (entry rows v))) same at_i) p g (omega arith)

    module _ {dist' par' keys' low' : List ℕ} where
      -- and by columns
      by_columns : {x : Bool} → Looked dist' par' keys' low' x → Lowered a e far best mate dist par keys low dist' par' keys' low' x
      by_columns {x} L =
          subst (λ (z : ℕ). Lowered z e (k + (entry W e + entry pi z - entry pi b)) best mate dist par keys low dist' par' keys' low' x) tail
          (subst (λ (w : ℕ). Lowered (row_tail (entry rows i)) e (k + (w + entry pi (row_tail (entry rows i)) - entry pi b)) best mate dist par keys low dist' par' keys' low' x) A.weight L)

      -- a came nearer, and r' is the nearest exposed vertex now
      nearer : far < entry dist a → dist' ≡ set dist a far → par' ≡ set par a e → keys' ≡ set keys a far → low' ≡ set low (a / 16) (min (entry low (a / 16)) far)
          → (r' best' : ℕ) → best' ≤ best → (entry mate a ≡ no_arc → best' ≤ far) → (a < length dist → NearestExposed h mate dist r best → NearestExposed h mate (set dist a far) r' best')
          → Scanning h n T H W rows mate pi dist₀ par₀ keys₀ low₀ b k r₀ from dist' par' keys' low' (i + 1) r' best'
      nearer q ed ep ek el r' best' u v w = record {
        dist_len = rw ed (length-set dist a far) ∙ G.dist_len;
        par_len = rw ep (length-set par a e) ∙ G.par_len;
        start = omega (arith, G.start);
        grows = λ t nd j best₀ order I K N R.
            let g = G.grows t nd j best₀ order I K N R in
            let R' : Tree h n T H W mate pi t dist' par' order keys' k nd b best' = rw (ed, ep, ek) (nearer_tree S g.3 j g.1 e here A.head q best' u v) in (
              rw (ek, el) (put_kept keys low a far g.0 (omega (arith, ha, vertices)) (omega (arith, g.3.waits a ha (fresh S g.3 j g.1 e here A.head q)))),
              rw ed (in_on S g.3 j g.1 e here A.head q b k j g.1),
              rw ed (w (omega (arith, g.3.dist_len, ha)) g.2),
              R',
              seen_on g.1 g.3 R' (λ x. omega (arith, no_more x (at x))) (omega (arith, no_more a (at a), at_a (at a))) g.4,
            );
      }
        where
          at : (x : ℕ) → ((x ≡ a) × (entry (set dist a far) x ≡ far)) ⊎ ((x ≢ a) × (entry (set dist a far) x ≡ entry dist x))
          at x = set_cases dist a far x (omega (arith, ha, G.dist_len))

          no_more : (x : ℕ) → ((x ≡ a) × (entry (set dist a far) x ≡ far)) ⊎ ((x ≢ a) × (entry (set dist a far) x ≡ entry dist x)) → entry dist' x ≤ entry dist x
          no_more x y = rw ed (⊎_elim (λ p. omega (arith, p.1, ap (entry dist) p.0)) (λ p. omega (arith, p.1)) y)

          at_a : ((a ≡ a) × (entry (set dist a far) a ≡ far)) ⊎ ((a ≢ a) × (entry (set dist a far) a ≡ entry dist a)) → entry dist' a ≡ far
          at_a y = rw ed (⊎_elim (λ p. p.1) (λ p. absurd (p.0 refl)) y)

      -- nothing changed, or a is not exposed: the nearest exposed vertex stays
      pub scan_on : {x : Bool} → Looked dist' par' keys' low' x → x ≡ false → Scanning h n T H W rows mate pi dist₀ par₀ keys₀ low₀ b k r₀ from dist' par' keys' low' (i + 1) r best
      scan_on L = go (by_columns L)
        where
          go : {x : Bool} → Lowered a e far best mate dist par keys low dist' par' keys' low' x → x ≡ false
              → Scanning h n T H W rows mate pi dist₀ par₀ keys₀ low₀ b k r₀ from dist' par' keys' low' (i + 1) r best
          go (Lowered.kept q ed ep ek el) y = record {
            dist_len = ap length ed ∙ G.dist_len;
            par_len = ap length ep ∙ G.par_len;
            start = omega (arith, G.start);
            grows = λ t nd j best₀ order I K N R.
                let g = G.grows t nd j best₀ order I K N R in
                let R' : Tree h n T H W mate pi t dist' par' order keys' k nd b best = rw (ed, ep, ek) g.3 in
                (rw (ek, el) g.0, rw ed g.1, rw ed g.2, R', seen_on g.1 g.3 R' (λ x. rw ed (omega arith)) (rw ed q) g.4);
          }
          go (Lowered.nearer q z ed ep ek el x) y = nearer q ed ep ek el r best (omega arith) (λ m. absurd (matched m)) (λ d N. stays d N)
            where
              matched : entry mate a ≢ no_arc
              matched m = false≢true (sym y ∙ x ∙ eq-eqb (entry mate a) no_arc m)

              stays : a < length dist → NearestExposed h mate dist r best → NearestExposed h mate (set dist a far) r best
              stays d (NearestExposed.some hr m p o) = NearestExposed.some hr m (⊎_elim (λ c. absurd (matched (subst (λ (v : ℕ). entry mate v ≡ no_arc) (c.0) m))) (λ c. c.1 ∙ p) (set_cases dist a far r d)) o
              stays d (NearestExposed.none p o) = NearestExposed.none p o

      -- a is exposed: it is the nearest exposed vertex
      pub scan_exposed : (z : ℕ) → z ≡ row_tail (entry rows i) → {x : Bool} → Looked dist' par' keys' low' x → x ≡ true
          → Scanning h n T H W rows mate pi dist₀ par₀ keys₀ low₀ b k r₀ from dist' par' keys' low' (i + 1) z (entry dist' z) × (k ≤ entry dist' z) × (z < length dist')
      scan_exposed z q L y = rw (q ∙ tail) (go (by_columns L) y)
        where
          go : {x : Bool} → Lowered a e far best mate dist par keys low dist' par' keys' low' x → x ≡ true
              → Scanning h n T H W rows mate pi dist₀ par₀ keys₀ low₀ b k r₀ from dist' par' keys' low' (i + 1) a (entry dist' a) × (k ≤ entry dist' a) × (a < length dist')
          go (Lowered.kept q ed ep ek el) y = absurd (false≢true y)
          go (Lowered.nearer q z ed ep ek el x) y = (nearer q ed ep ek el a (entry dist' a) (omega (arith, at_a)) (λ m. omega (arith, at_a)) is_nearest, omega (arith, at_a), rw ed (omega (arith, length-set dist a far, G.dist_len, ha)))
            where
              at_a : entry dist' a ≡ far
              at_a = rw ed (⊎_elim (λ p. p.1) (λ p. absurd (p.0 refl)) (set_cases dist a far a (omega (arith, G.dist_len, ha))))

              exposed : entry mate a ≡ no_arc
              exposed = eqb→eq _ _ (true→T _ (sym x ∙ y))

              below : NearestExposed h mate dist r best → best ≤ waits_not
              below (NearestExposed.some hr m p o) = omega arith
              below (NearestExposed.none p o) = omega arith

              is_nearest : a < length dist → NearestExposed h mate dist r best → NearestExposed h mate (set dist a far) a (entry dist' a)
              is_nearest d N = NearestExposed.some ha exposed (ap (λ (c : List ℕ). entry c a) (sym ed)) (omega (arith, at_a, below N))

  module _ {dist₀ par₀ keys₀ low₀ : List ℕ} {k r₀ : ℕ} {dist par keys low : List ℕ} {i r best : ℕ} (G : Scanning h n T H W rows mate pi dist₀ par₀ keys₀ low₀ b k r₀ from dist par keys low i r best) where
    -- the nearest exposed vertex is as near as b
    pub scan_found : k ≤ best → best ≤ k → k ≤ 2000000000 → Scanned h n T H W mate pi dist₀ par₀ keys₀ low₀ dist par keys low b k r₀ r
    scan_found f g s = record {
      dist_len = G.dist_len;
      par_len = G.par_len;
      grows = λ t nd j best₀ order I K N R. let x = G.grows t nd j best₀ order I K N R in (x.0, go t nd j order x.1 x.2 x.3);
    }
      where
        q : best ≡ k
        q = omega arith

        go : (t nd j : ℕ) (order : List ℕ) → InTree T mate dist order t b k j → NearestExposed h mate dist r best → Tree h n T H W mate pi t dist par order keys k nd b best
            → ScanEnd h n T H W mate pi t dist par order keys b k nd r
        go t nd j order I (NearestExposed.some hr m p o) R = ScanEnd.found hr m (p ∙ q) j I (subst (Tree h n T H W mate pi t dist par order keys k nd b) q R)
        go t nd j order I (NearestExposed.none p o) R = absurd (omega arith)

    module _ (q : entry rows (b + 1) ≤ i) (t nd j : ℕ) (order : List ℕ) (I : InTree T mate dist order t b k j) (R : Tree h n T H W mate pi t dist par order keys k nd b best)
        (seen : from < i → (p : ℕ) → entry rows b ≤ p → p < i → Seen T W pi dist b k best (row_number (entry rows p))) where
      -- each stands in the row
      to_b : (e : ℕ) → e < length T → entry H e ≡ b → Seen T W pi dist b k best e
      to_b e he z = go (subst (λ (v : ℕ). InRow rows v e) z (X.rows_are.all e (omega (arith, S.graph.heads_len)) (omega (arith, below_256))))
        where
          go : InRow rows b e → Seen T W pi dist b k best e
          go P = subst (Seen T W pi dist b k best) P.is (seen (started (dec_lt (entry rows b) from)) P.at P.from (omega (arith, P.before)))
            where
              started : Dec (entry rows b < from) → from < i
              started (yes y) = omega (arith, (X.here y).0)
              started (no y) = omega (arith, P.from, P.before)

      whole : Tree h n T H W mate pi t dist par order keys k nd n best
      whole = retold R (omega arith) R.ahead (λ e D l he J c. looked' e D l he J (ℕ_discrete (entry H e) b))
        where
          looked' : (e D l : ℕ) → e < length T → InTree T mate dist order t (entry H e) D l → Dec (entry H e ≡ b)
              → min (entry dist (entry T e)) best + entry pi (entry H e) ≤ D + entry pi (entry T e) + entry W e
          looked' e D l he J (no z) = R.looked e D l he J z
          looked' e D l he J (yes z) =
              omega (arith, to_b e he z, ap (entry pi) z, one_distance S R b D k l j (subst (λ (v : ℕ). InTree T mate dist order t v D l) z J) I)

    -- all arcs to b were looked at
    pub scan_end : entry rows (b + 1) ≤ i → Scanned h n T H W mate pi dist₀ par₀ keys₀ low₀ dist par keys low b k r₀ r
    scan_end q = record {
      dist_len = G.dist_len;
      par_len = G.par_len;
      grows = λ t nd j best₀ order I K N R. let g = G.grows t nd j best₀ order I K N R in (g.0, ScanEnd.all best g.2 (whole q t nd j order g.1 g.3 g.4));
    }
