-- The search from its start to its end: what holds before the arcs to a vertex are looked at, and what comes of it.
use mathlib.Core.Path.{◌≡◌, refl, sym, ◌∙◌, subst}
use mathlib.Core.List.{List}
use mathlib.Core.Logic.{◌⊎◌, inl, inr, ◌≢◌}
use Prim.Native.Nat.{ℕ, ◌+◌, ◌<◌, ◌≤◌, min}
use native.Mathlib.Omega.{arith}
use native.Mathlib.Decide.{dec_lt}
use borrow.Author.Tests.{lt-ltb}
use lib.ListN.{length, set, replicate, length-replicate, get_or-replicate}
use Rattle.std.specs.Prelude.{unwrap_or}
use Rattle.std.specs.declared.option.Option.{Option}
use Rattle.packed_arcs.specs.Entries.{entry, zero_list}
use Rattle.packed_arcs.proofs.LentParts.{zero_at}
use Rattle.packed_arcs.proofs.Zeros.{zeros_all}
use Rattle.arc_index.specs.ArcIndex.{no_arc}
use Rattle.vertex_queue.specs.VertexQueue.{waits_not, Kept, Holds, nobody, taken_out, least_vertex, least_entry}
use Rattle.vertex_queue.proofs.Laws.{begin_kept, take_kept, taken_key, take_least, vertex_below}
use Rattle.match_state.specs.Matching.{Noted, State}
use Rattle.match_slack.specs.Slack.{Lightest, Slack}
use Rattle.match_tree.specs.Tree.{InTree, Tree, exposed_distance, NearestExposed, ScanEnd, Scanned, Reached, SearchedBack}
use Rattle.match_search.specs.Bringing.{BroughtNear}
use Rattle.match_tree.proofs.TreeLaws.{retold, in_tree_near, one_distance}
use Rattle.match_tree.proofs.Scans.{nearest_distance}
use Rattle.match_search.proofs.TakenVertices as vertices
use Rattle.match_search.proofs.Reaching.{reached}

-- before the arcs to b, which came into the tree at the distance k, are looked at; r is the nearest exposed vertex that was found
pub record Growing (h n : ℕ) (T H W mate pi : List ℕ) (t : ℕ) (dist par order keys low : List ℕ) (b k nd r : ℕ) : Type 0 where
  pub kept : Kept keys low
  pub j : ℕ
  pub here : InTree T mate dist order t b k j
  pub best : ℕ
  pub nearest : NearestExposed h mate dist r best
  pub tree : Tree h n T H W mate pi t dist par order keys k nd b best
  pub right : h ≤ b
  pub below : b < n

-- where no vertex that was found stands for m, how many distances there are
pub rescanned : {T H W mate pi dist par keys low dist' par' keys' low' : List ℕ} {h n m b k : ℕ} (r₀ r : Option ℕ) → length dist ≡ m
    → Scanned h n T H W mate pi dist par keys low dist' par' keys' low' b k (unwrap_or r₀ (length dist)) (unwrap_or r (length dist))
    → Scanned h n T H W mate pi dist par keys low dist' par' keys' low' b k (unwrap_or r₀ m) (unwrap_or r m)
rescanned {T} {H} {W} {mate} {pi} {dist} {par} {keys} {low} {dist'} {par'} {keys'} {low'} {h} {n} {b = b} {k} r₀ r q s =
    subst (λ (m : ℕ). Scanned h n T H W mate pi dist par keys low dist' par' keys' low' b k (unwrap_or r₀ m) (unwrap_or r m)) q s

pub redistanced : (dist : List ℕ) {m d : ℕ} (r : Option ℕ) → length dist ≡ m → d ≡ exposed_distance dist (unwrap_or r (length dist)) → d ≡ exposed_distance dist (unwrap_or r m)
redistanced dist {d = d} r q e = subst (λ (m : ℕ). d ≡ exposed_distance dist (unwrap_or r m)) q e

module _ {h n : ℕ} {T H W mate pi : List ℕ} (S : State h n T H W mate pi) where
  -- nobody is reached
  pub growing_start : (t : ℕ) → h ≤ t → t < n → entry mate t ≡ no_arc → {dist par order keys low : List ℕ} → length par ≡ h
      → dist ≡ replicate h waits_not → order ≡ zero_list h → Holds keys low nobody → Growing h n T H W mate pi t dist par order keys low t 0 0 h
  growing_start t g l m {dist} {par} {order} {keys} {low} pl ed eo q =
      record { kept = rw (q.keys_are, q.low_are) begin_kept; j = 0; here = InTree.root refl refl refl; best = waits_not; nearest = NearestExposed.none refl refl; tree = start; right = g; below = l }
    where
      far : (a : ℕ) → a < h → entry dist a ≡ waits_not
      far a ha = rw ed (get_or-replicate h a waits_not 0 ha)

      none : (a : ℕ) → entry order a ≡ 0
      none a = rw eo (zero_at h a)

      key : (v : ℕ) → v < 256 → entry keys v ≡ waits_not
      key v hv = rw q.keys_are (get_or-replicate 256 v waits_not 0 hv)

      looked : (e D j : ℕ) → e < length T → InTree T mate dist order t (entry H e) D j → entry H e ≢ t → min (entry dist (entry T e)) waits_not + entry pi (entry H e) ≤ D + entry pi (entry T e) + entry W e
      looked e D j he (InTree.root x y z) c = absurd (c x)
      looked e D j he (InTree.matched x o y z) c = absurd (omega (arith, none (entry T (entry mate (entry H e)))))

      start : Tree h n T H W mate pi t dist par order keys 0 0 t waits_not
      start = record {
        dist_len = rw ed (length-replicate h waits_not);
        par_len = pl;
        order_len = rw eo (length-replicate h 0);
        keys_len = rw q.keys_are (length-replicate 256 waits_not);
        target = l;
        right = g;
        bare = m;
        parents = λ a ha x. absurd (omega (arith, far a ha));
        waits = λ a ha o. key a (omega (arith, S.graph.within, S.graph.small)) ∙ sym (far a ha);
        gone = λ a ha o. absurd (omega (arith, none a));
        nobody = λ v x y. omega (arith, key v y);
        most = λ a ha. omega (arith, far a ha);
        taken = λ a ha o. absurd (omega (arith, none a));
        ahead = λ a ha o. omega arith;
        looked = looked;
        least = λ a ha m. omega (arith, far a ha);
        near = λ a ha x. absurd (omega (arith, far a ha));
        not_below = λ a ha x. absurd (omega (arith, far a ha));
        count = rw eo (omega (arith, zeros_all h));
      }

  module _ {t : ℕ} {dist par order keys low : List ℕ} {b k nd r₀ : ℕ} (G : Growing h n T H W mate pi t dist par order keys low b k nd r₀) where
    -- no distance is near the greatest number
    pub small : k ≤ 2000000000
    small = omega (arith, in_tree_near S G.tree b k G.j G.right G.below G.here, S.range b G.below, G.tree.count, S.graph.within, S.graph.small)

    pub few : nd ≤ 254
    few = omega (arith, G.tree.count, G.tree.right, G.tree.target, S.graph.small)

    module _ {h' : ℕ} {dist' par' keys' low' : List ℕ} {r : ℕ} (same : h' ≡ h) (C' : Scanned h' n T H W mate pi dist par keys low dist' par' keys' low' b k r₀ r) where
      C : Scanned h n T H W mate pi dist par keys low dist' par' keys' low' b k r₀ r
      C = subst (λ (z : ℕ). Scanned z n T H W mate pi dist par keys low dist' par' keys' low' b k r₀ r) same C'

      at_most : h ≤ 255
      at_most = omega (arith, S.graph.within, S.graph.small)

      end : Kept keys' low' × ScanEnd h n T H W mate pi t dist' par' order keys' b k nd r
      end = C.grows t nd G.j G.best order G.here G.kept G.nearest G.tree

      dist_long : length dist' ≡ h
      dist_long = C.dist_len ∙ G.tree.dist_len

      -- the least key is that of a vertex that waits, and none is less
      first_waits : entry keys' (least_vertex keys' low') ≡ least_entry low' 0
      first_waits = taken_key keys' low' end.0

      least : (u : ℕ) → u < 256 → entry keys' (least_vertex keys' low') ≤ entry keys' u
      least u x = take_least keys' low' end.0 u x

      -- the least key is at least k, and a distance or that of nobody
      module _ {cur best : ℕ} (R : Tree h n T H W mate pi t dist' par' order keys' k nd cur best) where
        first : (k ≤ least_entry low' 0) × ((least_entry low' 0 ≤ 2000000000) ⊎ (waits_not ≤ least_entry low' 0))
        first = go (dec_lt v h) (dec_lt 0 (entry order v)) (dec_lt (entry dist' v) waits_not)
          where
            v : ℕ
            v = least_vertex keys' low'

            go : Dec (v < h) → Dec (0 < entry order v) → Dec (entry dist' v < waits_not) → (k ≤ least_entry low' 0) × ((least_entry low' 0 ≤ 2000000000) ⊎ (waits_not ≤ least_entry low' 0))
            go (no x) y z = let q = R.nobody v (omega arith) (vertex_below keys' low') in (omega (arith, small, q, first_waits), inr (omega (arith, q, first_waits)))
            go (yes x) (yes y) z = let q = R.gone v x y in (omega (arith, small, q, first_waits), inr (omega (arith, q, first_waits)))
            go (yes x) (no y) (no z) = let q = R.waits v x (omega arith) in (omega (arith, small, q, first_waits), inr (omega (arith, q, first_waits)))
            go (yes x) (no y) (yes z) =
                let q = R.waits v x (omega arith) in
                (omega (arith, q, first_waits, R.ahead v x (omega arith)), inl (omega (arith, q, first_waits, R.near v x z, S.range v (omega (arith, S.graph.within)), R.count, at_most)))

        untaken_far : (c : ℕ) → c < h → entry order c ≡ 0 → least_entry low' 0 ≤ entry dist' c
        untaken_far c hc o = omega (arith, first_waits, least c (omega (arith, at_most)), R.waits c hc o)

        -- the same search, once nothing nearer than the least key waits
        later : Tree h n T H W mate pi t dist' par' order keys' (least_entry low' 0) nd cur best
        later = retold R first.0 untaken_far R.looked

        -- an exposed vertex that was found waits
        exposed_waits : (v : ℕ) → v < h → entry mate v ≡ no_arc → least_entry low' 0 ≤ entry dist' v
        exposed_waits v l m = go (dec_lt 0 (entry order v))
          where
            go : Dec (0 < entry order v) → least_entry low' 0 ≤ entry dist' v
            go (yes x) = absurd (omega (arith, (R.taken v l x).mated))
            go (no x) = untaken_far v l (omega arith)

      -- ---- an exposed vertex is near enough

      module _ {s : ℕ} {lightest : List ℕ} (len : length lightest ≡ h) (Y : Lightest T W lightest) (Z : Slack lightest mate pi s) {dist'' : List ℕ} {best' k' : ℕ}
          (eb : best' ≡ exposed_distance dist' r) (ek : k' ≡ least_entry low' 0) (q' : best' ≤ k' + s) (L' : BroughtNear best' k' mate dist' dist'') where
        q : exposed_distance dist' r ≤ least_entry low' 0 + s
        q = omega (arith, q', eb, ek)

        L : BroughtNear (exposed_distance dist' r) (least_entry low' 0) mate dist' dist''
        L = subst (λ (z : ℕ). BroughtNear z (least_entry low' 0) mate dist' dist'') eb (subst (λ (z : ℕ). BroughtNear best' z mate dist' dist'') ek L')

        near : {cur best : ℕ} → Tree h n T H W mate pi t dist' par' order keys' k nd cur best → r < h → entry mate r ≡ no_arc → entry dist' r ≡ best → best < waits_not
            → ((D j : ℕ) → cur < n → InTree T mate dist' order t cur D j → best ≤ D) → Reached h n T H W mate pi t dist'' par' order r
        near {cur} {best} R hr m d o last = reached S (later R) r hr m d o (omega (arith, exposed_waits R r hr m, d)) last dear
            (λ c b g l x. omega (arith, q, is, Z.small (omega (arith, q, is, c)) b (omega (arith, len, g)) (omega (arith, l, S.priced.len)) x))
            (subst (λ (z : ℕ). BroughtNear z (least_entry low' 0) mate dist' dist'') is L)
          where
            is : exposed_distance dist' r ≡ best
            is = rw (lt-ltb r (length dist') (omega (arith, dist_long))) d

            dear : least_entry low' 0 < best → (e : ℕ) → e < length T → entry mate (entry T e) ≡ no_arc → entry mate (entry H e) < no_arc → best + entry pi (entry H e) ≤ least_entry low' 0 + entry W e
            dear c e he z x = omega (
              arith,
              q,
              is,
              Y.least e he,
              Z.dearer (omega (arith, q, is, c)) (entry T e) (entry H e) (omega (arith, len, S.graph.from_left e he)) z (omega (arith, len, S.graph.to_right e he))
                  (omega (arith, S.graph.below e he, S.priced.len)) x,
            )

        pub ended : SearchedBack h n T H W mate pi t dist'' par' order r
        ended = go end.1
          where
            go : ScanEnd h n T H W mate pi t dist' par' order keys' b k nd r → SearchedBack h n T H W mate pi t dist'' par' order r
            go (ScanEnd.found hr m d j I R) = SearchedBack.reached (near R hr m d (omega (arith, small)) (λ D i x J. omega (arith, one_distance S R b D k i j J I)))
            go (ScanEnd.all best N R) = by N
              where
                by : NearestExposed h mate dist' r best → SearchedBack h n T H W mate pi t dist'' par' order r
                by (NearestExposed.some hr m d o) = SearchedBack.reached (near R hr m d o (λ D j x I. absurd (omega arith)))
                by (NearestExposed.none p o) = stays (first R).1 L
                  where
                    none : exposed_distance dist' r ≡ waits_not
                    none = nearest_distance dist_long N ∙ o

                    stays : (least_entry low' 0 ≤ 2000000000) ⊎ (waits_not ≤ least_entry low' 0) → BroughtNear (exposed_distance dist' r) (least_entry low' 0) mate dist' dist''
                        → SearchedBack h n T H W mate pi t dist'' par' order r
                    stays (inl x) y = absurd (omega (arith, q, none, Z.most))
                    stays (inr x) (BroughtNear.brought y u f) = absurd (omega (arith, none))
                    stays (inr x) (BroughtNear.kept y e) = rw e (SearchedBack.stuck p keys' k nd (subst (Tree h n T H W mate pi t dist' par' order keys' k nd n) o R)
                        (λ a ha z. omega (arith, x, untaken_far R a ha z)))

      -- ---- who waits is nearer

      module _ (q : least_entry low' 0 < exposed_distance dist' r) where
        abbrev a : ℕ
        a = least_vertex keys' low'

        -- all arcs were looked at, and a, which waits, is nearer than the nearest exposed vertex
        record Waiting : Type 0 where
          best : ℕ
          nearest : NearestExposed h mate dist' r best
          tree : Tree h n T H W mate pi t dist' par' order keys' k nd n best
          nearer : least_entry low' 0 < best

        waiting : Waiting
        waiting = go end.1
          where
            go : ScanEnd h n T H W mate pi t dist' par' order keys' b k nd r → Waiting
            go (ScanEnd.all best N R) = record { best = best; nearest = N; tree = R; nearer = omega (arith, q, nearest_distance dist_long N) }
            go (ScanEnd.found hr m d j I R) = absurd (omega (arith, q, (first R).0, at_r))
              where
                at_r : exposed_distance dist' r ≡ k
                at_r = rw (lt-ltb r (length dist') (omega (arith, dist_long))) d

        R' : Tree h n T H W mate pi t dist' par' order keys' k nd n waiting.best
        R' = waiting.tree

        below_none : waiting.best ≤ waits_not
        below_none = go waiting.nearest
          where
            go : NearestExposed h mate dist' r waiting.best → waiting.best ≤ waits_not
            go (NearestExposed.some x m d o) = omega arith
            go (NearestExposed.none x o) = omega arith

        wait : entry keys' a < waits_not
        wait = omega (arith, first_waits, waiting.nearer, below_none)

        -- the vertex that is taken is a left one
        pub left : a < h
        left = go (dec_lt a h)
          where
            go : Dec (a < h) → a < h
            go (yes x) = x
            go (no x) = absurd (omega (arith, wait, R'.nobody a (omega arith) (vertex_below keys' low')))

        distance : least_entry low' 0 ≡ entry dist' a
        distance = sym first_waits ∙ vertices.key_is S R' a left wait least

        -- and it is matched
        N : Noted T H mate a (entry mate a)
        N = go (S.pairs.each a (omega (arith, left, S.graph.within)))
          where
            go : (entry mate a ≡ no_arc) ⊎ Noted T H mate a (entry mate a) → Noted T H mate a (entry mate a)
            go (inl x) = absurd (omega (arith, distance, waiting.nearer, R'.least a left x))
            go (inr x) = x

        pub matched_arc : entry mate a < length T
        matched_arc = N.arc

        m : entry mate a < no_arc
        m = omega (arith, matched_arc, S.graph.few)

        pub growing_on : {keys'' low'' : List ℕ} → Holds keys'' low'' (taken_out keys' low')
            → Growing h n T H W mate pi t dist' par' (set order a (nd + 1)) keys'' low'' (entry H (entry mate a)) (least_entry low' 0) (nd + 1) r
        growing_on {keys''} {low''} x = rw (x.keys_are, x.low_are, distance) (record {
          kept = take_kept keys' low' end.0;
          j = nd + 1;
          here = vertices.here S R' a left wait least m;
          best = waiting.best;
          nearest = waiting.nearest;
          tree = vertices.goes_on S R' a left wait least m;
          right = S.graph.to_right (entry mate a) matched_arc;
          below = S.graph.below (entry mate a) matched_arc;
        })
