-- The matching grows by one arc: each step matches a left vertex by its parent arc, and exposes the one that was matched to the head of it.
use mathlib.Core.Path.{◌≡◌, refl, sym, ◌∙◌, ap, subst}
use mathlib.Core.List.{List}
use mathlib.Core.Logic.{◌⊎◌, inl, inr, ◌≢◌, ⊎_elim}
use Prim.Native.Nat.{ℕ, ◌+◌, ◌<◌, ◌≤◌}
use native.Mathlib.Omega.{arith}
use lib.ListN.{length, set, length-set}
use Rattle.packed_arcs.specs.Entries.{entry}
use Rattle.packed_arcs.proofs.ListLoops.{set_cases}
use Rattle.arc_index.specs.ArcIndex.{no_arc}
use Rattle.match_state.specs.Matching.{Noted, State}
use Rattle.match_augmenting.specs.Augmenting.{Onward, Alternating, Augmented}
use Rattle.match_state.proofs.Pairs.{noted}

module _ {h n : ℕ} {T H W mate pi par order : List ℕ} {t a : ℕ} (A : Alternating h n T H W mate pi par order t a) where
  abbrev e : ℕ
  e = entry par a

  pub next : Onward T H W mate pi order t a e
  next = A.path a A.left A.first (omega arith)

  abbrev b : ℕ
  b = entry H e

  pub b_right : h ≤ b
  b_right = A.graph.to_right e next.arc

  pub b_below : b < n
  b_below = A.graph.below e next.arc

  a_below : a < n
  a_below = omega (arith, A.left, A.graph.within)

  small : e < no_arc
  small = omega (arith, next.arc, A.graph.few)

  -- both ends of the arc e are given it
  abbrev given : List ℕ
  given = set (set mate a e) b e

  given_at : (v : ℕ) → (((v ≡ a) ⊎ (v ≡ b)) × (entry given v ≡ e)) ⊎ ((v ≢ a) × (v ≢ b) × (entry given v ≡ entry mate v))
  given_at v = ⊎_elim
      (λ p. inl (inr (p.0), p.1))
      (λ p. ⊎_elim (λ q. inl (inl (q.0), p.1 ∙ q.1)) (λ q. inr (q.0, p.0, p.1 ∙ q.1)) (set_cases mate a e v (omega (arith, A.pairs.len, a_below))))
      (set_cases (set mate a e) b e v (omega (arith, length-set mate a e, A.pairs.len, b_below)))

  given_len : length given ≡ n
  given_len = length-set (set mate a e) b e ∙ length-set mate a e ∙ A.pairs.len

  at_a : entry given a ≡ e
  at_a = ⊎_elim (λ p. p.1) (λ p. absurd (p.0 refl)) (given_at a)

  at_b : entry given b ≡ e
  at_b = ⊎_elim (λ p. p.1) (λ p. absurd (p.1 refl)) (given_at b)

  -- an arc that was matched and has no end at a or b is matched still
  other : (v : ℕ) → Noted T H mate v (entry mate v) → (m : List ℕ) → entry m v ≡ entry mate v
      → entry m (entry T (entry mate v)) ≡ entry mate (entry T (entry mate v)) → entry m (entry H (entry mate v)) ≡ entry mate (entry H (entry mate v)) → Noted T H m v (entry m v)
  other v N m q x y = subst (Noted T H m v) (sym q) (record { arc = N.arc; end = N.end; at_tail = x ∙ N.at_tail; at_head = y ∙ N.at_head })

  -- no matched arc ends at a
  not_a : (v : ℕ) → Noted T H mate v (entry mate v) → (entry T (entry mate v) ≢ a) × (entry H (entry mate v) ≢ a)
  not_a v N = (
    (λ z. omega (arith, N.arc, A.graph.few, N.at_tail, ap (entry mate) z, A.bare)),
    (λ z. omega (arith, N.arc, A.graph.few, N.at_head, ap (entry mate) z, A.bare)),
  )

  tail_not_b : (g : ℕ) → g < length T → entry T g ≢ b
  tail_not_b g l z = omega (arith, A.graph.from_left g l, b_right)

  -- tight, where a vertex has e or what it had
  tight : (m : List ℕ) (v : ℕ) → v < n → (entry m v ≡ e) ⊎ (entry m v ≡ entry mate v) → entry m v < no_arc → entry pi (entry H (entry m v)) ≡ entry pi (entry T (entry m v)) + entry W (entry m v)
  tight m v l (inl q) s = subst (λ (z : ℕ). entry pi (entry H z) ≡ entry pi (entry T z) + entry W z) (sym q) (next.tight ∙ ap (λ (z : ℕ). entry pi z + entry W e) (sym next.tail))
  tight m v l (inr q) s = subst (λ (z : ℕ). entry pi (entry H z) ≡ entry pi (entry T z) + entry W z) (sym q) (A.priced.tight v l (omega arith))

  -- ---- the head of the arc was exposed: it is the root

  module _ (f : no_arc ≤ entry mate b) where
    is_root : b ≡ t
    is_root = ⊎_elim (λ z. z) (λ p. absurd (omega (arith, p.0))) next.on

    pairs_end : (v : ℕ) → v < n → (entry given v ≡ no_arc) ⊎ Noted T H given v (entry given v)
    pairs_end v l = ⊎_elim
        (λ p. inr (subst (Noted T H given v) (sym (p.1)) (record {
          arc = next.arc;
          end = ⊎_elim (λ z. inl (next.tail ∙ sym z)) (λ z. inr (sym z)) (p.0);
          at_tail = ap (entry given) next.tail ∙ at_a;
          at_head = at_b;
        })))
        (λ p. ⊎_elim (λ z. inl (p.2 ∙ z)) (λ N. inr (other v N given (p.2) (same (entry T (entry mate v)) (not_a v N).0 (tail_not_b (entry mate v) N.arc)) (same (entry H (entry mate v)) (not_a v N).1 (not_b v N)))) (A.pairs.each v l))
        (given_at v)
      where
        same : (w : ℕ) → w ≢ a → w ≢ b → entry given w ≡ entry mate w
        same w x y = ⊎_elim (λ p. absurd (⊎_elim x y (p.0))) (λ p. p.2) (given_at w)

        not_b : (v : ℕ) → Noted T H mate v (entry mate v) → entry H (entry mate v) ≢ b
        not_b v N z = omega (arith, N.arc, A.graph.few, N.at_head, ap (entry mate) z, f)

    state : State h n T H W given pi
    state = record {
      graph = A.graph;
      pairs = record { len = given_len; each = pairs_end };
      priced = record {
        len = A.priced.len;
        feasible = A.priced.feasible;
        tight = λ v l s. tight given v l (⊎_elim (λ p. inl (p.1)) (λ p. inr (p.2)) (given_at v)) s;
      };
      exposed = λ c l m. ⊎_elim (λ p. absurd (omega (arith, p.1, small))) (λ p. A.exposed c l (sym (p.2) ∙ m) (p.0)) (given_at c);
      range = A.range;
    }

    pub augmented : (mate₀ : List ℕ) → ((v : ℕ) → h ≤ v → v < n → entry mate₀ v < no_arc → entry mate v < no_arc) → Augmented h n T H W mate₀ pi t given
    augmented mate₀ kept = record {
      state = state;
      root = omega (arith, at_b, ap (entry given) is_root, small);
      kept = λ v g l m. ⊎_elim (λ p. omega (arith, p.1, small)) (λ p. omega (arith, p.2, kept v g l m)) (given_at v);
    }

  -- ---- it was matched

  module _ (f : entry mate b < no_arc) where
    N₀ : Noted T H mate b (entry mate b)
    N₀ = noted A.pairs b b_below f

    abbrev a' : ℕ
    a' = entry T (entry mate b)

    pub a'_left : a' < h
    a'_left = A.graph.from_left (entry mate b) N₀.arc

    pub freed_arc : entry mate b < length T
    freed_arc = N₀.arc

    head_b : entry H (entry mate b) ≡ b
    head_b = ⊎_elim (λ z. absurd (omega (arith, a'_left, b_right))) (λ z. z) N₀.end

    a'_has : entry mate a' ≡ entry mate b
    a'_has = N₀.at_tail

    a'≢a : a' ≢ a
    a'≢a z = omega (arith, ap (entry mate) z, a'_has, A.bare)

    -- who was matched to b is exposed
    abbrev freed : List ℕ
    freed = set given a' no_arc

    freed_at : (v : ℕ) → ((v ≡ a') × (entry freed v ≡ no_arc)) ⊎ ((v ≢ a') × (entry freed v ≡ entry given v))
    freed_at v = set_cases given a' no_arc v (omega (arith, given_len, a'_left, A.graph.within))

    freed_a : entry freed a ≡ e
    freed_a = ⊎_elim (λ p. absurd (a'≢a (sym (p.0)))) (λ p. p.1 ∙ at_a) (freed_at a)

    freed_b : entry freed b ≡ e
    freed_b = ⊎_elim (λ p. absurd (omega (arith, a'_left, b_right))) (λ p. p.1 ∙ at_b) (freed_at b)

    same : (w : ℕ) → w ≢ a → w ≢ b → w ≢ a' → entry freed w ≡ entry mate w
    same w x y z = ⊎_elim (λ p. absurd (z (p.0))) (λ p. p.1 ∙ ⊎_elim (λ q. absurd (⊎_elim x y (q.0))) (λ q. q.2) (given_at w)) (freed_at w)

    -- the arc of another vertex ends neither at b nor at a'
    apart : (v : ℕ) → v ≢ b → v ≢ a' → (N : Noted T H mate v (entry mate v)) → (entry H (entry mate v) ≢ b) × (entry T (entry mate v) ≢ a')
    apart v x y N = (
      (λ z. ⊎_elim y x (ends (sym N.at_head ∙ ap (entry mate) z))),
      (λ z. ⊎_elim y x (ends (sym N.at_tail ∙ ap (entry mate) z ∙ a'_has))),
    )
      where
        ends : entry mate v ≡ entry mate b → (v ≡ a') ⊎ (v ≡ b)
        ends q = ⊎_elim (λ z. inl (sym z ∙ ap (entry T) q)) (λ z. inr (sym z ∙ ap (entry H) q ∙ head_b)) N.end

    head_left : (g : ℕ) → g < length T → entry H g ≢ a'
    head_left g l z = omega (arith, A.graph.to_right g l, a'_left)

    pairs_on : (v : ℕ) → v < n → (entry freed v ≡ no_arc) ⊎ Noted T H freed v (entry freed v)
    pairs_on v l = ⊎_elim
        (λ p. inl (p.1))
        (λ p. ⊎_elim
        (λ q. inr (subst (Noted T H freed v) (sym (p.1 ∙ q.1)) (record {
          arc = next.arc;
          end = ⊎_elim (λ z. inl (next.tail ∙ sym z)) (λ z. inr (sym z)) (q.0);
          at_tail = ap (entry freed) next.tail ∙ freed_a;
          at_head = freed_b;
        })))
        (λ q. ⊎_elim (λ z. inl (p.1 ∙ q.2 ∙ z)) (λ N. inr (other v N freed (p.1 ∙ q.2)
        (same (entry T (entry mate v)) (not_a v N).0 (tail_not_b (entry mate v) N.arc) (apart v (q.1) (p.0) N).1)
        (same (entry H (entry mate v)) (not_a v N).1 (apart v (q.1) (p.0) N).0 (head_left (entry mate v) N.arc)))) (A.pairs.each v l))
        (given_at v))
        (freed_at v)

    -- the next vertex was taken before a
    earlier : (0 < entry order a') × (entry order a' < entry order a)
    earlier = ⊎_elim (λ z. absurd (omega (arith, ap (entry mate) z, A.open_root))) (λ p. (p.1, p.2)) next.on

    pub shorter : entry order a' < entry order a
    shorter = earlier.1

    -- parent arcs of vertices that were taken no later lead on as they did
    onward : (c : ℕ) → c < h → 0 < entry order c → entry order c ≤ entry order a' → Onward T H W freed pi order t c (entry par c)
    onward c l o q =
        record { arc = P.arc; tail = P.tail; tight = P.tight; on = ⊎_elim inl (λ p. inr (rw (kept (p.0) (p.2)) p)) P.on }
      where
        P : Onward T H W mate pi order t c (entry par c)
        P = A.path c l o (omega (arith, shorter))

        kept : entry mate (entry H (entry par c)) < no_arc → entry order (entry T (entry mate (entry H (entry par c)))) < entry order c → entry freed (entry H (entry par c)) ≡ entry mate (entry H (entry par c))
        kept m x = same (entry H (entry par c))
            (λ z. omega (arith, A.graph.to_right (entry par c) P.arc, A.left))
            (λ z. omega (arith, ap (λ (k : ℕ). entry order (entry T (entry mate k))) z))
            (head_left (entry par c) P.arc)

    pub alternates : Alternating h n T H W freed pi par order t a'
    alternates = record {
      graph = A.graph;
      pairs = record { len = length-set given a' no_arc ∙ given_len; each = pairs_on };
      priced = record {
        len = A.priced.len;
        feasible = A.priced.feasible;
        tight = λ v l s. tight freed v l (⊎_elim (λ p. absurd (omega (arith, p.1))) (λ p. ⊎_elim (λ q. inl (p.1 ∙ q.1)) (λ q. inr (p.1 ∙ q.2)) (given_at v)) (freed_at v)) s;
      };
      range = A.range;
      exposed = λ c l m z. ⊎_elim
          (λ p. absurd (z (p.0)))
          (λ p. ⊎_elim (λ q. absurd (omega (arith, p.1, q.1, small))) (λ q. A.exposed c l (sym (q.2) ∙ sym (p.1) ∙ m) (q.0)) (given_at c))
          (freed_at c);
      left = a'_left;
      bare = ⊎_elim (λ p. p.1) (λ p. absurd (p.0 refl)) (freed_at a');
      first = earlier.0;
      right = A.right;
      below = A.below;
      open_root = same t (λ z. omega (arith, A.left, A.right)) (λ z. omega (arith, ap (entry mate) z, A.open_root)) (λ z. omega (arith, a'_left, A.right)) ∙ A.open_root;
      par_len = A.par_len;
      order_len = A.order_len;
      path = onward;
    }

    -- right vertices stay matched
    pub still : (v : ℕ) → h ≤ v → entry mate v < no_arc → entry freed v < no_arc
    still v g m = ⊎_elim
        (λ p. absurd (omega (arith, a'_left)))
        (λ p. ⊎_elim (λ q. omega (arith, p.1, q.1, small)) (λ q. omega (arith, p.1, q.2)) (given_at v))
        (freed_at v)
