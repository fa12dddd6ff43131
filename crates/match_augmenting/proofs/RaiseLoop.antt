-- Potentials that rise pair by pair: a left vertex and what it is matched to; then the root.
use mathlib.Core.Path.{◌≡◌, refl, sym, ◌∙◌, ap, subst}
use mathlib.Core.List.{List}
use mathlib.Core.Logic.{◌⊎◌, inl, inr, ◌≢◌, ⊎_elim}
use Prim.Native.Nat.{ℕ, ◌+◌, ◌-◌, ◌<◌, ◌≤◌}
use native.Mathlib.Omega.{arith}
use native.Mathlib.Decide.{ℕ_discrete, dec_lt}
use borrow.Author.Tests.{lt-ltb, le-ltb, eq-eqb, ne_eqb, le-leb, lt-leb}
use lib.ListN.{length, length-set}
use Rattle.packed_arcs.specs.Entries.{entry}
use Rattle.packed_arcs.proofs.ListLoops.{set_cases}
use Rattle.arc_index.specs.ArcIndex.{no_arc}
use Rattle.match_state.specs.Matching.{Noted, State}
use Rattle.match_state.proofs.Pairs.{left_end, right_end, noted}
use Rattle.match_augmenting.specs.Augmenting.{lifted, pair_raised, LowPair, rise_of, Raised}

-- the vertex v rises with the left vertex c: it is c, or is matched to it
data RisesWith (h : ℕ) (T mate : List ℕ) (v c : ℕ) : Type 0 where
  itself : v < h → c ≡ v → RisesWith h T mate v c
  matched : h ≤ v → entry mate v < no_arc → c ≡ entry T (entry mate v) → RisesWith h T mate v c

-- those that rise with a left vertex below a rose, the others are as they were
pub record Rising (h : ℕ) (T mate dist : List ℕ) (d : ℕ) (pi₀ pi : List ℕ) (a : ℕ) : Type 0 where
  pub len : length pi ≡ length pi₀
  done : (v c : ℕ) → v < length pi₀ → RisesWith h T mate v c → c < a → entry pi v ≡ entry pi₀ v + (d - entry dist c)
  later : (v c : ℕ) → v < length pi₀ → RisesWith h T mate v c → a ≤ c → entry pi v ≡ entry pi₀ v
  alone : (v : ℕ) → v < length pi₀ → h ≤ v → no_arc ≤ entry mate v → entry pi v ≡ entry pi₀ v

pub rising_start : (h : ℕ) (T mate dist : List ℕ) (d : ℕ) (pi : List ℕ) → Rising h T mate dist d pi pi 0
rising_start h T mate dist d pi = record { len = refl; done = λ v c l w s. absurd (omega arith); later = λ v c l w s. refl; alone = λ v l g m. refl }

with_one : {h : ℕ} {T mate : List ℕ} {v c c' : ℕ} → RisesWith h T mate v c → RisesWith h T mate v c' → c ≡ c'
with_one (RisesWith.itself l p) (RisesWith.itself k q) = p ∙ sym q
with_one (RisesWith.itself l p) (RisesWith.matched k m q) = absurd (omega arith)
with_one (RisesWith.matched l m p) (RisesWith.itself k q) = absurd (omega arith)
with_one (RisesWith.matched l m p) (RisesWith.matched k n q) = p ∙ sym q

module _ {h : ℕ} {T H W mate dist : List ℕ} {d : ℕ} {pi₀ pi : List ℕ} (S : State h (length pi₀) T H W mate pi₀)
    {a : ℕ} (R : Rising h T mate dist d pi₀ pi a) where
  module _ (left : a < h) (bare : entry mate a ≡ no_arc → d ≤ entry dist a) where
    -- ---- a rises: it is matched to b

    module _ (near : entry dist a < d) where
      N : Noted T H mate a (entry mate a)
      N = ⊎_elim (λ z. absurd (omega (arith, bare z))) (λ x. x) (S.pairs.each a (omega (arith, S.graph.within)))

      abbrev b : ℕ
      b = entry H (entry mate a)

      b_right : h ≤ b
      b_right = S.graph.to_right (entry mate a) N.arc

      b_below : b < length pi₀
      b_below = S.graph.below (entry mate a) N.arc

      a_below : a < length pi₀
      a_below = omega (arith, S.graph.within)

      b_mated : entry mate b < no_arc
      b_mated = omega (arith, N.at_head, N.arc, S.graph.few)

      a_with : RisesWith h T mate a a
      a_with = RisesWith.itself left refl

      b_with : RisesWith h T mate b a
      b_with = RisesWith.matched b_right b_mated (sym (ap (entry T) N.at_head ∙ left_end S.graph a left N))

      -- nobody else rises with a
      pair_only : (v : ℕ) → v < length pi₀ → RisesWith h T mate v a → (v ≡ a) ⊎ (v ≡ b)
      pair_only v l (RisesWith.itself k p) = inl (sym p)
      pair_only v l (RisesWith.matched k m p) =
          let M = noted S.pairs v l m in
          inr (sym (right_end S.graph v k M) ∙ ap (entry H) (sym M.at_tail ∙ ap (entry mate) (sym p)))

      pub low_pair : {m : ℕ} → length T ≡ m → LowPair H mate m pi a
      low_pair e = record {
        listed = omega (arith, S.pairs.len, a_below);
        arc = omega (arith, N.arc);
        near = omega (arith, R.len, a_below);
        far = omega (arith, R.len, b_below);
        apart = λ z. omega (arith, b_right);
        low = omega (arith, R.later a a a_below a_with (omega arith), S.range a a_below);
        low_far = omega (arith, R.later b a b_below b_with (omega arith), S.range b b_below);
      }

      abbrev up : ℕ
      up = d - entry dist a

      abbrev pair_up : List ℕ
      pair_up = lifted up b (lifted up a pi)

      pair_at : (v : ℕ) → (((v ≡ a) ⊎ (v ≡ b)) × (entry pair_up v ≡ entry pi v + up)) ⊎ ((v ≢ a) × (v ≢ b) × (entry pair_up v ≡ entry pi v))
      pair_at v = ⊎_elim
          (λ p. inl (inr (p.0), omega (arith, p.1, ap (entry pi) (p.0), head_kept)))
          (λ p. ⊎_elim (λ q. inl (inl (q.0), omega (arith, p.1, q.1, ap (entry pi) (q.0)))) (λ q. inr (q.0, p.0, p.1 ∙ q.1)) (a_up v))
          (set_cases (lifted up a pi) b (entry (lifted up a pi) b + up) v (omega (arith, length-set pi a (entry pi a + up), R.len, b_below)))
        where
          a_up : (w : ℕ) → ((w ≡ a) × (entry (lifted up a pi) w ≡ entry pi a + up)) ⊎ ((w ≢ a) × (entry (lifted up a pi) w ≡ entry pi w))
          a_up w = set_cases pi a (entry pi a + up) w (omega (arith, R.len, a_below))

          head_kept : entry (lifted up a pi) b ≡ entry pi b
          head_kept = ⊎_elim (λ p. absurd (omega (arith, b_right, p.0))) (λ p. p.1) (a_up b)

      rising_pair : Rising h T mate dist d pi₀ pair_up (a + 1)
      rising_pair = record {
        len = length-set (lifted up a pi) b (entry (lifted up a pi) b + up) ∙ length-set pi a (entry pi a + up) ∙ R.len;
        done = λ v c l w s. go v c l w (ℕ_discrete c a) s;
        later = λ v c l w s. ⊎_elim (λ p. absurd (omega (arith, with_a v c w (p.0)))) (λ p. p.2 ∙ R.later v c l w (omega arith)) (pair_at v);
        alone = λ v l g m. ⊎_elim (λ p. absurd (not_alone v g m (p.0))) (λ p. p.2 ∙ R.alone v l g m) (pair_at v);
      }
        where
          with_a : (v c : ℕ) → RisesWith h T mate v c → (v ≡ a) ⊎ (v ≡ b) → c ≡ a
          with_a v c w (inl p) = with_one w (subst (λ (z : ℕ). RisesWith h T mate z a) (sym p) a_with)
          with_a v c w (inr p) = with_one w (subst (λ (z : ℕ). RisesWith h T mate z a) (sym p) b_with)

          not_alone : (v : ℕ) → h ≤ v → no_arc ≤ entry mate v → (v ≡ a) ⊎ (v ≡ b) → ⊥
          not_alone v g m (inl p) = omega arith
          not_alone v g m (inr p) = omega (arith, b_mated, ap (entry mate) p)

          go : (v c : ℕ) → v < length pi₀ → RisesWith h T mate v c → Dec (c ≡ a) → c < a + 1 → entry pair_up v ≡ entry pi₀ v + (d - entry dist c)
          go v c l w (yes e) s =
              ⊎_elim
              (λ p. omega (arith, p.1, R.later v c l w (omega arith), ap (entry dist) e))
              (λ p. absurd (⊎_elim (p.0) (p.1) (pair_only v l (subst (RisesWith h T mate v) e w))))
              (pair_at v)
          go v c l w (no e) s = ⊎_elim (λ p. absurd (e (with_a v c w (p.0)))) (λ p. p.2 ∙ R.done v c l w (omega arith)) (pair_at v)

    -- ---- a does not rise

    rising_none : d ≤ entry dist a → Rising h T mate dist d pi₀ pi (a + 1)
    rising_none far = record {
      len = R.len;
      done = λ v c l w s. go v c l w (ℕ_discrete c a) s;
      later = λ v c l w s. R.later v c l w (omega arith);
      alone = R.alone;
    }
      where
        go : (v c : ℕ) → v < length pi₀ → RisesWith h T mate v c → Dec (c ≡ a) → c < a + 1 → entry pi v ≡ entry pi₀ v + (d - entry dist c)
        go v c l w (yes e) s = omega (arith, R.later v c l w (omega arith), ap (entry dist) e)
        go v c l w (no e) s = R.done v c l w (omega arith)

    pub rising_turn : Rising h T mate dist d pi₀ (pair_raised H mate dist d a pi) (a + 1)
    rising_turn = go (dec_lt (entry dist a) d)
      where
        go : Dec (entry dist a < d) → Rising h T mate dist d pi₀ (pair_raised H mate dist d a pi) (a + 1)
        go (yes q) = rw (lt-leb d (entry dist a) q) (rising_pair q)
        go (no q) = let far : d ≤ entry dist a = omega arith in rw (le-leb d (entry dist a) far) (rising_none far)

  -- ---- every pair rose: the root is last

  module _ (all : h ≤ a) (t : ℕ) (right : h ≤ t) (below : t < length pi₀) (bare : entry mate t ≡ no_arc) where
    pub root_low : entry pi t ≤ 8322818
    root_low = omega (arith, R.alone t below right (omega arith), S.range t below)

    rise_other : (v : ℕ) → v < length pi₀ → v ≢ t → entry pi v ≡ entry pi₀ v + rise_of h T mate dist t d v
    rise_other v l z = go (dec_lt v h) (dec_lt (entry mate v) no_arc)
      where
        go : Dec (v < h) → Dec (entry mate v < no_arc) → entry pi v ≡ entry pi₀ v + rise_of h T mate dist t d v
        go (yes q) m = rw (lt-ltb v h q) (R.done v v l (RisesWith.itself q refl) (omega arith))
        go (no q) (yes m) =
            let g : h ≤ v = omega arith in
            rw (le-ltb v h g, ne_eqb v t z, lt-ltb (entry mate v) no_arc m)
            (R.done v (entry T (entry mate v)) l (RisesWith.matched g m refl) (omega (arith, S.graph.from_left (entry mate v) (noted S.pairs v l m).arc)))
        go (no q) (no m) =
            let g : h ≤ v = omega arith in
            let k : no_arc ≤ entry mate v = omega arith in
            rw (le-ltb v h g, ne_eqb v t z, le-ltb (entry mate v) no_arc k) (omega (arith, R.alone v l g k))

    pub raised : Raised h T mate dist t d pi₀ (lifted d t pi)
    raised = record {
      len = length-set pi t (entry pi t + d) ∙ R.len;
      each = λ v l. ⊎_elim (λ p. p.1 ∙ at_root v (p.0)) (λ p. p.1 ∙ rise_other v l (p.0)) (set_cases pi t (entry pi t + d) v (omega (arith, R.len)));
    }
      where
        at_root : (v : ℕ) → v ≡ t → entry pi t + d ≡ entry pi₀ v + rise_of h T mate dist t d v
        at_root v e =
            let g : h ≤ v = omega arith in
            rw (le-ltb v h g, eq-eqb v t e) (omega (arith, R.alone t below right (omega arith), ap (entry pi₀) e))
