-- The amounts of a matching: at most one arc at each vertex carries 1, and both sides carry as much; so few vertices are taken in a search.
use mathlib.Core.Path.{◌≡◌, refl, sym, ap, subst, ◌∙◌}
use mathlib.Core.List.{List, [], ◌∷◌}
use mathlib.Core.Logic.{◌⊎◌, inl, inr, ◌≢◌}
use Prim.Native.Nat.{ℕ, zero, suc, ◌+◌, ◌*◌, ◌-◌, ◌<◌, ◌≤◌, min}
use native.Mathlib.Decide.{ℕ_discrete, dec_lt}
use native.Mathlib.Omega.{arith}
use lib.ListN.{length, get_or-eq_default}
use borrow.Author.Tests.{eq-eqb, ne_eqb}
use Rattle.prelude.specs.Choice.{indicator}
use Rattle.prelude.specs.Lists.{list_to}
use Rattle.prelude.specs.Sums.{sum_to}
use Rattle.prelude.proofs.Lists.{list_to_length}
use Rattle.prelude.proofs.Sums.{sum_to_none, sum_to_split, sum_to_le, sum_to_less, sum_to_same}
use Rattle.packed_arcs.specs.Entries.{entry, zero_count, flow_at}
use Rattle.arc_index.specs.ArcIndex.{no_arc}
use Rattle.match_state.specs.Matching.{Bipartite, Noted, Matching}
use Rattle.match_state.specs.Amounts.{matched_amount, Amounts}
use Rattle.match_state.proofs.Pairs.{noted, left_end, right_end}
use Rattle.match_state.proofs.Flows.{flow_none, flow_one, sum_weighted, weighted_same, listed_at}

-- ---- amounts of a matching

-- past its end a list has 0
pub entry_past : (l : List ℕ) (i : ℕ) → length l ≤ i → entry l i ≡ 0
entry_past l i h = get_or-eq_default l 0 h

-- what an arc carries is 0, or it is matched and carries 1
amount_cases : (H mate : List ℕ) (e : ℕ) → (matched_amount H mate e ≡ 0) ⊎ ((matched_amount H mate e ≡ 1) × (entry mate (entry H e) ≡ e))
amount_cases H mate e = go (ℕ_discrete (entry mate (entry H e)) e)
  where
    go : Dec (entry mate (entry H e) ≡ e) → (matched_amount H mate e ≡ 0) ⊎ ((matched_amount H mate e ≡ 1) × (entry mate (entry H e) ≡ e))
    go (yes q) = inr (ap indicator (eq-eqb (entry mate (entry H e)) e q), q)
    go (no q) = inl (ap indicator (ne_eqb (entry mate (entry H e)) e q))

module _ {h n : ℕ} {T H W mate x : List ℕ} (G : Bipartite h n T H W) (M : Matching n T H mate) (A : Amounts H mate x) where
  -- an arc that carries something is noted at both ends
  pub carried : (e : ℕ) → e < length T → (entry x e ≡ 0) ⊎ ((entry x e ≡ 1) × Noted T H mate (entry H e) e)
  carried e l = go (amount_cases H mate e)
    where
      here : entry x e ≡ matched_amount H mate e
      here = A.by e (omega (arith, G.heads_len))

      go : (matched_amount H mate e ≡ 0) ⊎ ((matched_amount H mate e ≡ 1) × (entry mate (entry H e) ≡ e)) → (entry x e ≡ 0) ⊎ ((entry x e ≡ 1) × Noted T H mate (entry H e) e)
      go (inl z) = inl (here ∙ z)
      go (inr q) = inr (here ∙ q.0, subst (λ (k : ℕ). Noted T H mate (entry H e) k) q.1 (noted M (entry H e) (G.below e l) (omega (arith, q.1, G.few))))

  -- an arc that is matched carries 1
  pub carries : (v e : ℕ) → Noted T H mate v e → entry x e ≡ 1
  carries v e N = A.by e (omega (arith, G.heads_len, N.arc)) ∙ ap indicator (eq-eqb (entry mate (entry H e)) e N.at_head)

  pub zero_or_one : (e : ℕ) → entry x e ≤ 1
  zero_or_one e = go (dec_lt e (length T))
    where
      near : (entry x e ≡ 0) ⊎ ((entry x e ≡ 1) × Noted T H mate (entry H e) e) → entry x e ≤ 1
      near (inl z) = omega arith
      near (inr N) = omega (arith, N.0)

      go : Dec (e < length T) → entry x e ≤ 1
      go (yes k) = near (carried e k)
      go (no k) = omega (arith, entry_past x e (omega (arith, A.len, G.heads_len)))

  -- an arc at a vertex that is not the one noted there carries nothing
  left_other : (a e : ℕ) → e < length T → entry T e ≡ a → e ≢ entry mate a → entry x e ≡ 0
  left_other a e l q z = go (carried e l)
    where
      go : (entry x e ≡ 0) ⊎ ((entry x e ≡ 1) × Noted T H mate (entry H e) e) → entry x e ≡ 0
      go (inl r) = r
      go (inr N) = absurd (z (sym (subst (λ (v : ℕ). entry mate v ≡ e) q N.1.at_tail)))

  right_other : (b e : ℕ) → e < length T → entry H e ≡ b → e ≢ entry mate b → entry x e ≡ 0
  right_other b e l q z = go (carried e l)
    where
      go : (entry x e ≡ 0) ⊎ ((entry x e ≡ 1) × Noted T H mate (entry H e) e) → entry x e ≡ 0
      go (inl r) = r
      go (inr N) = absurd (z (sym (subst (λ (v : ℕ). entry mate v ≡ e) q N.1.at_head)))

  pub left_matched : (a : ℕ) → a < h → entry mate a < no_arc → flow_at T x a ≡ 1
  left_matched a l k =
      let N = noted M a (omega (arith, G.within)) k in
      flow_one T x a (entry mate a) (A.len ∙ G.heads_len) N.arc (left_end G a l N) (carries a (entry mate a) N) (λ e b q z. left_other a e b q z)

  pub left_exposed : (a : ℕ) → entry mate a ≡ no_arc → flow_at T x a ≡ 0
  left_exposed a k = flow_none T x a (λ e b q. left_other a e b q (λ z. absurd (omega (arith, G.few))))

  pub right_matched : (b : ℕ) → h ≤ b → b < n → entry mate b < no_arc → flow_at H x b ≡ 1
  right_matched b l i k =
      let N = noted M b i k in
      flow_one H x b (entry mate b) A.len (omega (arith, N.arc, G.heads_len)) (right_end G b l N) (carries b (entry mate b) N) (λ e j q z. right_other b e (omega (arith, G.heads_len)) q z)

  pub right_exposed : (b : ℕ) → entry mate b ≡ no_arc → flow_at H x b ≡ 0
  right_exposed b k = flow_none H x b (λ e j q. right_other b e (omega (arith, G.heads_len)) q (λ z. absurd (omega (arith, G.few, G.heads_len))))

  -- no arc leads from a right vertex, or to a left one
  from_right : (b : ℕ) → h ≤ b → flow_at T x b ≡ 0
  from_right b l = flow_none T x b (λ e j q. absurd (omega (arith, G.from_left e j)))

  to_left : (a : ℕ) → a < h → flow_at H x a ≡ 0
  to_left a l = flow_none H x a (λ e j q. absurd (omega (arith, G.to_right e (omega (arith, G.heads_len)))))

  pub left_most : (a : ℕ) → a < h → flow_at T x a ≤ 1
  left_most a l = go (M.each a (omega (arith, G.within)))
    where
      go : (entry mate a ≡ no_arc) ⊎ Noted T H mate a (entry mate a) → flow_at T x a ≤ 1
      go (inl q) = omega (arith, left_exposed a q)
      go (inr N) = omega (arith, left_matched a l (omega (arith, N.arc, G.few)))

  pub right_most : (b : ℕ) → h ≤ b → b < n → flow_at H x b ≤ 1
  right_most b l i = go (M.each b i)
    where
      go : (entry mate b ≡ no_arc) ⊎ Noted T H mate b (entry mate b) → flow_at H x b ≤ 1
      go (inl q) = omega (arith, right_exposed b q)
      go (inr N) = omega (arith, right_matched b l i (omega (arith, N.arc, G.few)))

  -- summed with a value that agrees at both ends of a matched arc: the left vertices as much as the right ones
  pub both_sides : (g : ℕ → ℕ) → ((e : ℕ) → e < length T → Noted T H mate (entry H e) e → g (entry T e) ≡ g (entry H e))
      → sum_to h (λ a. g a * flow_at T x a) ≡ sum_to (n - h) (λ i. g (h + i) * flow_at H x (h + i))
  both_sides g f =
      let left : ℕ → ℕ = λ v. g v * flow_at T x v in
      let right : ℕ → ℕ = λ v. g v * flow_at H x v in
      let whole : h + (n - h) ≡ n = omega (arith, G.within) in
      omega (
        arith,
        sum_to_split h (n - h) left,
        sum_to_split h (n - h) right,
        ap (λ (k : ℕ). sum_to k left) whole,
        ap (λ (k : ℕ). sum_to k right) whole,
        sum_to_none (n - h) (λ i. left (h + i)) (λ i l. omega (arith, ap (λ (k : ℕ). g (h + i) * k) (from_right (h + i) (omega arith)))),
        sum_to_none h right (λ a l. omega (arith, ap (λ (k : ℕ). g a * k) (to_left a l))),
        sum_weighted n T x g (λ e l. omega (arith, G.from_left e l, G.within)),
        sum_weighted n H x g (λ e l. G.below e (omega (arith, G.heads_len))),
        weighted_same T H x g G.heads_len (λ e l. agree e l (carried e l)),
      )
    where
      agree : (e : ℕ) → e < length T → (entry x e ≡ 0) ⊎ ((entry x e ≡ 1) × Noted T H mate (entry H e) e) → g (entry T e) * entry x e ≡ g (entry H e) * entry x e
      agree e l (inl z) = ap (λ (k : ℕ). g (entry T e) * k) z ∙ omega arith ∙ sym (ap (λ (k : ℕ). g (entry H e) * k) z)
      agree e l (inr N) = ap (λ (k : ℕ). k * entry x e) (f e l N.1)

-- ---- how many are taken

-- the first number of a sum by itself
sum_first : (k : ℕ) (g : ℕ → ℕ) → sum_to (suc k) g ≡ g 0 + sum_to k (λ i. g (suc i))
unfolding sum_to
sum_first zero g = omega arith
sum_first (suc k) g = omega (arith, sum_first k g)

-- the entries that are not 0, and those that are
not_zeros : (l : List ℕ) → sum_to (length l) (λ i. min 1 (entry l i)) + zero_count l ≡ length l
unfolding zero_count
not_zeros [] = none_at_all (λ i. min 1 (entry [] i))
  where
    none_at_all : (g : ℕ → ℕ) → sum_to 0 g + 0 ≡ 0
    none_at_all g = omega (arith, sum_to_none 0 g (λ v h. absurd (omega arith)))
not_zeros (zero ∷ l) = omega (arith, sum_first (length l) (λ i. min 1 (entry (zero ∷ l) i)), not_zeros l)
not_zeros (suc a ∷ l) = omega (arith, sum_first (length l) (λ i. min 1 (entry (suc a ∷ l) i)), not_zeros l)

-- left vertices that are taken are matched to different right vertices, none of which is exposed: they are fewer than the right vertices
pub taken_few : {h n : ℕ} {T H W mate : List ℕ} → Bipartite h n T H W → Matching n T H mate → (order : List ℕ) → length order ≡ h
    → ((a : ℕ) → a < h → 0 < entry order a → entry mate a < no_arc) → (t : ℕ) → h ≤ t → t < n → entry mate t ≡ no_arc → h < zero_count order + (n - h)
taken_few {h} {n} {T} {H} {W} {mate} G M order len mated t g b bare =
    omega (
      arith,
      both_sides G M A (λ v. 1) (λ e l N. refl),
      sum_to_le h (λ i. min 1 (entry order i)) (λ i. 1 * flow_at T x i) (λ a l. carried_by a l (ℕ_discrete (entry order a) 0)),
      sum_to_less (n - h) (λ i. 1 * flow_at H x (h + i)) (λ i. 1) (t - h) (λ i l. omega (arith, right_most G M A (h + i) (omega arith) (omega arith))) (omega arith)
          (subst (λ (v : ℕ). 1 * flow_at H x v < 1) (sym back) (omega (arith, right_exposed G M A t bare))),
      sum_to_same (n - h) 1,
      subst (λ (k : ℕ). sum_to k (λ i. min 1 (entry order i)) + zero_count order ≡ k) len (not_zeros order),
    )
  where
    x : List ℕ
    x = list_to (length H) (matched_amount H mate)

    A : Amounts H mate x
    A = record { len = list_to_length (length H) (matched_amount H mate); by = listed_at (length H) (matched_amount H mate) }

    back : h + (t - h) ≡ t
    back = omega arith

    carried_by : (a : ℕ) → a < h → Dec (entry order a ≡ 0) → min 1 (entry order a) ≤ 1 * flow_at T x a
    carried_by a l (yes q) = omega arith
    carried_by a l (no q) = omega (arith, left_matched G M A a l (mated a l (omega arith)))
