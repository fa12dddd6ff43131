-- The parts of a phase: first keys and what a search from them found, the nearest vertex with need, the state after a delivery, and what holds between phases.
use mathlib.Core.Path.{◌≡◌, refl, sym, ap, subst, ◌∙◌}
use mathlib.Core.List.{List}
use mathlib.Core.Logic.{◌⊎◌, inl, inr, ⊎_elim}
use Prim.Native.Nat.{ℕ, ◌+◌, ◌*◌, ◌-◌, ◌<◌, ◌≤◌}
use native.Mathlib.Omega.{arith}
use native.Mathlib.Decide.{dec_lt}
use lib.Dec.{eqb}
use borrow.Author.Tests.{lt-ltb, le-ltb}
use borrow.Author.Count.{below_more}
use lib.ListN.{length, set, length-set, get_or-eq_default}
use mir.Syntax.{w64}
use mir.Val.{Fits}
use Rattle.packed_arcs.specs.Entries.{entry, flow_at}
use Rattle.packed_arcs.proofs.ListLoops.{set_cases}
use Rattle.packed_arcs.proofs.Sums.{sum_set}
use Rattle.flow_residual.specs.Residual.{unreached, ResidualNetwork, residual, WithinLimits, ParentArc, LoweredKeys, AllRelaxed, RaisedPotentials}
use Rattle.prelude.specs.Choice.{indicator}
use Rattle.flow_residual.specs.Push.{ParentLink, PushReady, Augmentable, Moved, residual_capacity}
use Rattle.flow_residual.specs.Phase.{first_key, FirstKeys, SearchResult, NearestSoFar, Nearest, PhaseState, Advanced}
use Rattle.flow_residual.proofs.PushedAmounts.{left_sub}
use Rattle.flow_residual.proofs.PotentialBounds.{in_range, moved_nonnegative}

-- keys set below v
pub record Starting (left key₀ key : List ℕ) (v : ℕ) : Type 0 where
  pub within : v ≤ length left
  pub len : length key ≡ length key₀
  pub below : (j : ℕ) → j < v → entry key j ≡ first_key (entry left j)

pub start_turn : (left key₀ key : List ℕ) (v r : ℕ) → length key₀ ≡ length left → v < length left → r ≡ first_key (entry left v) → Starting left key₀ key v → Starting left key₀ (set key v r) (v + 1)
start_turn left key₀ key v r hl hv er S = record {
  within = omega arith;
  len = length-set key v r ∙ S.len;
  below = λ j hj. ⊎_elim
      (λ p. subst (λ (i : ℕ). entry (set key v r) j ≡ first_key (entry left i)) (sym p.0) (p.1 ∙ er))
      (λ p. p.1 ∙ S.below j (omega (arith, p.0)))
      (set_cases key v r j (omega (arith, S.len)));
}

first_zero : (l : ℕ) → first_key l ≡ 0 → 0 < l
first_zero l e = go (dec_lt 0 l)
  where
    go : Dec (0 < l) → 0 < l
    go (yes h) = h
    go (no h) = let g : l ≤ 0 = omega arith in absurd (omega (arith, simp (le-ltb _ _ g) at e))

first_pos : (l : ℕ) → 0 < l → first_key l ≡ 0
first_pos l h = simp (lt-ltb _ _ h)

first_far : (l : ℕ) → 0 < first_key l → first_key l ≡ unreached
first_far l e = go (dec_lt 0 l)
  where
    go : Dec (0 < l) → first_key l ≡ unreached
    go (yes h) = absurd (omega (arith, simp (lt-ltb _ _ h) at e))
    go (no h) = let g : l ≤ 0 = omega arith in simp (le-ltb _ _ g)

-- What passes give back that go on until every arc is relaxed.
pub record Converged (N : ResidualNetwork) (key par key' par' : List ℕ) : Type 0 where
  pub keeps : LoweredKeys N key par key' par'
  pub relaxed : AllRelaxed N key' (length N.from)

-- a search from the first keys
pub found : (N : ResidualNetwork) (left key₁ par₁ key par : List ℕ) → FirstKeys left key₁ → length par₁ ≡ length left → Converged N key₁ par₁ key par → SearchResult N left key par
found N left key₁ par₁ key par S hp T = record {
  key_len = T.keeps.key_len ∙ S.len;
  par_len = T.keeps.par_len ∙ hp;
  tree = T.keeps.tree (λ v hv hr h0. absurd (omega (arith, S.keys v (omega (arith, S.len)), first_far (entry left v) (omega (arith, S.keys v (omega (arith, S.len)))))));
  relaxed = T.relaxed;
  roots = λ v hv e. first_zero (entry left v) (sym (S.keys v (omega (arith, S.len, T.keeps.key_len))) ∙ T.keeps.roots v (omega (arith, T.keeps.key_len)) e);
  sources = λ v hv h. omega (arith, T.keeps.below v, S.keys v (omega (arith, S.len, T.keeps.key_len)), first_pos (entry left v) h);
}

pub best_none : (need key : List ℕ) → NearestSoFar need key 0 (length key) unreached
best_none need key = record { within = omega arith; which = inl (refl, refl); least = λ j h. absurd (omega arith) }

best_top : {need key : List ℕ} {v b k : ℕ} → NearestSoFar need key v b k → k ≤ unreached
best_top B = ⊎_elim (λ p. omega (arith, p.1)) (λ p. omega (arith, p.3)) B.which

pub best_take : {need key : List ℕ} {v b k b' k' : ℕ} → NearestSoFar need key v b k → v < length key → (0 < entry need v) × (entry key v < k) → b' ≡ v → k' ≡ entry key v → NearestSoFar need key (v + 1) b' k'
best_take {need} {key} {v} {b} {k} {b'} {k'} B hv h eb ek = record {
  within = omega arith;
  which = inr (omega arith, subst (λ (z : ℕ). 0 < entry need z) (sym eb) h.0, ap (entry key) eb ∙ sym ek, omega (arith, best_top B));
  least = below_more _ v (λ j hj hn. omega (arith, B.least j hj hn)) (λ hn. omega arith);
}

pub best_skip : {need key : List ℕ} {v b k b' k' : ℕ} → NearestSoFar need key v b k → v < length key → (0 < entry need v → k ≤ entry key v) → b' ≡ b → k' ≡ k → NearestSoFar need key (v + 1) b' k'
best_skip {need} {key} {v} {b} {k} {b'} {k'} B hv h eb ek = record {
  within = omega arith;
  which = subst (λ (z : ℕ). ((z ≡ length key) × (k' ≡ unreached)) ⊎ ((z < length key) × (0 < entry need z) × (entry key z ≡ k') × (k' < unreached))) (sym eb)
      (subst (λ (z : ℕ). ((b ≡ length key) × (z ≡ unreached)) ⊎ ((b < length key) × (0 < entry need b) × (entry key b ≡ z) × (z < unreached))) (sym ek) B.which);
  least = below_more _ v (λ j hj hn. omega (arith, B.least j hj hn)) (λ hn. omega (arith, h hn));
}

module _ {from to cost cap x pi left need key par : List ℕ} (S : PhaseState from to cost cap x pi left need)
    (F : SearchResult (residual from to cost cap x pi) left key par) where
  abbrev N : ResidualNetwork
  N = residual from to cost cap x pi

  pub sized_key : WithinLimits N (length key)
  sized_key = subst (λ (z : ℕ). WithinLimits N z) (sym F.key_len) S.sized

  pub small_key : length key ≤ 255
  small_key = omega (arith, F.key_len, S.small)

  pub roots_zero : (v : ℕ) → v < length key → entry key v ≡ 0 → entry pi v ≡ 0
  roots_zero v hv e = S.zero v (omega (arith, F.key_len)) (F.roots v hv e)

  pub linked : PushReady from to cap par key x left
  linked = record {
    few = S.sized.few;
    to_len = S.sized.to_len;
    cap_len = S.sized.cap_len;
    x_len = S.sized.x_len;
    par_len = F.par_len ∙ sym F.key_len;
    left_len = sym F.key_len;
    tails = sized_key.tails;
    heads = sized_key.heads;
    within = S.within;
    links = λ v hv hr h0. link v (entry par v) (F.tree v hv hr h0);
  }
    where
      link : (v code : ℕ) → ParentArc N key code v → ParentLink from to key code v
      link v code (ParentArc.forward i j t u o) = ParentLink.forward i t (omega arith)
      link v code (ParentArc.backward e ec i j t u o) = ParentLink.backward e ec i t (omega arith)

  pub opened : Augmentable cap par key x left
  opened = record { roots = F.roots; rooms = λ v hv hr h0. room v (entry par v) (F.tree v hv hr h0) }
    where
      room : (v code : ℕ) → ParentArc N key code v → 0 < residual_capacity cap x code
      room v code (ParentArc.forward i j t u o) = let h : code < 4096 = omega (arith, S.sized.few) in simp (lt-ltb _ _ h) (omega arith)
      room v code (ParentArc.backward e ec i j t u o) =
          let h : 4096 ≤ code = omega arith in
          let q : code - 4096 ≡ e = omega arith in
          simp (le-ltb _ _ h, q) j

  module _ (t g : ℕ) (pi' x' left' : List ℕ) (ht : t < length key) (hn : 0 < entry need t) (hr : entry key t < unreached)
      (least : (j : ℕ) → j < length key → 0 < entry need j → entry key t ≤ entry key j)
      (R : RaisedPotentials (entry key t) key pi pi') (m : Moved from to cap par key x left x' left' t (entry need t) g) where
    abbrev need' : List ℕ
    need' = set need t (entry need t - g)

    need_at : t < length need
    need_at = omega (arith, F.key_len, S.need_len)

    needs : (w : ℕ) → entry need' w + indicator (eqb t w) * g ≡ entry need w
    needs w = left_sub need t g w need_at m.most

    top' : (j v : ℕ) → j < length key → v < length key → 0 < entry need j → entry pi' v ≤ entry pi' j
    top' j v hj hv h = omega (arith, R.by j hj, R.by v hv, S.top j v (omega (arith, F.key_len)) (omega (arith, F.key_len)) h, least j hj h)

    pis' : (v : ℕ) → entry pi' v ≤ 8322818
    pis' v = go (dec_lt v (length key))
      where
        go : Dec (v < length key) → entry pi' v ≤ 8322818
        go (yes h) = omega (arith, top' t v ht h hn, R.by t ht, in_range N key par sized_key S.nonnegative F.tree F.relaxed small_key roots_zero t ht hr)
        go (no h) = omega (arith, get_or-eq_default pi' 0 {n = v} (omega (arith, R.len, S.sized.pi_len, F.key_len)))

    state' : PhaseState from to cost cap x' pi' left' need'
    state' = record {
      sized = record {
        few = S.sized.few;
        to_len = S.sized.to_len;
        cost_len = S.sized.cost_len;
        cap_len = S.sized.cap_len;
        x_len = m.x_len ∙ S.sized.x_len;
        pi_len = R.len ∙ S.sized.pi_len ∙ sym m.left_len;
        tails = λ e h. omega (arith, S.sized.tails e h, m.left_len);
        heads = λ e h. omega (arith, S.sized.heads e h, m.left_len);
        costs = S.sized.costs;
        pis = pis';
      };
      nonnegative = moved_nonnegative N key par sized_key S.nonnegative F.tree F.relaxed small_key roots_zero (entry key t) hr pi' R x' m.only;
      within = m.within;
      need_len = length-set need t (entry need t - g) ∙ S.need_len ∙ sym m.left_len;
      small = omega (arith, m.left_len, S.small);
      zero = λ v hv h. omega (arith, R.by v (omega (arith, F.key_len, m.left_len)), F.sources v (omega (arith, F.key_len, m.left_len)) (omega (arith, m.less v)), S.zero v (omega (arith, m.left_len)) (omega (arith, m.less v)));
      top = λ j v hj hv h. top' j v (omega (arith, F.key_len, m.left_len)) (omega (arith, F.key_len, m.left_len)) (omega (arith, needs j));
    }

    advanced : Advanced from to cost cap x pi left need x' pi' left' need'
    advanced = record {
      state = state';
      left_len = m.left_len;
      left_less = m.less;
      need_less = λ w. omega (arith, needs w);
      balance = λ w. omega (arith, m.balance w, needs w);
      less = sum_set need t (entry need t - g) need_at (omega (arith, m.some opened hn));
    }

pub target_ok : {need key : List ℕ} {t : ℕ} → Nearest need key t → t < length key
    → (t < length key) × (0 < entry need t) × (entry key t < unreached) × ((j : ℕ) → j < length key → 0 < entry need j → entry key t ≤ entry key j)
target_ok {need} {key} {t} T h = ⊎_elim
    (λ p. absurd (omega (arith, p.0)))
    (λ p. (h, p.1, omega (arith, p.2, p.3), λ j hj hn. omega (arith, p.2, T.best_of.least j hj hn)))
    T.best_of.which

-- one phase: what a search found, the potentials raised, and an amount moved to the nearest vertex with need
pub phase : {from to cost cap x pi left need key par x' pi' left' : List ℕ} {t g : ℕ} → PhaseState from to cost cap x pi left need
    → SearchResult (residual from to cost cap x pi) left key par → Nearest need key t → t < length key → RaisedPotentials (entry key t) key pi pi'
    → Moved from to cap par key x left x' left' t (entry need t) g → Advanced from to cost cap x pi left need x' pi' left' (set need t (entry need t - g))
phase {from} {to} {cost} {cap} {x} {pi} {left} {need} {key} {par} {x'} {pi'} {left'} {t} {g} S F T h R M =
    let ok = target_ok T h in
    advanced S F t g pi' x' left' ok.0 ok.1 ok.2 ok.3 R M

-- what holds before each phase
pub record Running (from to cost cap x₀ left₀ need₀ x pi left need key par : List ℕ) : Type 0 where
  pub state : PhaseState from to cost cap x pi left need
  pub left_len : length left ≡ length left₀
  pub key_len : length key ≡ length left₀
  pub par_len : length par ≡ length left₀
  pub left_less : (w : ℕ) → entry left w ≤ entry left₀ w
  pub need_less : (w : ℕ) → entry need w ≤ entry need₀ w
  pub balance : (w : ℕ) → flow_at from x w + entry left w + entry need₀ w + flow_at to x₀ w ≡ flow_at from x₀ w + entry left₀ w + entry need w + flow_at to x w
