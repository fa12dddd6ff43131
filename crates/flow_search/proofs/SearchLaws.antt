-- A search: residual arcs looked at one after the other along a chain, vertices taken one after the other, and what holds when nobody waits.
use mathlib.Core.Path.{◌≡◌, refl, sym, ap, subst, ◌∙◌}
use mathlib.Core.Bool.{Bool, true, false}
use mathlib.Core.List.{List, [], ◌∷◌}
use mathlib.Core.Logic.{◌⊎◌, inl, inr, ◌≢◌, ⊎_elim}
use Prim.Native.Nat.{ℕ, zero, suc, ◌+◌, ◌/◌, ◌<◌, ◌≤◌, min}
use native.Mathlib.Omega.{arith}
use native.Mathlib.Decide.{ℕ_discrete, dec_lt}
use lib.Dec.{ltb}
use lib.ListN.{length, set, length-set, get_or-replicate}
use borrow.Author.Tests.{lt-ltb, le-ltb}
use Rattle.prelude.specs.Choice.{indicator}
use Rattle.packed_arcs.specs.Entries.{entry}
use Rattle.packed_arcs.proofs.ListLoops.{set_cases}
use Rattle.packed_arcs.proofs.Sums.{sum_set}
use Rattle.arc_index.specs.ArcIndex.{first_arc, next_arc}
use Rattle.arc_index.specs.Chains.{First, Chains}
use Rattle.arc_index.proofs.ChainSteps.{is_arc, none_between, none_left}
use Rattle.arc_index.proofs.ChainSteps as steps
use Rattle.vertex_queue.specs.VertexQueue.{waits_not, Kept, Holds, nobody, put_in, taken_out, least_vertex, least_entry}
use Rattle.vertex_queue.proofs.Laws.{begin_kept, put_kept, take_kept, taken_key, none_waits, vertex_below}
use Rattle.flow_residual.specs.Residual.{unreached, ResidualNetwork, key_beyond, WithinLimits, ParentArc, LoweredKeys, AllRelaxed}
use Rattle.flow_relaxing.specs.Relaxing.{start_of, finish_of, IsResidual, length_of, code_of, LowerOutcome, RelaxOutcome, SearchReady}
use Rattle.flow_search.specs.Search.{starts, Relaxed, waiting, work, SearchState, Looking, first_code, end_code, ScannedFrom}
use Rattle.flow_residual.specs.Phase.{FirstKeys, first_key, StartOutcome}
use Rattle.flow_residual.proofs.FallingKeys.{lower_refl, lower_trans, lower_one}

-- ---- residual arcs, forward or back

pub start_inside : {N : ResidualNetwork} {n : ℕ} → WithinLimits N n → (back : Bool) (e : ℕ) → e < length N.from → start_of N back e < n
start_inside w false e h = w.tails e h
start_inside w true e h = w.heads e h

pub finish_inside : {N : ResidualNetwork} {n : ℕ} → WithinLimits N n → (back : Bool) (e : ℕ) → e < length N.from → finish_of N back e < n
finish_inside w false e h = w.heads e h
finish_inside w true e h = w.tails e h

starts_len : {N : ResidualNetwork} {n : ℕ} → WithinLimits N n → (back : Bool) → length (starts N back) ≡ length N.from
starts_len w false = refl
starts_len w true = w.to_len

start_is : (N : ResidualNetwork) (back : Bool) (e : ℕ) → entry (starts N back) e ≡ start_of N back e
start_is N false e = refl
start_is N true e = refl

parent_by : (N : ResidualNetwork) (back : Bool) (e : ℕ) → e < length N.from → IsResidual N back e → (k : List ℕ) → entry k (start_of N back e) < unreached
    → key_beyond (entry k (start_of N back e)) (length_of N back e) ≤ entry k (finish_of N back e) → ParentArc N k (code_of back e) (finish_of N back e)
parent_by N false e h r k u o = ParentArc.forward h r refl u o
parent_by N true e h r k u o = ParentArc.backward e refl h r refl u o

-- what holds of the arcs with a code below lo and of those back or forward from lo on holds of those below hi
extend : (N : ResidualNetwork) (back : Bool) (P : Bool → ℕ → Type 0) (u lo hi : ℕ) → length N.from ≤ 4096 → hi ≤ 4096
    → ((b : Bool) (i : ℕ) → i < length N.from → start_of N b i ≡ u → code_of b i < code_of back lo → P b i)
    → ((i : ℕ) → i < length N.from → lo ≤ i → i < hi → start_of N back i ≡ u → P back i)
    → (b : Bool) (i : ℕ) → i < length N.from → start_of N b i ≡ u → code_of b i < code_of back hi → P b i
extend N false P u lo hi few most old more false i h s c = go (dec_lt i lo)
  where
    go : Dec (i < lo) → P false i
    go (yes q) = old false i h s q
    go (no q) = more i h (omega arith) c s
extend N false P u lo hi few most old more true i h s c = absurd (omega arith)
extend N true P u lo hi few most old more false i h s c = old false i h s (omega arith)
extend N true P u lo hi few most old more true i h s c = go (dec_lt i lo)
  where
    go : Dec (i < lo) → P true i
    go (yes q) = old true i h s (omega arith)
    go (no q) = more i h (omega arith) (omega arith) s

-- a relaxed arc stays so where keys fall and that of its start stays
relaxed_mono : (N : ResidualNetwork) (key key' : List ℕ) (b : Bool) (i : ℕ) → ((w : ℕ) → entry key' w ≤ entry key w)
    → entry key' (start_of N b i) ≡ entry key (start_of N b i) → Relaxed N key b i → Relaxed N key' b i
relaxed_mono N key key' b i below same R x r = omega (arith, below (finish_of N b i), R x (omega arith))

-- ---- how many wait

waiting_set : (l : List ℕ) (v k : ℕ) → v < length l → waiting (set l v k) + indicator (ltb (entry l v) waits_not) ≡ waiting l + indicator (ltb k waits_not)
unfolding waiting
waiting_set [] v k h = absurd (omega arith)
waiting_set (a ∷ l) zero k h = omega arith
waiting_set (a ∷ l) (suc v) k h = omega (arith, waiting_set l v k (omega arith))

one_or_none : (b : Bool) → indicator b ≤ 1
one_or_none false = omega arith
one_or_none true = omega arith

waiting_more : (l : List ℕ) (v k : ℕ) → v < length l → waiting (set l v k) ≤ waiting l + 1
waiting_more l v k h = omega (arith, waiting_set l v k h, one_or_none (ltb k waits_not))

waiting_less : (l : List ℕ) (v : ℕ) → v < length l → entry l v < waits_not → waiting (set l v waits_not) + 1 ≡ waiting l
waiting_less l v h w =
    let s : waiting (set l v waits_not) + indicator (ltb (entry l v) waits_not) ≡ waiting l + indicator (ltb waits_not waits_not) = waiting_set l v waits_not h in
    omega (arith, simp (lt-ltb (entry l v) waits_not w) at s)

-- ---- one residual arc

-- a vertex waits with its key, or not
no_less : {N : ResidualNetwork} {key keys low : List ℕ} {cur lo : ℕ} → SearchState N key keys low cur lo → (v : ℕ) → v < length key → entry key v ≤ entry keys v
no_less {N} {key} {keys} S v h = go (dec_lt (entry keys v) waits_not)
  where
    go : Dec (entry keys v < waits_not) → entry key v ≤ entry keys v
    go (yes q) = omega (arith, S.waits v h q)
    go (no q) = omega (arith, S.most v h)

-- before the arc e, which is the next one from u from lo on
pub record Scanning (N : ResidualNetwork) (back : Bool) (u k : ℕ) (key₀ par₀ keys₀ low₀ key par keys low : List ℕ) (e : ℕ) : Type 0 where
  pub lo : ℕ
  pub next : First (starts N back) u lo e
  pub keeps : LoweredKeys N key₀ par₀ key par
  pub looking : Looking N key keys low u k (code_of back lo)
  pub falls : work key keys ≤ work key₀ keys₀

-- the arc e is one, and the keys are as many as they were
pub arc_inside : {N : ResidualNetwork} {n : ℕ} → SearchReady N n → {back : Bool} {u k : ℕ} {key₀ par₀ keys₀ low₀ key par keys low : List ℕ} {e : ℕ}
    → Scanning N back u k key₀ par₀ keys₀ low₀ key par keys low e → e < 4096 → e < length N.from
arc_inside R {back} G l = omega (arith, is_arc G.next l, starts_len R.sized back)

module _ {N : ResidualNetwork} {n : ℕ} (R : SearchReady N n) {back : Bool} {u k : ℕ} {key₀ par₀ keys₀ low₀ key par keys low : List ℕ} {e : ℕ} (size : length key ≡ n) (par-size : length par ≡ length key)
    (G : Scanning N back u k key₀ par₀ keys₀ low₀ key par keys low e) (l : e < 4096) where
  inside : e < length N.from
  inside = arc_inside R G l

  from_u : start_of N back e ≡ u
  from_u = sym (start_is N back e) ∙ (is_arc G.next l).1

  few : length N.from ≤ 4096
  few = R.sized.few

  abbrev v : ℕ
  v = finish_of N back e

  abbrev reach : ℕ
  reach = key_beyond k (length_of N back e)

  v_inside : v < length key
  v_inside = omega (arith, finish_inside R.sized back e inside)

  L : Looking N key keys low u k (code_of back G.lo)
  L = G.looking

  between : (i : ℕ) → G.lo ≤ i → i < e → start_of N back i ≢ u
  between i g h s = none_between G.next l i g h (start_is N back i ∙ s)

  -- the arc e changed nothing: it is relaxed
  stays : Relaxed N key back e → Looking N key keys low u k (code_of back (e + 1))
  stays this = record {
    state = record {
      queue = L.state.queue;
      most = L.state.most;
      waits = L.state.waits;
      nobody = L.state.nobody;
      looked = λ b i h g c. one b i h g c (ℕ_discrete (start_of N b i) u);
    };
    inside = L.inside;
    here = L.here;
    reached = L.reached;
    gone = L.gone;
  }
    where
      more : (i : ℕ) → i < length N.from → G.lo ≤ i → i < e + 1 → start_of N back i ≡ u → Relaxed N key back i
      more i h a z s = go (ℕ_discrete i e)
        where
          go : Dec (i ≡ e) → Relaxed N key back i
          go (yes q) = subst (Relaxed N key back) (sym q) this
          go (no q) = absurd (between i a (omega arith) s)

      one : (b : Bool) (i : ℕ) → i < length N.from → waits_not ≤ entry keys (start_of N b i) → (start_of N b i ≡ u → code_of b i < code_of back (e + 1)) → Dec (start_of N b i ≡ u) → Relaxed N key b i
      one b i h g c (no q) = L.state.looked b i h g (λ s. absurd (q s))
      one b i h g c (yes q) = extend N back (Relaxed N key) u G.lo (e + 1) few (omega arith)
          (λ b i h s c. L.state.looked b i h (subst (λ (z : ℕ). waits_not ≤ entry keys z) (sym s) L.gone) (λ _. c)) more b i h q (c q)

  -- the key of its other end fell
  module _ (r : IsResidual N back e) (fell : reach < entry key v) where
    abbrev key₁ : List ℕ
    key₁ = set key v reach

    abbrev keys₁ : List ℕ
    keys₁ = set keys v reach

    start_key : entry key (start_of N back e) ≡ k
    start_key = ap (entry key) from_u ∙ L.here

    keys_inside : v < length keys
    keys_inside = omega (arith, L.state.queue.keys_len, v_inside, R.small, size)

    not_u : u ≢ v
    not_u q = omega (arith, L.here, ap (entry key) q)

    key_u : entry key₁ u ≡ k
    key_u = ⊎_elim (λ p. absurd (not_u p.0)) (λ p. p.1 ∙ L.here) (set_cases key v reach u v_inside)

    pub lower : LoweredKeys N key par key₁ (set par v (code_of back e))
    lower = lower_one N (start_of N back e) v (length_of N back e) (code_of back e) reach key par v_inside par-size (omega (arith, start_key, L.reached))
        (ap (λ (z : ℕ). key_beyond z (length_of N back e)) (sym start_key)) fell (parent_by N back e inside r)

    -- whoever does not wait now did not wait before, and has the key that it had
    waited : (w : ℕ) → waits_not ≤ entry keys₁ w → (waits_not ≤ entry keys w) × (entry key₁ w ≡ entry key w)
    waited w h = ⊎_elim (λ p. absurd (omega (arith, p.1, L.state.most v v_inside))) (λ p. (omega (arith, p.1), other p.0 (set_cases key v reach w v_inside))) (set_cases keys v reach w keys_inside)
      where
        other : w ≢ v → ((w ≡ v) × (entry key₁ w ≡ reach)) ⊎ ((w ≢ v) × (entry key₁ w ≡ entry key w)) → entry key₁ w ≡ entry key w
        other q (inl p) = absurd (q p.0)
        other q (inr p) = p.1

    on : (b : Bool) (i : ℕ) → waits_not ≤ entry keys₁ (start_of N b i) → Relaxed N key b i → Relaxed N key₁ b i
    on b i g = relaxed_mono N key key₁ b i lower.below (waited (start_of N b i) g).1

    gone_u : waits_not ≤ entry keys₁ u
    gone_u = ⊎_elim (λ p. absurd (not_u p.0)) (λ p. omega (arith, p.1, L.gone)) (set_cases keys v reach u keys_inside)

    this : Relaxed N key₁ back e
    this x z = omega (arith, ap (entry key₁) from_u, key_u, at_v (set_cases key v reach v v_inside))
      where
        at_v : ((v ≡ v) × (entry key₁ v ≡ reach)) ⊎ ((v ≢ v) × (entry key₁ v ≡ entry key v)) → entry key₁ v ≡ reach
        at_v (inl p) = p.1
        at_v (inr p) = absurd (p.0 refl)

    waits₁ : (w : ℕ) → w < length key₁ → entry keys₁ w < waits_not → entry keys₁ w ≡ entry key₁ w
    waits₁ w h q = go (set_cases keys v reach w keys_inside) (set_cases key v reach w v_inside)
      where
        go : ((w ≡ v) × (entry keys₁ w ≡ reach)) ⊎ ((w ≢ v) × (entry keys₁ w ≡ entry keys w)) → ((w ≡ v) × (entry key₁ w ≡ reach)) ⊎ ((w ≢ v) × (entry key₁ w ≡ entry key w)) → entry keys₁ w ≡ entry key₁ w
        go (inl p) (inl p') = p.1 ∙ sym p'.1
        go (inl p) (inr p') = absurd (p'.0 p.0)
        go (inr p) (inl p') = absurd (p.0 p'.0)
        go (inr p) (inr p') = p.1 ∙ L.state.waits w (omega (arith, length-set key v reach)) (omega (arith, p.1)) ∙ sym p'.1

    more₁ : (i : ℕ) → i < length N.from → G.lo ≤ i → i < e + 1 → start_of N back i ≡ u → Relaxed N key₁ back i
    more₁ i h a z s = go (ℕ_discrete i e)
      where
        go : Dec (i ≡ e) → Relaxed N key₁ back i
        go (yes q) = subst (Relaxed N key₁ back) (sym q) this
        go (no q) = absurd (between i a (omega arith) s)

    one₁ : (b : Bool) (i : ℕ) → i < length N.from → waits_not ≤ entry keys₁ (start_of N b i) → (start_of N b i ≡ u → code_of b i < code_of back (e + 1)) → Dec (start_of N b i ≡ u) → Relaxed N key₁ b i
    one₁ b i h g c (no q) = on b i g (L.state.looked b i h (waited (start_of N b i) g).0 (λ s. absurd (q s)))
    one₁ b i h g c (yes q) = extend N back (Relaxed N key₁) u G.lo (e + 1) few (omega arith)
        (λ b i h s c. on b i (subst (λ (z : ℕ). waits_not ≤ entry keys₁ z) (sym s) gone_u) (L.state.looked b i h (subst (λ (z : ℕ). waits_not ≤ entry keys z) (sym s) L.gone) (λ _. c)))
        more₁ b i h q (c q)

    fallen : Looking N key₁ keys₁ (set low (v / 16) (min (entry low (v / 16)) reach)) u k (code_of back (e + 1))
    fallen = record {
      state = record {
        queue = put_kept keys low v reach L.state.queue (omega (arith, v_inside, R.small, size)) (omega (arith, no_less L.state v v_inside));
        most = λ w h. omega (arith, lower.below w, L.state.most w (omega (arith, length-set key v reach)));
        waits = waits₁;
        nobody = λ w h q. ⊎_elim (λ p. absurd (omega (arith, p.0, length-set key v reach, v_inside))) (λ p. omega (arith, p.1, L.state.nobody w (omega (arith, length-set key v reach)) q)) (set_cases keys v reach w keys_inside);
        looked = λ b i h g c. one₁ b i h g c (ℕ_discrete (start_of N b i) u);
      };
      inside = omega (arith, L.inside, length-set key v reach);
      here = key_u;
      reached = L.reached;
      gone = gone_u;
    }

    less : work key₁ keys₁ ≤ work key keys
    less = omega (arith, sum_set key v reach v_inside fell, waiting_more keys v reach keys_inside)

  pub scan_step : {links key' par' keys' low' : List ℕ} → Chains (starts N back) links → RelaxOutcome N back e k key par keys low key' par' keys' low'
      → Scanning N back u k key₀ par₀ keys₀ low₀ key' par' keys' low' (next_arc links e)
  scan_step C (RelaxOutcome.absent no-arc ek ep eq el) = rw (ek, ep, eq, el) (record {
    lo = e + 1;
    next = steps.next_is C G.next l;
    keeps = G.keeps;
    looking = stays (λ x. absurd (no-arc x));
    falls = G.falls;
  })
  scan_step C (RelaxOutcome.tried r (LowerOutcome.kept h ek ep eq el)) = rw (ek, ep, eq, el) (record {
    lo = e + 1;
    next = steps.next_is C G.next l;
    keeps = G.keeps;
    looking = stays (λ x z. omega (arith, ap (entry key) from_u, L.here));
    falls = G.falls;
  })
  scan_step C (RelaxOutcome.tried r (LowerOutcome.lowered h ek ep eq el)) = rw (ek, ep, eq, el) (record {
    lo = e + 1;
    next = steps.next_is C G.next l;
    keeps = lower_trans G.keeps (lower r h);
    looking = fallen r h;
    falls = omega (arith, less r h, G.falls);
  })

pub scan_end : {N : ResidualNetwork} {n : ℕ} → SearchReady N n → {back : Bool} {u k : ℕ} {key₀ par₀ keys₀ low₀ key par keys low : List ℕ} {e : ℕ}
    → Scanning N back u k key₀ par₀ keys₀ low₀ key par keys low e → 4096 ≤ e → ScannedFrom N back u k key₀ par₀ keys₀ low₀ key par keys low
scan_end {N} {n} R {back} {u} {k} {key₀} {par₀} {keys₀} {low₀} {key} {par} {keys} {low} {e} G q = record {
  keeps = G.keeps;
  looking = record {
    state = record {
      queue = L.state.queue;
      most = L.state.most;
      waits = L.state.waits;
      nobody = L.state.nobody;
      looked = λ b i h g c. one b i h g c (ℕ_discrete (start_of N b i) u);
    };
    inside = L.inside;
    here = L.here;
    reached = L.reached;
    gone = L.gone;
  };
  falls = G.falls;
}
  where
    L : Looking N key keys low u k (code_of back G.lo)
    L = G.looking

    more : (i : ℕ) → i < length N.from → G.lo ≤ i → i < 4096 → start_of N back i ≡ u → Relaxed N key back i
    more i h a z s = absurd (none_left (omega (arith, starts_len R.sized back, R.sized.few)) G.next q i a (omega (arith, starts_len R.sized back)) (start_is N back i ∙ s))

    one : (b : Bool) (i : ℕ) → i < length N.from → waits_not ≤ entry keys (start_of N b i) → (start_of N b i ≡ u → code_of b i < end_code back) → Dec (start_of N b i ≡ u) → Relaxed N key b i
    one b i h g c (no p) = L.state.looked b i h g (λ s. absurd (p s))
    one b i h g c (yes p) = extend N back (Relaxed N key) u G.lo 4096 R.sized.few (omega arith)
        (λ b i h s c. L.state.looked b i h (subst (λ (z : ℕ). waits_not ≤ entry keys z) (sym s) L.gone) (λ _. c)) more b i h p (c p)

-- ---- all residual arcs from a vertex

-- both directions of a scan, one after the other
pub both_scans : {N : ResidualNetwork} {u k : ℕ} {key₀ par₀ keys₀ low₀ key par keys low key' par' keys' low' : List ℕ} → ScannedFrom N false u k key₀ par₀ keys₀ low₀ key par keys low
    → ScannedFrom N true u k key par keys low key' par' keys' low' → ScannedFrom N true u k key₀ par₀ keys₀ low₀ key' par' keys' low'
both_scans A B = record { keeps = lower_trans A.keeps B.keeps; looking = B.looking; falls = omega (arith, A.falls, B.falls) }

-- where no arc carries anything, there is none back
pub forward_only : {N : ResidualNetwork} {u k : ℕ} {key₀ par₀ keys₀ low₀ key par keys low : List ℕ} → length N.from ≤ 4096 → ((e : ℕ) → entry N.x e ≡ 0) → ScannedFrom N false u k key₀ par₀ keys₀ low₀ key par keys low
    → ScannedFrom N true u k key₀ par₀ keys₀ low₀ key par keys low
forward_only {N} {u} {k} {key₀} {par₀} {keys₀} {low₀} {key} {par} {keys} {low} few none A =
    let L = A.looking in
    record {
      keeps = A.keeps;
      looking = record {
        state = record { queue = L.state.queue; most = L.state.most; waits = L.state.waits; nobody = L.state.nobody; looked = looked };
        inside = L.inside;
        here = L.here;
        reached = L.reached;
        gone = L.gone;
      };
      falls = A.falls;
    }
  where
    looked : (b : Bool) (i : ℕ) → i < length N.from → waits_not ≤ entry keys (start_of N b i) → (start_of N b i ≡ u → code_of b i < 8192) → Relaxed N key b i
    looked false i h g c = A.looking.state.looked false i h g (λ s. omega arith)
    looked true i h g c = λ x r. absurd (omega (arith, none i))

-- ---- the keys at the start

pub first_most : (a : ℕ) → first_key a ≤ unreached
first_most a = go (dec_lt 0 a)
  where
    go : Dec (0 < a) → first_key a ≤ unreached
    go (yes h) = rw (lt-ltb 0 a h) (omega arith)
    go (no h) = let z : a ≤ 0 = omega arith in rw (le-ltb 0 a z) (omega arith)

-- the vertices below v were put in with their keys
pub record Queued (key keys low : List ℕ) (v : ℕ) : Type 0 where
  pub queue : Kept keys low
  pub same : (j : ℕ) → j < v → entry keys j ≡ entry key j
  pub rest : (j : ℕ) → v ≤ j → j < 256 → entry keys j ≡ waits_not

pub queued_none : (key keys low : List ℕ) → Holds keys low nobody → Queued key keys low 0
queued_none key keys low H = rw (H.keys_are, H.low_are) (record { queue = begin_kept; same = λ j h. absurd (omega arith); rest = λ j h q. get_or-replicate 256 j waits_not 0 q })

pub queued_more : {key keys low keys' low' : List ℕ} (v k : ℕ) → v < length key → v < 256 → k ≤ waits_not → Holds keys' low' (put_in v k keys low) → Queued key keys low v → Queued (set key v k) keys' low' (v + 1)
queued_more {key} {keys} {low} v k h q m H Q = rw (H.keys_are, H.low_are) (record {
  queue = put_kept keys low v k Q.queue q (omega (arith, Q.rest v (omega arith) q));
  same = λ j l. both j l (set_cases keys v k j inside) (set_cases key v k j h);
  rest = λ j l z. ⊎_elim (λ p. absurd (omega (arith, p.0))) (λ p. p.1 ∙ Q.rest j (omega arith) z) (set_cases keys v k j inside);
})
  where
    inside : v < length keys
    inside = omega (arith, Q.queue.keys_len)

    both : (j : ℕ) → j < v + 1 → ((j ≡ v) × (entry (set keys v k) j ≡ k)) ⊎ ((j ≢ v) × (entry (set keys v k) j ≡ entry keys j))
        → ((j ≡ v) × (entry (set key v k) j ≡ k)) ⊎ ((j ≢ v) × (entry (set key v k) j ≡ entry key j)) → entry (set keys v k) j ≡ entry (set key v k) j
    both j l (inl p) (inl p') = p.1 ∙ sym p'.1
    both j l (inl p) (inr p') = absurd (p'.0 p.0)
    both j l (inr p) (inl p') = absurd (p.0 p'.0)
    both j l (inr p) (inr p') = p.1 ∙ Q.same j (omega (arith, p.0)) ∙ sym p'.1

-- ---- one vertex after the other

-- nobody is being looked at
abbrev pub Between : ResidualNetwork → List ℕ → List ℕ → List ℕ → Type 0
Between N key keys low = SearchState N key keys low (length key) 0

pub between_start : {N : ResidualNetwork} {left key keys low : List ℕ} → SearchReady N (length left) → StartOutcome left key keys low → Between N key keys low
between_start {N} {left} {key} {keys} {low} R O = record {
  queue = O.queue;
  most = λ v h. omega (arith, O.started.keys v (omega (arith, O.started.len)), first_most (entry left v));
  waits = λ v h q. O.same v (omega (arith, O.started.len));
  nobody = λ v h q. O.nobody v (omega (arith, O.started.len)) q;
  looked = λ b i h g c x r. absurd (omega (arith, O.same (start_of N b i) (start_inside R.sized b i h)));
}

module _ {N : ResidualNetwork} {key keys low : List ℕ} (R : SearchReady N (length key)) (B : Between N key keys low) where
  -- the vertex that is taken
  module _ (q : least_entry low 0 < waits_not) {keys' low' : List ℕ} (H : Holds keys' low' (taken_out keys low)) where
    abbrev u : ℕ
    u = least_vertex keys low

    key_of : entry keys u ≡ least_entry low 0
    key_of = taken_key keys low B.queue

    inside_u : u < length key
    inside_u = go (dec_lt u (length key))
      where
        go : Dec (u < length key) → u < length key
        go (yes x) = x
        go (no x) = absurd (omega (arith, key_of, B.nobody u (omega arith) (vertex_below keys low)))

    keys_in : u < length keys
    keys_in = omega (arith, B.queue.keys_len, vertex_below keys low)

    pub take_looking : Looking N key keys' low' u (least_entry low 0) 0
    take_looking = rw (H.keys_are, H.low_are) (record {
      state = record {
        queue = take_kept keys low B.queue;
        most = B.most;
        waits = λ v h w. ⊎_elim (λ p. absurd (omega (arith, p.1))) (λ p. p.1 ∙ B.waits v h (omega (arith, p.1))) (set_cases keys u waits_not v keys_in);
        nobody = λ v h w. ⊎_elim (λ p. omega (arith, p.1)) (λ p. omega (arith, p.1, B.nobody v h w)) (set_cases keys u waits_not v keys_in);
        looked = λ b i h g c. ⊎_elim (λ p. absurd (omega (arith, c p.0)))
            (λ p. B.looked b i h (omega (arith, p.1)) (λ s. absurd (omega (arith, start_inside R.sized b i h)))) (set_cases keys u waits_not (start_of N b i) keys_in);
      };
      inside = inside_u;
      here = sym (B.waits u inside_u (omega (arith, key_of))) ∙ key_of;
      reached = q;
      gone = ⊎_elim (λ p. omega (arith, p.1)) (λ p. absurd (p.0 refl)) (set_cases keys u waits_not u keys_in);
    })

    pub take_falls : work key keys' < work key keys
    take_falls = rw H.keys_are (omega (arith, waiting_less keys u keys_in (omega (arith, key_of))))

  -- nobody waits
  pub all_relaxed : waits_not ≤ least_entry low 0 → AllRelaxed N key (length N.from)
  all_relaxed q e h = record {
    forward = λ x r. B.looked false e h (gone (start_of N false e) (start_inside R.sized false e h)) (λ s. absurd (omega (arith, start_inside R.sized false e h))) x r;
    backward = λ x r. B.looked true e h (gone (start_of N true e) (start_inside R.sized true e h)) (λ s. absurd (omega (arith, start_inside R.sized true e h))) x r;
  }
    where
      gone : (w : ℕ) → w < length key → waits_not ≤ entry keys w
      gone w h = none_waits keys low B.queue q w (omega (arith, R.small))

-- all residual arcs from u were looked at
pub between_on : {N : ResidualNetwork} {key keys low : List ℕ} {u k : ℕ} → SearchReady N (length key) → Looking N key keys low u k 8192 → Between N key keys low
between_on {N} {key} {keys} {low} {u} R L = record {
  queue = L.state.queue;
  most = L.state.most;
  waits = L.state.waits;
  nobody = L.state.nobody;
  looked = λ b i h g c. L.state.looked b i h g (λ s. below b i h);
}
  where
    below : (b : Bool) (i : ℕ) → i < length N.from → code_of b i < 8192
    below false i h = omega (arith, R.sized.few)
    below true i h = omega (arith, R.sized.few)

-- from the start on
pub ready_since : {N : ResidualNetwork} {left key₁ par₁ key par : List ℕ} → SearchReady N (length left) → FirstKeys left key₁ → LoweredKeys N key₁ par₁ key par → SearchReady N (length key)
ready_since {N} R S K = subst (SearchReady N) (sym (K.key_len ∙ S.len)) R
