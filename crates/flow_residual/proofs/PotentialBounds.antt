-- Once every arc is relaxed: keys count the arcs of their paths, potentials stay in range, and raised potentials leave no reduced cost negative.
use mathlib.Core.Path.{◌≡◌, ap, subst}
use mathlib.Core.Bool.{Bool, true, false}
use mathlib.Core.List.{List}
use mathlib.Core.Logic.{◌⊎◌, inl, inr, ⊎_elim}
use Prim.Native.Nat.{ℕ, zero, suc, ◌+◌, ◌*◌, ◌-◌, ◌/◌, ◌%◌, ◌<◌, ◌≤◌}
use native.Mathlib.Omega.{arith}
use native.Mathlib.Decide.{ℕ_discrete, dec_lt, dec_le}
use lib.ListN.{length}
use lib.Dec.{leb}
use borrow.Author.Tests.{le-leb, lt-leb}
use Rattle.prelude.specs.Choice.{indicator}
use Rattle.prelude.specs.Sums.{count}
use Rattle.prelude.proofs.Sums.{sum_to_le, sum_to_less, sum_to_same}
use Rattle.packed_arcs.specs.Entries.{entry}
use Rattle.flow_residual.specs.Residual.{unreached, ResidualNetwork, residual, tail, head, raised_cost, head_potential, WithinLimits, NonnegativeReducedCosts, key_beyond, ParentArc, ParentTree, AllRelaxed, RaisedPotentials}
use Rattle.flow_residual.specs.Push.{ParentArcWithin}

-- ---- how many vertices have a key of at most k

up_to : List ℕ → ℕ → ℕ
up_to key k = count (λ v. leb (entry key v) k) (length key)

in_order : (a j k : ℕ) → j ≤ k → indicator (leb a j) ≤ indicator (leb a k)
in_order a j k h = go (dec_le a j)
  where
    go : Dec (a ≤ j) → indicator (leb a j) ≤ indicator (leb a k)
    go (yes p) = rw (le-leb a j p, le-leb a k (omega arith)) (omega arith)
    go (no p) = rw (lt-leb a j (omega arith)) (omega arith)

up_to_length : (key : List ℕ) (k : ℕ) → up_to key k ≤ length key
unfolding up_to
up_to_length key k =
    omega (arith, sum_to_le (length key) (λ v. indicator (leb (entry key v) k)) (λ v. 1) (λ v h. one (leb (entry key v) k)), sum_to_same (length key) 1)
  where
    one : (b : Bool) → indicator b ≤ 1
    one true = omega arith
    one false = omega arith

-- a key above j counts at its own value
up_to_more : (key : List ℕ) (v j : ℕ) → v < length key → j < entry key v → up_to key j < up_to key (entry key v)
unfolding up_to
up_to_more key v j h l =
    sum_to_less (length key) (λ w. indicator (leb (entry key w) j)) (λ w. indicator (leb (entry key w) (entry key v))) v
    (λ w i. in_order (entry key w) j (entry key v) (omega arith)) h
    (rw (lt-leb (entry key v) j l, le-leb (entry key v) (entry key v) (omega arith)) (omega arith))

up_to_self : (key : List ℕ) (v : ℕ) → v < length key → 1 ≤ up_to key (entry key v)
unfolding up_to
up_to_self key v h =
    let some = sum_to_less (length key) (λ w. 0) (λ w. indicator (leb (entry key w) (entry key v))) v (λ w i. omega arith) h
    (rw (le-leb (entry key v) (entry key v) (omega arith)) (omega arith)) in
    omega arith

-- ---- keys and potentials at a fixpoint

-- the parent of a vertex at a fixpoint
record Parent (N : ResidualNetwork) (key : List ℕ) (v : ℕ) : Type 0 where
  pub u : ℕ
  pub u_ok : u < length key
  pub near : entry key u < unreached
  pub len : ℕ
  pub exact : entry key v ≡ key_beyond (entry key u) len
  pub rise : entry N.pi v + len ≤ entry N.pi u + 32767

record High (N : ResidualNetwork) (key : List ℕ) (v : ℕ) : Type 0 where
  pub hops : entry key v % 256 + 1 ≤ up_to key (entry key v)
  pub height : entry N.pi v + entry key v / 256 + 32767 ≤ 32767 * up_to key (entry key v)

module _ (N : ResidualNetwork) (key par : List ℕ) (sized : WithinLimits N (length key)) (nonnegative : NonnegativeReducedCosts N) (tree : ParentTree N key par)
    (relaxed : AllRelaxed N key (length N.from)) (small : length key ≤ 255)
    (roots : (v : ℕ) → v < length key → entry key v ≡ 0 → entry N.pi v ≡ 0) where
  parent : (v : ℕ) → v < length key → entry key v < unreached → 0 < entry key v → Parent N key v
  parent v hv hr h0 = go (entry par v) (tree v hv hr h0)
    where
      go : (code : ℕ) → ParentArc N key code v → Parent N key v
      go code (ParentArc.forward i j t u o) = record {
        u = tail N code;
        u_ok = sized.tails code i;
        near = u;
        len = raised_cost N code - head_potential N code;
        exact = omega (arith, ap (entry key) t, (relaxed code i).forward j u);
        rise = omega (arith, nonnegative.forward code i j, sized.costs code, ap (entry N.pi) t);
      }
      go code (ParentArc.backward e ec i j t u o) = record {
        u = head N e;
        u_ok = sized.heads e i;
        near = u;
        len = head_potential N e - raised_cost N e;
        exact = omega (arith, ap (entry key) t, (relaxed e i).backward j u);
        rise = omega (arith, nonnegative.backward e i j, ap (entry N.pi) t);
      }

  high_up : (v : ℕ) → v < length key → (p : Parent N key v) → High N key p.u → High N key v
  high_up v hv p q =
      let m = up_to_more key v (entry key p.u) hv (omega (arith, p.exact)) in
      let c = up_to_length key (entry key v) in
      record { hops = omega (arith, p.exact, q.hops, m, c); height = omega (arith, p.exact, p.rise, q.hops, q.height, m, c) }

  high_below : (k : ℕ) (v : ℕ) → v < length key → entry key v < unreached → entry key v < k → High N key v
  high_below zero v hv hr h = absurd (omega arith)
  high_below (suc k) v hv hr h = step (ℕ_discrete (entry key v) 0) (high_below k)
    where
      step : Dec (entry key v ≡ 0) → ((w : ℕ) → w < length key → entry key w < unreached → entry key w < k → High N key w) → High N key v
      step (yes z) ih = record { hops = omega (arith, up_to_self key v hv); height = omega (arith, up_to_self key v hv, roots v hv z) }
      step (no z) ih = let p = parent v hv hr (omega arith) in high_up v hv p (ih p.u p.u_ok p.near (omega (arith, p.exact)))

  high : (v : ℕ) → v < length key → entry key v < unreached → High N key v
  high v hv hr = high_below (suc (entry key v)) v hv hr (omega arith)

  -- keys of reached vertices count at most 254 arcs
  pub few_hops : (v : ℕ) → v < length key → entry key v < unreached → entry key v % 256 ≤ 254
  few_hops v hv hr = omega (arith, (high v hv hr).hops, up_to_length key (entry key v))

  -- potentials of reached vertices, with their distance, are in range
  pub in_range : (v : ℕ) → v < length key → entry key v < unreached → entry N.pi v + entry key v / 256 ≤ 8322818
  in_range v hv hr = omega (arith, (high v hv hr).height, up_to_length key (entry key v))

  -- where the search ended, no residual arc leaves the reached vertices: one of length len from u to v
  closed : (u v len : ℕ) → u < length key → v < length key → entry key u < unreached → entry N.pi v + len ≤ entry N.pi u + 32767
      → entry key v ≤ key_beyond (entry key u) len → entry key v < unreached
  closed u v len hu hv hr rise near = go (dec_lt (entry key v) unreached)
    where
      go : Dec (entry key v < unreached) → entry key v < unreached
      go (yes h) = h
      go (no h) = absurd (omega (
        arith,
        near,
        rise,
        (high u hu hr).height,
        (high u hu hr).hops,
        up_to_more key v (entry key u) hv (omega arith),
        up_to_length key (entry key v),
      ))

  pub closed_forward : (e : ℕ) → e < length N.from → entry N.x e < entry N.cap e → entry key (tail N e) < unreached → entry key (head N e) < unreached
  closed_forward e he hx hr =
      closed (tail N e) (head N e) (raised_cost N e - head_potential N e) (sized.tails e he) (sized.heads e he) hr (omega (arith, nonnegative.forward e he hx, sized.costs e)) ((relaxed e he).forward hx hr)

  pub closed_backward : (e : ℕ) → e < length N.from → 0 < entry N.x e → entry key (head N e) < unreached → entry key (tail N e) < unreached
  closed_backward e he hx hr =
      closed (head N e) (tail N e) (head_potential N e - raised_cost N e) (sized.heads e he) (sized.tails e he) hr (omega (arith, nonnegative.backward e he hx)) ((relaxed e he).backward hx hr)

  -- one phase: the target's key is d, and pi' are the raised potentials
  module _ (d : ℕ) (hd : d < unreached) (pi' : List ℕ) (R : RaisedPotentials d key N.pi pi') where
    abbrev N' : List ℕ → ResidualNetwork
    N' x' = residual N.from N.to N.cost N.cap x' pi'

    pub raised_nonnegative : NonnegativeReducedCosts (N' N.x)
    raised_nonnegative = record { forward = fwd; backward = bwd }
      where
        fwd : (e : ℕ) → e < length N.from → entry N.x e < entry N.cap e → head_potential (N' N.x) e ≤ raised_cost (N' N.x) e
        fwd e he hx = go (dec_lt (entry key (tail N e)) d)
          where
            go : Dec (entry key (tail N e) < d) → head_potential (N' N.x) e ≤ raised_cost (N' N.x) e
            go (yes h) = omega (arith, R.by (tail N e) (sized.tails e he), R.by (head N e) (sized.heads e he), nonnegative.forward e he hx, (relaxed e he).forward hx (omega arith), few_hops (tail N e) (sized.tails e he) (omega arith))
            go (no h) = omega (arith, R.by (tail N e) (sized.tails e he), R.by (head N e) (sized.heads e he), nonnegative.forward e he hx)

        bwd : (e : ℕ) → e < length N.from → 0 < entry N.x e → raised_cost (N' N.x) e ≤ head_potential (N' N.x) e
        bwd e he hx = go (dec_lt (entry key (head N e)) d)
          where
            go : Dec (entry key (head N e) < d) → raised_cost (N' N.x) e ≤ head_potential (N' N.x) e
            go (yes h) = omega (arith, R.by (tail N e) (sized.tails e he), R.by (head N e) (sized.heads e he), nonnegative.backward e he hx, (relaxed e he).backward hx (omega arith), few_hops (head N e) (sized.heads e he) (omega arith))
            go (no h) = omega (arith, R.by (tail N e) (sized.tails e he), R.by (head N e) (sized.heads e he), nonnegative.backward e he hx)

    -- parent arcs that are near enough are tight
    pub tight : (e : ℕ) → e < length N.from → ParentArcWithin par key d e → raised_cost (N' N.x) e ≡ head_potential (N' N.x) e
    tight e he u = go (entry par u.by) (tree u.by u.by_ok u.reached u.not_root) u.code
      where
        facts : (w : ℕ) → w < length key → entry key w < unreached → entry key w % 256 ≤ 254
        facts = few_hops

        go : (code : ℕ) → ParentArc N key code u.by → ((code ≡ e) ⊎ (code ≡ 4096 + e)) → raised_cost (N' N.x) e ≡ head_potential (N' N.x) e
        go code (ParentArc.forward i j t r o) (inl c) = subst (λ (z : ℕ). raised_cost (N' N.x) z ≡ head_potential (N' N.x) z) c
            (omega (arith, R.by (tail N code) (sized.tails code i), R.by (head N code) (sized.heads code i), nonnegative.forward code i j, (relaxed code i).forward j r, ap (entry key) t, u.near, facts (tail N code) (sized.tails code i) r))
        go code (ParentArc.forward i j t r o) (inr c) = absurd (omega (arith, sized.few))
        go code (ParentArc.backward e' ec i j t r o) (inl c) = absurd (omega (arith, sized.few))
        go code (ParentArc.backward e' ec i j t r o) (inr c) = let q : e' ≡ e = omega arith in subst (λ (z : ℕ). raised_cost (N' N.x) z ≡ head_potential (N' N.x) z) q
            (omega (arith, R.by (tail N e') (sized.tails e' i), R.by (head N e') (sized.heads e' i), nonnegative.backward e' i j, (relaxed e' i).backward j r, ap (entry key) t, u.near, facts (head N e') (sized.heads e' i) r))

    -- amounts that changed on such arcs only leave no reduced cost negative
    pub moved_nonnegative : (x' : List ℕ) → ((e : ℕ) → (entry x' e ≡ entry N.x e) ⊎ ParentArcWithin par key d e) → NonnegativeReducedCosts (N' x')
    moved_nonnegative x' only = record { forward = fwd; backward = bwd }
      where
        fwd : (e : ℕ) → e < length N.from → entry x' e < entry N.cap e → head_potential (N' x') e ≤ raised_cost (N' x') e
        fwd e he hx = ⊎_elim (λ q. raised_nonnegative.forward e he (omega arith)) (λ u. omega (arith, tight e he u)) (only e)

        bwd : (e : ℕ) → e < length N.from → 0 < entry x' e → raised_cost (N' x') e ≤ head_potential (N' x') e
        bwd e he hx = ⊎_elim (λ q. raised_nonnegative.backward e he (omega arith)) (λ u. omega (arith, tight e he u)) (only e)
