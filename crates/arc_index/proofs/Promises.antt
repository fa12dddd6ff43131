-- What is promised of an index holds.
use mathlib.Core.Path.{◌≡◌, sym, ap, subst, ◌∙◌}
use mathlib.Core.List.{List, [], ◌∷◌}
use mathlib.Core.Logic.{◌≢◌, inl, inr, ⊎_elim}
use Prim.Native.Nat.{ℕ, zero, suc, ◌+◌, ◌-◌, ◌<◌, ◌≤◌}
use native.Mathlib.Decide.{ℕ_discrete}
use native.Mathlib.Omega.{arith}
use lib.ListN.{length}
use borrow.Author.Tests.{eq-eqb, ne_eqb}
use Rattle.prelude.specs.Lists.{Every, Member}
use Rattle.prelude.proofs.Lists.{every_map, every_at}
use Rattle.packed_arcs.specs.Entries.{entry}
use Rattle.arc_index.specs.ArcIndex.{first_arc, empty_index, index_from, scan_from}
use Rattle.arc_index.specs.Promises.{ChainIsScan, Ascending, ScanIsExact}
use Rattle.arc_index.proofs.Growing.{grown}
use Rattle.arc_index.proofs.Walks.{scan, scan_as, walk_from}

-- ---- chains

pub chain_is_scan : ChainIsScan
chain_is_scan m ends few l b v k hv hk =
    let G = grown m ends few l b in
    let links = (index_from 0 ends (empty_index m)).links in
    walk_from (entry ends) (length ends) links (omega arith) G.nexts k v 0 (first_arc links v) (G.heads v hv) (omega arith) (omega arith)
    ∙ ap (scan (entry ends) v 0) (whole (length ends))
    ∙ sym (scan_as (entry ends) ends 0 v (λ i g. ap (entry ends) (none i)))
  where
    whole : (n : ℕ) → n - 0 ≡ n
    whole n = omega arith

    none : (i : ℕ) → 0 + i ≡ i
    none i = omega arith

-- ---- scans

-- what a scan from k on has
record Scanned (k : ℕ) (us : List ℕ) (v : ℕ) (arcs : List ℕ) : Type 0 where
  above : Every (λ e. k ≤ e) arcs
  within : (e : ℕ) → Member e arcs → e < k + length us
  ends_at : (e : ℕ) → Member e arcs → entry us (e - k) ≡ v
  all : (e : ℕ) → e < length us → entry us e ≡ v → Member (k + e) arcs
  ascending : Ascending arcs

scanned : (k : ℕ) (us : List ℕ) (v : ℕ) → Scanned k us v (scan_from k us v)
unfolding scan_from
scanned k [] v = record { above = tt; within = λ e i. absurd i; ends_at = λ e i. absurd i; all = λ e h. absurd (omega arith); ascending = tt }
scanned k (u ∷ us) v = go (ℕ_discrete u v) (scanned (k + 1) us v)
  where
    arcs : List ℕ
    arcs = scan_from (k + 1) us v

    -- an arc after the first
    later : Scanned (k + 1) us v arcs → (e : ℕ) → Member e arcs → entry (u ∷ us) (e - k) ≡ v
    later S e i =
        let a : k + 1 ≤ e = every_at (λ d. k + 1 ≤ d) arcs S.above i in
        let b : e - k ≡ suc (e - (k + 1)) = omega arith in
        rw b (S.ends_at e i)

    next : Scanned (k + 1) us v arcs → (e : ℕ) → suc e < suc (length us) → entry us e ≡ v → Member (k + suc e) arcs
    next S e h q = subst (λ (d : ℕ). Member d arcs) (omega arith) (S.all e (omega arith) q)

    with_first : u ≡ v → Scanned (k + 1) us v arcs → Scanned k (u ∷ us) v (k ∷ arcs)
    with_first q S = record {
      above = (omega arith, every_map (λ e h. omega arith) arcs S.above);
      within = λ e i. ⊎_elim (λ r. omega arith) (λ r. omega (arith, S.within e r)) i;
      ends_at = λ e i. ⊎_elim (λ r. first e r) (λ r. later S e r) i;
      all = all₁;
      ascending = (every_map (λ e h. omega arith) arcs S.above, S.ascending);
    }
      where
        first : (e : ℕ) → e ≡ k → entry (u ∷ us) (e - k) ≡ v
        first e r = let z : e - k ≡ 0 = omega arith in rw z q

        all₁ : (e : ℕ) → e < length (u ∷ us) → entry (u ∷ us) e ≡ v → Member (k + e) (k ∷ arcs)
        all₁ zero h r = inl (omega arith)
        all₁ (suc e) h r = inr (next S e h r)

    without : u ≢ v → Scanned (k + 1) us v arcs → Scanned k (u ∷ us) v arcs
    without ne S = record {
      above = every_map (λ e h. omega arith) arcs S.above;
      within = λ e i. omega (arith, S.within e i);
      ends_at = later S;
      all = all₁;
      ascending = S.ascending;
    }
      where
        all₁ : (e : ℕ) → e < length (u ∷ us) → entry (u ∷ us) e ≡ v → Member (k + e) arcs
        all₁ zero h r = absurd (ne r)
        all₁ (suc e) h r = next S e h r

    go : Dec (u ≡ v) → Scanned (k + 1) us v arcs → Scanned k (u ∷ us) v (scan_from k (u ∷ us) v)
    go (yes q) S = rw (eq-eqb u v q) (with_first q S)
    go (no ne) S = rw (ne_eqb u v ne) (without ne S)

pub scan_is_exact : ScanIsExact
scan_is_exact ends v =
    let S = scanned 0 ends v in
    record {
      within = λ e i. omega (arith, S.within e i);
      ends_at = λ e i. subst (λ (d : ℕ). entry ends d ≡ v) (whole e) (S.ends_at e i);
      all = λ e h q. subst (λ (d : ℕ). Member d (scan_from 0 ends v)) (none e) (S.all e h q);
      ascending = S.ascending;
    }
  where
    whole : (n : ℕ) → n - 0 ≡ n
    whole n = omega arith

    none : (i : ℕ) → 0 + i ≡ i
    none i = omega arith
