-- Assignments: the sums of potentials over pumps and sites, the bound that they give, and the marks that rule every assignment out.
use mathlib.Core.Path.{◌≡◌, sym, ◌∙◌}
use mathlib.Core.Bool.{Bool, true, false, not, ◌&&◌, false≢true}
use mathlib.Core.List.{List}
use Prim.Native.Nat.{ℕ, ◌+◌, ◌*◌, ◌≤◌, ◌<◌}
use native.Mathlib.Nat.{mul-le-mul_left}
use native.Mathlib.Omega.{arith}
use native.Mathlib.Decide.{ℕ_discrete}
use Rattle.prelude.specs.Choice.{indicator}
use Rattle.prelude.specs.Lists.{Every}
use Rattle.prelude.specs.Sums.{sum_to}
use Rattle.prelude.proofs.Lists.{every_map, every_image}
use Rattle.prelude.proofs.Sums.{sum_to_ext, sum_to_none, sum_to_split, sum_to_le, sum_to_same}
use Rattle.arc_records.specs.Arcs.{Arc}
use Rattle.network.specs.Network.{Load, arcs, sum_of, leaving, entering, degree, cost, crosses}
use Rattle.network.specs.Question.{Setting, pumps, sites, PumpToSite, Assignment}
use Rattle.network.proofs.Sums.{by_vertex, sum_of_none, sum_of_le, sum_of_add}

-- an arc from one of the first h vertices to one of the k after them
pub record Between (h k : ℕ) (e : Arc) : Type 0 where
  pub low : e.tail < h
  pub high : h ≤ e.head
  pub below : e.head < h + k

-- an arc from a pump to a site is one
pub crosses_over : (st : Setting) (e : Arc) → e.head < st.n → PumpToSite st e → Between (pumps st) (sites st) e
crosses_over st e h p = record { low = p.from_pump; high = p.to_site; below = omega (arith, h) }

module _ (h k : ℕ) (f : List Load) (rule : Every (Between h k) (arcs f)) where
  each : Every (λ l. Between h k l.arc) f
  each = every_image (λ l. l.arc) (Between h k) f rule

  -- nothing enters a pump, nothing leaves a site
  pub enters_no_pump : (v : ℕ) → v < h → entering v f ≡ 0
  enters_no_pump v b = sum_of_none (λ e. e.head) v f (every_map (λ l (p : Between h k l.arc). omega arith) f each)

  pub leaves_no_site : (v : ℕ) → h ≤ v → leaving v f ≡ 0
  leaves_no_site v b = sum_of_none (λ e. e.tail) v f (every_map (λ l (p : Between h k l.arc). omega arith) f each)

  -- over the arcs chosen what stands at their pumps is no more than what stands at all pumps, since none is chosen twice
  pub pumps_most : ((v : ℕ) → v < h → degree v f ≤ 1) → (g : ℕ → ℕ) → sum_of (λ e. g e.tail) f ≤ sum_to h g
  pumps_most once g =
      omega (
        arith,
        by_vertex (λ e. e.tail) g h f (every_map (λ l (p : Between h k l.arc). p.low) f each),
        sum_to_le h (λ v. g v * leaving v f) g (λ v b. omega (arith, mul-le-mul_left (g v) (one v b))),
      )
    where
      one : (v : ℕ) → v < h → leaving v f ≤ 1
      one v b = omega (arith, once v b)

  -- and it is as much where nothing stands at those that are spare
  pub pumps_sum : ((v : ℕ) → v < h → degree v f ≤ 1) → (g : ℕ → ℕ) → ((v : ℕ) → v < h → degree v f ≡ 0 → g v ≡ 0) → sum_of (λ e. g e.tail) f ≡ sum_to h g
  pumps_sum once g spare =
      by_vertex (λ e. e.tail) g h f (every_map (λ l (p : Between h k l.arc). p.low) f each)
      ∙ sum_to_ext h (λ v. g v * leaving v f) g (λ v b. go v b (ℕ_discrete (leaving v f) 0))
    where
      go : (v : ℕ) → v < h → Dec (leaving v f ≡ 0) → g v * leaving v f ≡ g v
      go v b (yes q) = rw q (omega (arith, spare v b (omega (arith, enters_no_pump v b))))
      go v b (no q) = let e : leaving v f ≡ 1 = omega (arith, once v b) in rw e (omega arith)

  -- and what stands at their sites is what stands at all sites, since each is served once
  pub sites_sum : ((v : ℕ) → h ≤ v → v < h + k → degree v f ≡ 1) → (g : ℕ → ℕ) → sum_of (λ e. g e.head) f ≡ sum_to k (λ i. g (h + i))
  sites_sum once g =
      by_vertex (λ e. e.head) g (h + k) f (every_map (λ l (p : Between h k l.arc). p.below) f each)
      ∙ sum_to_split h k (λ v. g v * entering v f)
      ∙ (omega (
        arith,
        sum_to_none h (λ v. g v * entering v f) (λ v b. rw (enters_no_pump v b) (omega arith)),
        sum_to_ext k (λ i. g (h + i) * entering (h + i) f) (λ i. g (h + i)) (λ i b. rw (one i b) (omega arith)),
      ))
    where
      one : (i : ℕ) → i < k → entering (h + i) f ≡ 1
      one i b = omega (arith, leaves_no_site (h + i) (omega arith), once (h + i) (omega arith) (omega arith))

module _ (st : Setting) (k : ℕ) (whole : pumps st + k ≡ st.n) (net : List Arc) (rule : Every (Between (pumps st) k) net) (f : List Load) (a : Assignment st net f) where
  here : Every (Between (pumps st) k) (arcs f)
  here = rw a.each rule

  used : (v : ℕ) → v < pumps st → degree v f ≤ 1
  used v h = omega (arith, a.pumps_once v h)

  served : (v : ℕ) → pumps st ≤ v → v < pumps st + k → degree v f ≡ 1
  served v g b = a.sites_once v g (omega arith)

  -- no assignment costs less than the potentials say: those of sites are z, lifted by c, and those of pumps are y
  pub assignment_above : (c : ℕ) (y z : ℕ → ℕ) → Every (λ e. z e.head ≤ y e.tail + (e.weight + c)) net → sum_to k (λ i. z (pumps st + i)) ≤ sum_to (pumps st) y + cost f + c * k
  assignment_above c y z feasible =
      omega (
        arith,
        pumps_most (pumps st) k f here used y,
        sites_sum (pumps st) k f here served z,
        sites_sum (pumps st) k f here served (λ v. c),
        sum_to_same k c,
        sum_of_add (λ e. y e.tail) (λ e. e.weight + c) f,
        sum_of_add (λ e. e.weight) (λ e. c) f,
        sum_of_le (λ e. z e.head) (λ e. y e.tail + (e.weight + c)) f (every_image (λ l. l.arc) (λ e. z e.head ≤ y e.tail + (e.weight + c)) f (rw a.each feasible)),
      )

  -- outside of a closed set there are no more sites than pumps
  pub closed_fewer : (m : ℕ → Bool) → Every (λ e. crosses m e ≡ false) net → sum_to k (λ i. indicator (not (m (pumps st + i)))) ≤ sum_to (pumps st) (λ i. indicator (not (m i)))
  closed_fewer m closed =
      omega (
        arith,
        pumps_most (pumps st) k f here used (λ v. indicator (not (m v))),
        sites_sum (pumps st) k f here served (λ v. indicator (not (m v))),
        sum_of_le (λ e. indicator (not (m e.head))) (λ e. indicator (not (m e.tail))) f
            (every_map (λ l (q : crosses m l.arc ≡ false). outside (m l.arc.tail) (m l.arc.head) q) f
            (every_image (λ l. l.arc) (λ e. crosses m e ≡ false) f (rw a.each closed))),
      )
    where
      outside : (t u : Bool) → (t && not u) ≡ false → indicator (not u) ≤ indicator (not t)
      outside true true q = omega arith
      outside true false q = absurd (false≢true (sym q))
      outside false u q = go u
        where
          go : (u : Bool) → indicator (not u) ≤ 1
          go true = omega arith
          go false = omega arith
