-- Weak duality of flows and cuts: no flow carries more from the source to the sink than a cut between them holds.
use mathlib.Core.Path.{◌≡◌, refl}
use mathlib.Core.Logic.{◌≢◌, inl, inr}
use mathlib.Core.Bool.{Bool, true, false}
use mathlib.Core.List.{List, [], ◌∷◌}
use Prim.Native.Nat.{ℕ, ◌+◌, ◌*◌, ◌≤◌, ◌<◌}
use native.Mathlib.Nat.{mul-le-mul_left, mul-le-mul_right}
use native.Mathlib.Omega.{arith}
use Rattle.prelude.specs.Choice.{indicator}
use Rattle.prelude.specs.Lists.{Every}
use Rattle.arc_records.specs.Arcs.{Arc, delta}
use Rattle.network.specs.Network.{Load, arcs, sum_of, leaving, entering, crosses, cut, sum_across}
use Rattle.network.specs.Question.{Setting, Flow}
use Rattle.network.proofs.Sums.{Compared, compared, Inside, sum_to_at, across, crossing}

cut_bound : (m : ℕ → Bool) (f : List Load) → Every (λ l. l.amount ≤ l.arc.weight) f
    → sum_of (λ e. indicator (m e.tail)) f ≤ sum_of (λ e. indicator (m e.head)) f + cut m (arcs f)
unfolding sum_of sum_across
cut_bound m [] e = omega arith
cut_bound m (l ∷ f) e =
    omega (
      arith,
      mul-le-mul_left l.amount (crossing m l.arc),
      mul-le-mul_right (indicator (crosses m l.arc)) e.0,
      cut_bound m f e.1,
    )

module _ (st : Setting) (m : ℕ → Bool) (hs : st.s < st.n) (ms : m st.s ≡ true) (mt : m st.t ≡ false) where
  -- what leaves the marked side beyond what enters it is what leaves s beyond what enters s
  marked_side : (f : List Load) → Every (Inside st.n) (arcs f)
      → ((v : ℕ) → v < st.n → v ≢ st.s → v ≢ st.t → leaving v f ≡ entering v f)
      → sum_of (λ e. indicator (m e.tail)) f + entering st.s f ≡ sum_of (λ e. indicator (m e.head)) f + leaving st.s f
  marked_side f inside conserved =
      omega (
        arith,
        across (λ v. indicator (m v)) st.n f (λ v. entering st.s f * delta st.s v) (λ v. leaving st.s f * delta st.s v) inside
            (λ v h. at_vertex v h (compared st.s v)),
        sum_to_at st.n st.s (λ v. entering st.s f) hs,
        sum_to_at st.n st.s (λ v. leaving st.s f) hs,
      )
    where
      at_other : (v : ℕ) → v < st.n → v ≢ st.s → Compared st.t v → indicator (m v) * leaving v f ≡ indicator (m v) * entering v f
      at_other v h ns (inl (e, i)) = rw (← e, mt) (omega arith)
      at_other v h ns (inr (nt, i)) = rw (conserved v h ns (omega arith)) refl

      at_vertex : (v : ℕ) → v < st.n → Compared st.s v
          → indicator (m v) * leaving v f + entering st.s f * delta st.s v ≡ indicator (m v) * entering v f + leaving st.s f * delta st.s v
      at_vertex v h (inl (e, i)) = rw (i, ← e, ms) (omega arith)
      at_vertex v h (inr (ns, i)) = rw i (omega (arith, at_other v h (omega arith) (compared st.t v)))

  pub flow_below_cut : (net : List Arc) → Every (Inside st.n) net → (f : List Load) → Flow st net f → leaving st.s f ≤ entering st.s f + cut m net
  flow_below_cut net inside f fl =
      omega (arith, marked_side f (rw fl.each inside) fl.conserved, rw fl.each at (cut_bound m f fl.within))
