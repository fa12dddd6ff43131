-- Certificates by marks speak only of the marks of vertices: marks that agree there do as well.
use mathlib.Core.Path.{◌≡◌, sym, ◌∙◌, ap, ap₂, subst}
use mathlib.Core.Bool.{Bool, not, ◌&&◌}
use mathlib.Core.List.{List, [], ◌∷◌}
use Prim.Native.Nat.{ℕ, ◌+◌, ◌*◌, ◌<◌}
use native.Mathlib.Omega.{arith}
use lib.IntN.{ℤ, pos}
use Rattle.prelude.specs.Choice.{indicator}
use Rattle.prelude.specs.Integers.{eq_z}
use Rattle.prelude.specs.Lists.{Every}
use Rattle.arc_records.specs.Arcs.{Arc}
use Rattle.network.specs.Network.{Load, arcs, crosses, cut, sum_across}
use Rattle.network.specs.Question.{Setting}
use Rattle.network.specs.Certificate.{marked}
use Rattle.network.proofs.Rules.{InRange, Marks, Closed, FlowCertificate, NoPathCertificate}
use Rattle.network.proofs.Sums.{Inside}

module _ (st : Setting) (y y' : ℕ → ℤ) (same : (v : ℕ) → v < st.n → y v ≡ y' v) where
  same_mark : (v : ℕ) → v < st.n → marked y v ≡ marked y' v
  same_mark v h = ap (λ (z : ℤ). eq_z z (pos 1)) (same v h)

  same_crosses : (e : Arc) → Inside st.n e → crosses (marked y) e ≡ crosses (marked y') e
  same_crosses e i = ap₂ (λ (a b : Bool). a && not b) (same_mark e.tail i.0) (same_mark e.head i.1)

  same_cut : (net : List Arc) → Every (Inside st.n) net → cut (marked y) net ≡ cut (marked y') net
  unfolding sum_across
  same_cut [] i = omega arith
  same_cut (e ∷ net) i = ap₂ (λ (b : Bool) (k : ℕ). e.weight * indicator b + k) (same_crosses e i.0) (same_cut net i.1)

  marks_too : Marks st y → Marks st y'
  marks_too m v h = subst (InRange (pos 0) (pos 1)) (same v h) (m v h)

  closed_too : (f : List Load) → Every (Inside st.n) (arcs f) → Every (Closed y) f → Every (Closed y') f
  closed_too [] i c = tt
  closed_too (l ∷ f) i c = (sym (same_crosses l.arc i.0) ∙ c.0, closed_too f i.1 c.1)

  pub flow_too : (f : List Load) (v : ℕ) → st.s < st.n → st.t < st.n → Every (Inside st.n) (arcs f) → FlowCertificate st y f v → FlowCertificate st y' f v
  flow_too f v hs ht i c = record {
    marks = marks_too c.marks;
    source = sym (same st.s hs) ∙ c.source;
    sink = sym (same st.t ht) ∙ c.sink;
    amounts = c.amounts;
    balances = c.balances;
    sums = c.sums ∙ ap pos (same_cut (arcs f) i);
    answer = c.answer;
  }

  pub no_path_too : (f : List Load) → st.s < st.n → st.t < st.n → Every (Inside st.n) (arcs f) → NoPathCertificate st y f → NoPathCertificate st y' f
  no_path_too f hs ht i c = record {
    marks = marks_too c.marks;
    source = sym (same st.s hs) ∙ c.source;
    sink = sym (same st.t ht) ∙ c.sink;
    amounts = c.amounts;
    closed = closed_too f i c.closed;
  }
