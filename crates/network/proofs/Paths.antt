-- Walks: none is shorter than the difference of potentials at its ends, none leaves a closed set, and amounts with the balances of a path hold one.
use mathlib.Core.Path.{◌≡◌, refl, sym, ◌∙◌, ap}
use mathlib.Core.Logic.{inl, inr}
use mathlib.Core.Bool.{Bool, true, false, false≢true}
use mathlib.Core.List.{List, [], ◌∷◌}
use Prim.Native.Nat.{ℕ, zero, suc, ◌+◌, ◌≤◌, ◌<◌}
use native.Mathlib.Omega.{arith}
use native.Mathlib.Decide.{ℕ_discrete}
use Rattle.prelude.specs.Choice.{indicator}
use Rattle.prelude.specs.Lists.{Every, Member}
use Rattle.prelude.proofs.Booleans.{indicator_true}
use Rattle.prelude.proofs.Lists.{every_at}
use Rattle.arc_records.specs.Arcs.{Arc, delta}
use Rattle.network.specs.Network.{Load, arcs, sum_of, leaving, entering, cost, total, crosses}
use Rattle.network.specs.Question.{Setting, Leads, NoWalk}
use Rattle.network.proofs.Sums.{Compared, compared, delta_same, delta_other, Inside, closed_arc}

-- ---- a bound from below

pub walk_above : (y : ℕ → ℕ) (net : List Arc) → Every (λ e. y e.head ≤ y e.tail + e.weight) net
    → (es : List Arc) (u t : ℕ) → Every (λ e. Member e net) es → Leads u es t → y t ≤ y u + total es
unfolding total
walk_above y net rule [] u t k h = rw h (omega arith)
walk_above y net rule (e ∷ es) u t k h =
    rw (← h.0) (omega (arith, every_at (λ e. y e.head ≤ y e.tail + e.weight) net rule k.0, walk_above y net rule es e.head t k.1 h.1))

-- ---- no walk leaves a closed set

walk_inside : (m : ℕ → Bool) (net : List Arc) → Every (λ e. crosses m e ≡ false) net
    → (es : List Arc) (u t : ℕ) → Every (λ e. Member e net) es → Leads u es t → m u ≡ true → m t ≡ true
walk_inside m net rule [] u t k e h = rw e at h
walk_inside m net rule (e ∷ es) u t k l h =
    walk_inside m net rule es e.head t k.1 l.1
    (indicator_true (m e.head) (omega (arith, closed_arc m e (every_at (λ e. crosses m e ≡ false) net rule k.0), ap (λ (u : ℕ). indicator (m u)) l.0, ap indicator h)))

pub no_walk : (st : Setting) (m : ℕ → Bool) (net : List Arc) → m st.s ≡ true → m st.t ≡ false → Every (λ e. crosses m e ≡ false) net → NoWalk st net
no_walk st m net ms mt rule es w = false≢true (sym mt ∙ walk_inside m net rule es st.s st.t w.over w.leads ms)

-- ---- amounts with the balances of a path hold a walk

-- an arc that the sum of g counts, with an amount above 0, and the amounts with one less of it
pub record Taken (g : Arc → ℕ) (f : List Load) : Type 0 where
  pub arc : Arc
  pub rest : List Load
  pub same : arcs rest ≡ arcs f
  pub known : Member arc (arcs f)
  pub counted : 0 < g arc
  pub sums : (h : Arc → ℕ) → sum_of h f ≡ sum_of h rest + h arc

pub take_one : (g : Arc → ℕ) (f : List Load) → 0 < sum_of g f → Taken g f
unfolding sum_of
take_one g [] h = absurd (omega arith)
take_one g (l ∷ f) h = go l.amount (g l.arc) refl refl (λ (p : 0 < sum_of g f). take_one g f p)
  where
    later : Taken g f → Taken g (l ∷ f)
    later r = record {
      arc = r.arc;
      rest = l ∷ r.rest;
      same = ap (λ (es : List Arc). l.arc ∷ es) r.same;
      known = inr r.known;
      counted = r.counted;
      sums = λ k. omega (arith, r.sums k);
    }

    go : (x k : ℕ) → l.amount ≡ x → g l.arc ≡ k → (0 < sum_of g f → Taken g f) → Taken g (l ∷ f)
    go zero k e d below = later (below (omega (arith, rw e at h)))
    go (suc x) zero e d below = later (below (omega (arith, rw d at h)))
    go (suc x) (suc k) e d below = record {
      arc = l.arc;
      rest = record { arc = l.arc; amount = x } ∷ f;
      same = refl;
      known = inl refl;
      counted = omega (arith, d);
      sums = λ j. rw e (omega arith);
    }

-- an arc that leaves u
abbrev Leaving : ℕ → Arc → ℕ
Leaving u e = delta e.tail u

starts : (u : ℕ) (f : List Load) (r : Taken (Leaving u) f) → r.arc.tail ≡ u
starts u f r = go (compared r.arc.tail u)
  where
    go : Compared r.arc.tail u → r.arc.tail ≡ u
    go (inl (s, i)) = s
    go (inr (s, i)) = absurd (omega (arith, r.counted, i))

-- a walk over the arcs from u to t, no longer than the amounts' cost
pub record Found (u t : ℕ) (f : List Load) : Type 0 where
  pub path : List Arc
  pub over : Every (λ e. Member e (arcs f)) path
  pub leads : Leads u path t
  pub short : total path ≤ cost f

-- what leaves each vertex beyond what enters it, of one unit on its way from u to t
abbrev pub Unit_flow : ℕ → ℕ → ℕ → List Load → Type 0
Unit_flow n u t f = (v : ℕ) → v < n → leaving v f + delta t v ≡ entering v f + delta u v

-- one arc further
further : (u t : ℕ) (f : List Load) (r : Taken (Leaving u) f) → Found r.arc.head t r.rest → Found u t f
unfolding total
further u t f r w = record {
  path = r.arc ∷ w.path;
  over = (r.known, rw r.same at w.over);
  leads = (starts u f r, w.leads);
  short = omega (arith, r.sums (λ e. e.weight), w.short);
}

unit_after : (n u t : ℕ) (f : List Load) (r : Taken (Leaving u) f) → Unit_flow n u t f → Unit_flow n r.arc.head t r.rest
unit_after n u t f r kept v h = omega (arith, kept v h, rw (starts u f r) at (r.sums (λ e. delta e.tail v)), r.sums (λ e. delta e.head v))

walk_on : (n u t : ℕ) (f : List Load) → u < n → Unit_flow n u t f → ((r : Taken (Leaving u) f) → Found r.arc.head t r.rest) → Dec (u ≡ t) → Found u t f
unfolding total
walk_on n u t f hu kept next (yes e) = record { path = []; over = tt; leads = e; short = omega arith }
walk_on n u t f hu kept next (no h) = further u t f r (next r)
  where
    r : Taken (Leaving u) f
    r = take_one (Leaving u) f (omega (arith, kept u hu, delta_other t u (λ e. h (sym e)), delta_same u u refl))

-- by the sum of the amounts, k
pub walk_in : (k n u t : ℕ) (f : List Load) → u < n → Every (Inside n) (arcs f) → sum_of (λ e. 1) f ≡ k → Unit_flow n u t f → Found u t f
walk_in zero n u t f hu inside sum kept = walk_on n u t f hu kept (λ r. absurd (omega (arith, r.sums (λ e. 1)))) (ℕ_discrete u t)
walk_in (suc k) n u t f hu inside sum kept =
    walk_on n u t f hu kept
    (λ r. walk_in k n r.arc.head t r.rest (every_at (Inside n) (arcs f) inside r.known).1 (rw r.same inside)
    (omega (arith, r.sums (λ e. 1))) (unit_after n u t f r kept))
    (ℕ_discrete u t)
