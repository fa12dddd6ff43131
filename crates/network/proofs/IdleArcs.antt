-- Arcs that change no balance, whatever they carry: a maximum flow has the same value with them and without them.
use mathlib.Core.Path.{◌≡◌, refl, ap, ap₂}
use mathlib.Core.Logic.{◌↔◌}
use mathlib.Core.List.{List, [], ◌∷◌, nil≢cons, cons≢nil, head-eq_of_cons-eq, tail-eq_of_cons-eq}
use Prim.Native.Nat.{ℕ, ◌+◌, ◌*◌, ◌≤◌}
use native.Mathlib.Omega.{arith}
use lib.IntN.{pos}
use lib.Signed.{◌≤ℤ◌}
use Rattle.prelude.specs.Lists.{Every}
use Rattle.prelude.proofs.Integers.{signed}
use Rattle.arc_records.specs.Arcs.{Arc, delta}
use Rattle.network.specs.Network.{SelfLoop, Load, arcs, sum_of, leaving, entering, balance}
use Rattle.network.specs.Question.{Setting, Flow, MaximumFlow}
use Rattle.network.proofs.Rules.{WithinCapacity}
use Rattle.network.proofs.Sound.{balance_parts}

-- ---- arcs that carry nothing from vertex to vertex

-- What the arc carries within its capacity leaves each vertex as much as it enters it.
abbrev pub Idle : Arc → Type 0
Idle e = (x v : ℕ) → x ≤ e.weight → x * delta e.tail v ≡ x * delta e.head v

-- It is so with the capacity 0, and for a self-loop whatever it carries.
pub empty_idle : (e : Arc) → e.weight ≡ 0 → Idle e
empty_idle e z x v h =
    let none : x ≡ 0 = omega arith in
    rw none (omega arith)

pub loop_even : (e : Arc) → SelfLoop e → (x v : ℕ) → x * delta e.tail v ≡ x * delta e.head v
loop_even e q x v = ap (λ (u : ℕ). x * delta u v) q

-- The two lists are the same but for idle arcs, which each may have anywhere.
pub data SameButIdle : List Arc → List Arc → Type 0 where
  end : SameButIdle [] []
  keep : {e : Arc} {xs ys : List Arc} → SameButIdle xs ys → SameButIdle (e ∷ xs) (e ∷ ys)
  first : {e : Arc} {xs ys : List Arc} → Idle e → SameButIdle xs ys → SameButIdle (e ∷ xs) ys
  second : {e : Arc} {xs ys : List Arc} → Idle e → SameButIdle xs ys → SameButIdle xs (e ∷ ys)

turned : {xs ys : List Arc} → SameButIdle xs ys → SameButIdle ys xs
turned end = end
turned (keep p) = keep (turned p)
turned (first i p) = second i (turned p)
turned (second i p) = first i (turned p)

-- ---- amounts carried over

-- Amounts within the capacities of other arcs, with the balances of the amounts f.
record Carried (f : List Load) (net : List Arc) : Type 0 where
  loads : List Load
  each : arcs loads ≡ net
  within : Every WithinCapacity loads
  even : (v : ℕ) → leaving v loads + entering v f ≡ entering v loads + leaving v f

-- What idle arcs carry is left out, and those that come in get the amount 0.
carried : {xs ys : List Arc} → SameButIdle xs ys → (f : List Load) → arcs f ≡ xs → Every WithinCapacity f → Carried f ys
unfolding sum_of
carried end [] e w = record { loads = []; each = refl; within = tt; even = λ v. omega arith }
carried end (l ∷ f) e w = absurd (cons≢nil e)
carried (keep p) [] e w = absurd (nil≢cons e)
carried (keep p) (l ∷ f) e w =
    let r = carried p f (tail-eq_of_cons-eq e) w.1 in
    record { loads = l ∷ r.loads; each = ap₂ ◌∷◌ (head-eq_of_cons-eq e) r.each; within = (w.0, r.within); even = λ v. omega (arith, r.even v) }
carried (first i p) [] e w = absurd (nil≢cons e)
carried (first i p) (l ∷ f) e w =
    let r = carried p f (tail-eq_of_cons-eq e) w.1 in
    let idle : Idle l.arc = rw (head-eq_of_cons-eq e) i in
    record { loads = r.loads; each = r.each; within = r.within; even = λ v. omega (arith, r.even v, idle l.amount v w.0) }
carried (second {e = d} i p) f e w =
    let r = carried p f e w in
    record {
      loads = record { arc = d; amount = 0 } ∷ r.loads;
      each = ap (λ (l : List Arc). d ∷ l) r.each;
      within = (omega arith, r.within);
      even = λ v. omega (arith, r.even v);
    }

-- ---- maximum flows

module _ (st : Setting) where
  flow_carried : {net new : List Arc} (f : List Load) → Flow st net f → (r : Carried f new) → Flow st new r.loads
  flow_carried f c r = record { each = r.each; within = r.within; conserved = λ v h a b. omega (arith, r.even v, c.conserved v h a b) }

  balance_carried : (v : ℕ) {new : List Arc} (f : List Load) (r : Carried f new) → balance v r.loads ≡ balance v f
  balance_carried v f r =
      omega (signed, r.even v, balance_parts (leaving v r.loads) (entering v r.loads), balance_parts (leaving v f) (entering v f))

  over : {xs ys : List Arc} → SameButIdle xs ys → (f : List Load) → Flow st xs f → Carried f ys
  over p f c = carried p f c.each c.within

  maximum_carried : {xs ys : List Arc} → SameButIdle xs ys → (v : ℕ) → MaximumFlow st xs v → MaximumFlow st ys v
  maximum_carried {xs} {ys} p v h =
      let r = over p h.flow h.is_flow in
      record {
        flow = r.loads;
        is_flow = flow_carried h.flow h.is_flow r;
        attained = omega (signed, balance_carried st.s h.flow r, h.attained);
        greatest = most;
      }
    where
      most : (f : List Load) → Flow st ys f → balance st.s f ≤ℤ pos v
      most f c =
          let r = over (turned p) f c in
          rw (balance_carried st.s f r) at (h.greatest r.loads (flow_carried f c r))

  pub same_maximum : {xs ys : List Arc} → SameButIdle xs ys → (v : ℕ) → MaximumFlow st xs v ↔ MaximumFlow st ys v
  same_maximum p v = (maximum_carried p v, maximum_carried (turned p) v)
