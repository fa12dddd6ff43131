-- Closed walks: none where numbers rise along every arc, and one where amounts circulate.
use mathlib.Core.Path.{◌≡◌, refl, sym}
use mathlib.Core.Logic.{◌≢◌}
use mathlib.Core.List.{List, [], ◌∷◌}
use Prim.Native.Nat.{ℕ, ◌+◌, ◌≤◌, ◌<◌}
use native.Mathlib.Omega.{arith}
use lib.IntN.{ℤ, pos}
use lib.Signed.{◌<ℤ◌}
use Rattle.prelude.specs.Lists.{Every, Member}
use Rattle.prelude.proofs.Integers.{pos_part, neg_part, parts_lt, parts_sub, signed}
use Rattle.prelude.proofs.Lists.{every_at}
use Rattle.arc_records.specs.Arcs.{Arc, delta}
use Rattle.network.specs.Network.{Load, arcs, SelfLoop, sum_of, leaving, entering, balance}
use Rattle.network.specs.Question.{Leads, ClosedWalk}
use Rattle.network.proofs.Sums.{Inside}
use Rattle.network.proofs.Paths.{Taken, take_one, Found, Unit_flow, walk_in}

-- ---- numbers that rise

module _ (net : List Arc) (y : ℕ → ℤ) (rule : Every (λ e. y e.tail <ℤ y e.head) net) where
  -- each arc of a walk goes up by one at least
  climbs : (es : List Arc) (u t : ℕ) → Every (λ e. Member e net) es → Leads u es t
      → pos_part (y u) + neg_part (y t) ≤ pos_part (y t) + neg_part (y u)
  climbs [] u t k h = rw h (omega arith)
  climbs (e ∷ es) u t k h =
      rw (← h.0) (omega (arith, parts_lt (every_at (λ e. y e.tail <ℤ y e.head) net rule k.0), climbs es e.head t k.1 h.1))

  pub rising_excludes : ¬ (ClosedWalk net)
  rising_excludes c = go c.walk c.nonempty c.over c.leads
    where
      go : (es : List Arc) → es ≢ [] → Every (λ e. Member e net) es → Leads c.vertex es c.vertex → ⊥
      go [] some k h = some refl
      go (e ∷ es) some k h =
          absurd (
          omega (
            arith,
            parts_lt (every_at (λ e. y e.tail <ℤ y e.head) net rule k.0),
            rw (← h.0) at (climbs es e.head c.vertex k.1 h.1),
          )
          )

-- ---- a self-loop

some_arc : (e : Arc) (es : List Arc) → e ∷ es ≢ []
some_arc e es q = let z : ◌≡◌ {A = ℕ} 0 1 = cc in absurd (omega arith)

pub loop_closed : (net : List Arc) (e : Arc) → SelfLoop e → Member e net → ClosedWalk net
loop_closed net e s m = record { vertex = e.tail; walk = e ∷ []; nonempty = some_arc e []; over = (m, tt); leads = (refl, sym s) }

-- ---- amounts that circulate

-- one unit less on an arc is one unit on its way from the head of that arc back to its tail
module _ (n : ℕ) (f : List Load) (inside : Every (Inside n) (arcs f)) (balances : (v : ℕ) → v < n → balance v f ≡ pos 0) (some : 0 < sum_of (λ e. 1) f) where
  taken : Taken (λ e. 1) f
  taken = take_one (λ e. 1) f some

  unit_back : Unit_flow n taken.arc.head taken.arc.tail taken.rest
  unfolding taken
  unit_back v h =
      omega (
        signed,
        balances v h,
        parts_sub (pos (leaving v f)) (pos (entering v f)),
        taken.sums (λ e. delta e.tail v),
        taken.sums (λ e. delta e.head v),
      )

  way_back : Found taken.arc.head taken.arc.tail taken.rest
  way_back =
      walk_in (sum_of (λ e. 1) taken.rest) n taken.arc.head taken.arc.tail taken.rest
      (every_at (Inside n) (arcs f) inside taken.known).1 (rw taken.same inside) refl unit_back

  pub circulation_closes : ClosedWalk (arcs f)
  circulation_closes = record {
    vertex = taken.arc.tail;
    walk = taken.arc ∷ way_back.path;
    nonempty = some_arc taken.arc way_back.path;
    over = (taken.known, rw taken.same at way_back.over);
    leads = (refl, way_back.leads);
  }
