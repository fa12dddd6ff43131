-- The sum of amounts at a vertex, where one amount changes.
use mathlib.Core.Path.{◌≡◌}
use mathlib.Core.Bool.{Bool, true, false}
use mathlib.Core.List.{List, [], ◌∷◌}
use Prim.Native.Nat.{ℕ, zero, suc, ◌+◌, ◌*◌, ◌-◌, ◌<◌, ◌≤◌}
use native.Mathlib.Omega.{arith}
use lib.Dec.{eqb}
use lib.ListN.{length, set}
use Rattle.prelude.specs.Choice.{indicator}
use Rattle.packed_arcs.specs.Entries.{entry, zero_list, flow_at}

pub flow_none : (l : List ℕ) (n w : ℕ) → flow_at l (zero_list n) w ≡ 0
unfolding flow_at
flow_none [] n w = omega arith
flow_none (a ∷ l) zero w = omega arith
flow_none (a ∷ l) (suc n) w = omega (arith, flow_none l n w)

-- one arc's amount, raised or lowered by g
pub flow_add : (l x : List ℕ) (e g w : ℕ) → e < length l → length x ≡ length l → flow_at l (set x e (entry x e + g)) w ≡ flow_at l x w + indicator (eqb (entry l e) w) * g
unfolding flow_at
flow_add [] x e g w h n = absurd (omega arith)
flow_add (a ∷ l) [] e g w h n = absurd (omega arith)
flow_add (a ∷ l) (y ∷ x) zero g w h n = go (eqb a w)
  where
    go : (b : Bool) → indicator b * (y + g) + flow_at l x w ≡ indicator b * y + flow_at l x w + indicator b * g
    go true = omega arith
    go false = omega arith
flow_add (a ∷ l) (y ∷ x) (suc e) g w h n = omega (arith, flow_add l x e g w (omega arith) (omega arith))

pub flow_sub : (l x : List ℕ) (e g w : ℕ) → e < length l → length x ≡ length l → g ≤ entry x e → flow_at l (set x e (entry x e - g)) w + indicator (eqb (entry l e) w) * g ≡ flow_at l x w
unfolding flow_at
flow_sub [] x e g w h n k = absurd (omega arith)
flow_sub (a ∷ l) [] e g w h n k = absurd (omega arith)
flow_sub (a ∷ l) (y ∷ x) zero g w h n k = go (eqb a w)
  where
    go : (b : Bool) → indicator b * (y - g) + flow_at l x w + indicator b * g ≡ indicator b * y + flow_at l x w
    go true = omega arith
    go false = omega arith
flow_sub (a ∷ l) (y ∷ x) (suc e) g w h n k = omega (arith, flow_sub l x e g w (omega arith) (omega arith) k)
