-- Sums over loads, and the lemma that takes a sum over arcs to a sum over vertices.
use mathlib.Core.Path.{◌≡◌, refl, sym, ap}
use mathlib.Core.Bool.{Bool, true, false, not, ◌&&◌}
use mathlib.Core.Logic.{◌≢◌, ◌⊎◌, inl, inr}
use mathlib.Core.List.{List, [], ◌∷◌}
use Prim.Native.Nat.{ℕ, zero, suc, ◌+◌, ◌*◌, ◌≤◌, ◌<◌}
use native.Mathlib.Nat.{mul-le-mul_left}
use native.Mathlib.Omega.{arith}
use native.Mathlib.Decide.{ℕ_discrete}
use lib.Dec.{eqb, eqb→eq, eqb_refl}
use Rattle.prelude.specs.Choice.{indicator}
use Rattle.prelude.specs.Lists.{Every}
use Rattle.prelude.specs.Sums.{sum_to}
use Rattle.prelude.proofs.Booleans.{indicator_on, indicator_off}
use Rattle.prelude.proofs.Lists.{every_map, every_image}
use Rattle.prelude.proofs.Sums.{sum_to_ext, sum_to_add, sum_to_none}
use Rattle.arc_records.specs.Arcs.{Arc, delta}
use Rattle.network.specs.Network.{Load, arcs, sum_of, leaving, entering, crosses}

-- ---- the same vertex, or not

pub delta_same : (u v : ℕ) → u ≡ v → delta u v ≡ 1
unfolding delta
delta_same u v e = rw e (indicator_on (eqb v v) (eqb_refl v))

pub delta_other : (u v : ℕ) → u ≢ v → delta u v ≡ 0
unfolding delta
delta_other u v h = indicator_off (eqb u v) (λ t. h (eqb→eq u v t))

-- which of the two, as a fact to go by
abbrev pub Compared : ℕ → ℕ → Type 0
Compared u v = ((u ≡ v) × (delta u v ≡ 1)) ⊎ ((u ≢ v) × (delta u v ≡ 0))

pub compared : (u v : ℕ) → Compared u v
compared u v = go (ℕ_discrete u v)
  where
    go : Dec (u ≡ v) → Compared u v
    go (yes e) = inl (e, delta_same u v e)
    go (no h) = inr (h, delta_other u v h)

-- the one vertex k of the sum
pub sum_to_at : (n k : ℕ) (g : ℕ → ℕ) → k < n → sum_to n (λ v. g v * delta k v) ≡ g k
unfolding sum_to
sum_to_at zero k g h = absurd (omega arith)
sum_to_at (suc n) k g h = go (λ (b : k < n). sum_to_at n k g b) (compared k n)
  where
    go : (k < n → sum_to n (λ v. g v * delta k v) ≡ g k) → Compared k n → sum_to n (λ v. g v * delta k v) + g n * delta k n ≡ g k
    go below (inl (e, i)) =
        rw (i, ← e) (omega (arith, sum_to_none k (λ v. g v * delta k v) (λ v l. rw (delta_other k v (omega arith)) (omega arith))))
    go below (inr (e, i)) = rw i (omega (arith, below (omega arith)))

-- ---- sums over loads

pub sum_of_add : (g h : Arc → ℕ) (f : List Load) → sum_of (λ e. g e + h e) f ≡ sum_of g f + sum_of h f
unfolding sum_of
sum_of_add g h [] = refl
sum_of_add g h (l ∷ f) = omega (arith, sum_of_add g h f)

pub sum_of_le : (g h : Arc → ℕ) (f : List Load) → Every (λ l. g l.arc ≤ h l.arc) f → sum_of g f ≤ sum_of h f
unfolding sum_of
sum_of_le g h [] e = omega arith
sum_of_le g h (l ∷ f) e = omega (arith, mul-le-mul_left l.amount e.0, sum_of_le g h f e.1)

-- no arc ends at v
pub sum_of_none : (end : Arc → ℕ) (v : ℕ) (f : List Load) → Every (λ l. end l.arc ≢ v) f → sum_of (λ e. delta (end e) v) f ≡ 0
unfolding sum_of
sum_of_none end v [] e = refl
sum_of_none end v (l ∷ f) e = rw (delta_other (end l.arc) v e.0) (omega (arith, sum_of_none end v f e.1))

-- The sum of amount × g at one end of each arc is the sum over the vertices of g times the amounts at that end.
pub by_vertex : (end : Arc → ℕ) (g : ℕ → ℕ) (n : ℕ) (f : List Load) → Every (λ l. end l.arc < n) f
    → sum_of (λ e. g (end e)) f ≡ sum_to n (λ v. g v * sum_of (λ e. delta (end e) v) f)
unfolding sum_of
by_vertex end g n [] b = sym (sum_to_none n (λ v. g v * 0) (λ v h. omega arith))
by_vertex end g n (l ∷ f) b =
    let k : ℕ = end l.arc in
    omega (
      arith,
      by_vertex end g n f b.1,
      sum_to_at n k (λ v. g v * l.amount) b.0,
      sum_to_add n (λ v. g v * l.amount * delta k v) (λ v. g v * sum_of (λ e. delta (end e) v) f),
      sum_to_ext n (λ v. g v * (l.amount * delta k v + sum_of (λ e. delta (end e) v) f)) (λ v. g v * l.amount * delta k v + g v * sum_of (λ e. delta (end e) v) f) (λ v h. omega arith),
    )

-- both ends of the arc are below n
abbrev pub Inside : ℕ → Arc → Type 0
Inside n e = (e.tail < n) × (e.head < n)

-- The same for both ends: what each vertex gives and takes, summed, is what the arcs give and take.
pub across : (g : ℕ → ℕ) (n : ℕ) (f : List Load) (a b : ℕ → ℕ) → Every (Inside n) (arcs f)
    → ((v : ℕ) → v < n → g v * leaving v f + a v ≡ g v * entering v f + b v)
    → sum_of (λ e. g e.tail) f + sum_to n a ≡ sum_of (λ e. g e.head) f + sum_to n b
across g n f a b inside h =
    let i = every_image (λ l. l.arc) (Inside n) f inside in
    omega (
      arith,
      by_vertex (λ e. e.tail) g n f (every_map (λ l (j : Inside n l.arc). j.0) f i),
      by_vertex (λ e. e.head) g n f (every_map (λ l (j : Inside n l.arc). j.1) f i),
      sum_to_add n (λ v. g v * leaving v f) a,
      sum_to_add n (λ v. g v * entering v f) b,
      sum_to_ext n (λ v. g v * leaving v f + a v) (λ v. g v * entering v f + b v) h,
    )

-- ---- arcs and a set of vertices

leaving_set : (a b : Bool) → indicator a ≤ indicator b + indicator (a && not b)
leaving_set true true = omega arith
leaving_set true false = omega arith
leaving_set false b = omega arith

-- an arc that starts in the set ends there or crosses
pub crossing : (m : ℕ → Bool) (e : Arc) → indicator (m e.tail) ≤ indicator (m e.head) + indicator (crosses m e)
crossing m e = omega (arith, leaving_set (m e.tail) (m e.head))

-- and ends there where the set is closed
pub closed_arc : (m : ℕ → Bool) (e : Arc) → crosses m e ≡ false → indicator (m e.tail) ≤ indicator (m e.head)
closed_arc m e h = omega (arith, crossing m e, ap indicator h)
