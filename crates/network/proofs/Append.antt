-- One load more, among others and at the end, as a session repeats them: what each sum becomes, and how large a sum can be.
use mathlib.Core.Path.{◌≡◌}
use mathlib.Core.Bool.{Bool}
use mathlib.Core.List.{List, [], ◌∷◌, ◌++◌, append-nil, map-append}
use Prim.Native.Nat.{ℕ, ◌+◌, ◌*◌, ◌≤◌}
use native.Mathlib.Omega.{arith}
use lib.IntN.{pos, ◌+ℤ◌, ◌-ℤ◌}
use lib.ListN.{length}
use Rattle.prelude.specs.Choice.{indicator}
use Rattle.prelude.specs.Lists.{Every}
use Rattle.prelude.proofs.Integers.{signed, parts_add, parts_sub}
use Rattle.arc_records.specs.Arcs.{Arc, delta}
use Rattle.network.specs.Network.{Load, arcs, sum_of, leaving, entering, balance, crosses, sum_across}
use Rattle.network.proofs.Sound.{balance_parts}

-- ---- among others

pub sum_of_insert : (g : Arc → ℕ) (f k : List Load) (l : Load) → sum_of g (f ++ l ∷ k) ≡ sum_of g (f ++ k) + l.amount * g l.arc
unfolding sum_of
sum_of_insert g [] k l = omega arith
sum_of_insert g (d ∷ f) k l = omega (arith, sum_of_insert g f k l)

pub across_insert : (g : Arc → ℕ) (m : ℕ → Bool) (xs ys : List Arc) (e : Arc) → sum_across g m (xs ++ e ∷ ys) ≡ sum_across g m (xs ++ ys) + g e * indicator (crosses m e)
unfolding sum_across
across_insert g m [] ys e = omega arith
across_insert g m (d ∷ xs) ys e = omega (arith, across_insert g m xs ys e)

pub balance_insert : (v : ℕ) (f k : List Load) (l : Load)
    → balance v (f ++ l ∷ k) ≡ (balance v (f ++ k) +ℤ pos (l.amount * delta l.arc.tail v)) -ℤ pos (l.amount * delta l.arc.head v)
balance_insert v f k l =
    omega (
      signed,
      balance_parts (leaving v (f ++ l ∷ k)) (entering v (f ++ l ∷ k)),
      balance_parts (leaving v (f ++ k)) (entering v (f ++ k)),
      sum_of_insert (λ e. delta e.tail v) f k l,
      sum_of_insert (λ e. delta e.head v) f k l,
      parts_add (balance v (f ++ k)) (pos (l.amount * delta l.arc.tail v)),
      parts_sub (balance v (f ++ k) +ℤ pos (l.amount * delta l.arc.tail v)) (pos (l.amount * delta l.arc.head v)),
    )

-- ---- at the end

pub sum_of_snoc : (g : Arc → ℕ) (f : List Load) (l : Load) → sum_of g (f ++ l ∷ []) ≡ sum_of g f + l.amount * g l.arc
sum_of_snoc g f l = rw (append-nil f) at (sum_of_insert g f [] l)

pub arcs_snoc : (f : List Load) (l : Load) → arcs (f ++ l ∷ []) ≡ arcs f ++ l.arc ∷ []
arcs_snoc f l = map-append (λ d. d.arc) f (l ∷ [])

pub across_snoc : (g : Arc → ℕ) (m : ℕ → Bool) (net : List Arc) (e : Arc) → sum_across g m (net ++ e ∷ []) ≡ sum_across g m net + g e * indicator (crosses m e)
across_snoc g m net e = rw (append-nil net) at (across_insert g m net [] e)

pub balance_snoc : (v : ℕ) (f : List Load) (l : Load)
    → balance v (f ++ l ∷ []) ≡ (balance v f +ℤ pos (l.amount * delta l.arc.tail v)) -ℤ pos (l.amount * delta l.arc.head v)
balance_snoc v f l = rw (append-nil f) at (balance_insert v f [] l)

-- ---- how large

-- where each load adds `most` at most
pub sum_of_most : (g : Arc → ℕ) (most : ℕ) (f : List Load) → Every (λ l. l.amount * g l.arc ≤ most) f → sum_of g f ≤ length f * most
unfolding sum_of
sum_of_most g most [] e = omega arith
sum_of_most g most (l ∷ f) e = omega (arith, e.0, sum_of_most g most f e.1)

pub across_most : (g : Arc → ℕ) (m : ℕ → Bool) (most : ℕ) (net : List Arc) → Every (λ e. g e * indicator (crosses m e) ≤ most) net → sum_across g m net ≤ length net * most
unfolding sum_across
across_most g m most [] e = omega arith
across_most g m most (d ∷ net) e = omega (arith, e.0, across_most g m most net e.1)
