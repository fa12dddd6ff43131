-- Tests taken apart and put together.
use mathlib.Core.Path.{◌≡◌, refl}
use mathlib.Core.Logic.{◌⊎◌, inl, inr}
use mathlib.Core.Bool.{Bool, true, false, not, ◌&&◌, ◌||◌, false≢true}
use lib.Dec.{T}
use Rattle.prelude.specs.Choice.{implies, indicator}
use Prim.Native.Nat.{◌≤◌}
use native.Mathlib.Omega.{arith}

pub and_left : (a b : Bool) → T (a && b) → T a
and_left true b t = tt
and_left false b t = t

pub and_right : (a b : Bool) → T (a && b) → T b
and_right true b t = t
and_right false b t = absurd t

pub both : (a b : Bool) → T a → T b → T (a && b)
both true b p q = q
both false b p q = p

pub either : (a b : Bool) → T (a || b) → T a ⊎ T b
either true b t = inl t
either false b t = inr t

pub in_either : (a b : Bool) → T a ⊎ T b → T (a || b)
in_either true b h = tt
in_either false b (inl t) = absurd t
in_either false b (inr t) = t

pub implied : (a b : Bool) → T (implies a b) → a ≡ true → T b
implied true b t e = t
implied false b t e = absurd (false≢true e)

pub if_so : (a b : Bool) → (T a → T b) → T (implies a b)
if_so true b h = h tt
if_so false b h = tt

pub not→false : (b : Bool) → T (not b) → b ≡ false
not→false true t = absurd t
not→false false t = refl

pub false→not : (b : Bool) → b ≡ false → T (not b)
false→not b e = rw e tt

pub T→true : (b : Bool) → T b → b ≡ true
T→true true t = refl
T→true false t = elim t [ ]

pub true→T : (b : Bool) → b ≡ true → T b
true→T b e = rw e tt

pub fails : (b : Bool) → (T b → ⊥) → b ≡ false
fails true h = absurd (h tt)
fails false h = refl

pub indicator_on : (b : Bool) → T b → indicator b ≡ 1
indicator_on true t = refl
indicator_on false t = elim t [ ]

pub indicator_off : (b : Bool) → (T b → ⊥) → indicator b ≡ 0
indicator_off true h = absurd (h tt)
indicator_off false h = refl

pub indicator_true : (b : Bool) → 1 ≤ indicator b → b ≡ true
indicator_true true h = refl
indicator_true false h = absurd (omega arith)
