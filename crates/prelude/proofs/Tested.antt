-- The tests that a need is handed, each by its outcome: `search tested`.
use mathlib.Core.Path.{◌≡◌, sym, ap, ◌∙◌}
use mathlib.Core.Bool.{Bool, true, false, not, ◌&&◌}
use borrow.Author.Tests.{not-true, not-false, lt-ltb, le-ltb, le-leb, lt-leb, eq-eqb, ne_eqb}
use Rattle.prelude.specs.Choice.{implies}
use Rattle.prelude.proofs.Choice.{same, on, off}

-- the result u of a call, which the code negates
pub passed : (t u : Bool) → not u ≡ false → u ≡ t → t ≡ true
passed t u h e = sym e ∙ not-false u h

pub refused : (t u : Bool) → not u ≡ true → u ≡ t → t ≡ false
refused t u h e = sym e ∙ not-true u h

pub not_on : (t : Bool) → t ≡ true → not t ≡ false
not_on t e = ap not e

pub not_off : (t : Bool) → t ≡ false → not t ≡ true
not_off t e = ap not e

pub first_off : (s t : Bool) → s ≡ false → (s && t) ≡ false
first_off s t e = rw e

pub both_on : (s t b : Bool) → s ≡ true → t ≡ b → (s && t) ≡ b
both_on s t b e h = rw e h

pub implies_on : (s t b : Bool) → s ≡ true → t ≡ b → implies s t ≡ b
implies_on s t b e h = rw e h

pub implies_off : (s t : Bool) → s ≡ false → implies s t ≡ true
implies_off s t e = rw e

-- an outcome that is returned
pub is_on : (t : Bool) → t ≡ true → true ≡ t
is_on t e = sym e

pub is_off : (t : Bool) → t ≡ false → false ≡ t
is_off t e = sym e

pub and_on : (r s t : Bool) → s ≡ true → r ≡ t → r ≡ (s && t)
and_on r s t e h = rw e h

pub ruleset tested = (
  same,
  on,
  off,
  le-leb,
  lt-leb,
  lt-ltb,
  le-ltb,
  eq-eqb,
  ne_eqb,
  passed,
  refused,
  not_on,
  not_off,
  first_off,
  both_on,
  implies_on,
  implies_off,
  is_on,
  is_off,
  and_on,
)
