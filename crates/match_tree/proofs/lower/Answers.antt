use mathlib.Core.Path.{refl}
use native.Mathlib.Omega.{arith}
use Rattle.match_tree.specs.Tree.{Lowered}
use Rattle.match_tree.proofs.lower.Goals as goal

pub returns-then-far-min : goal.returns-then-far-min
returns-then-far-min c =
    Lowered.nearer (omega (arith, c.if-far-min.true, c.min.ensures)) (omega (arith, c.if-far-min.true, c.min.ensures)) refl refl c.put.ensures.keys_are
    c.put.ensures.low_are refl

pub returns : goal.returns
returns c = Lowered.kept (omega (arith, c.if-far-min.false, c.min.ensures)) refl refl refl refl
