-- The next word decides, or those behind it do.
use mathlib.Core.Path.{sym, ap, ◌∙◌}
use Prim.Native.Nat.{◌<◌}
use native.Mathlib.Omega.{arith}
use lib.ListN.{length}
use Rattle.std.specs.Slice.Iter.{chunks_exact_rest}
use Rattle.point_draw.specs.Draw.{drawn}
use Rattle.point_draw.proofs.Words.{no_word, found, missed}
use Rattle.point_draw.proofs.draw.Goals as goal

pub returns-then-is_residue : goal.returns-then-is_residue
returns-then-is_residue c =
    let step = c.in-Some.ensures.steps in
    found _ _ (step.1.1 ∙ c.loop-word.invariant.0) c.args.random.now _ _ _ (c.loop-word.invariant.1 ∙ ap drawn step.1.0)
    c.bits32.ensures c.low31-k.ensures c.is_residue.ensures c.if-is_residue.true

pub loop-word-preserved : goal.loop-word-preserved
loop-word-preserved c =
    let step = c.in-Some.ensures.steps in (
      step.0 ∙ c.loop-word.invariant.0,
      missed _ _ (step.1.1 ∙ c.loop-word.invariant.0) c.args.random.now _ _ _ (c.loop-word.invariant.1 ∙ ap drawn step.1.0)
          c.bits32.ensures c.low31-k.ensures c.is_residue.ensures c.if-is_residue.false,
    )

pub returns : goal.returns
returns c =
    let left = chunks_exact_rest c.loop-word.word-iterator in
    let few : length left < 4 = omega (arith, c.in-None.ensures.steps.1.0, c.loop-word.invariant.0) in
    no_word left few ∙ sym c.loop-word.invariant.1
