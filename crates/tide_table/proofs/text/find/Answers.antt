use mathlib.Core.Path.{sym, ◌∙◌}
use native.Mathlib.Numerals.{add-one}
use native.Mathlib.Omega.{arith}
use Rattle.tide_table.specs.Reading.{is_sought}
use Rattle.tide_table.proofs.Pieces.{at_here, at_next, at_end}
use Rattle.tide_table.proofs.text.find.Goals as goal

pub returns-then-is_sought : goal.returns-then-is_sought
returns-then-is_sought c =
    omega (arith, c.loop-i.invariant.0, at_here (is_sought c.args.sought) c.args.text.now c.loop-i.i c.loop-i-test.true (sym c.is_sought.ensures ∙ c.if-is_sought.true))

pub loop-i-preserved : goal.loop-i-preserved
loop-i-preserved c =
    let next = at_next (is_sought c.args.sought) c.args.text.now c.loop-i.i c.loop-i-test.true (sym c.is_sought.ensures ∙ c.if-is_sought.false) in
    (rw (add-one c.loop-i.i) (omega (arith, c.loop-i.invariant.0, next)), omega (arith, c.loop-i.invariant.1), omega (arith, c.loop-i-test.true))

pub returns : goal.returns
returns c =
    omega (arith, c.max.ensures, c.loop-i.invariant.0, c.loop-i.invariant.1, c.loop-i.invariant.2, at_end (is_sought c.args.sought) c.args.text.now c.loop-i.i c.loop-i-test.false)
