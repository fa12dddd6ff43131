use mathlib.Core.Path.{◌∙◌, ap₂}
use native.Mathlib.Omega.{arith}
use lib.IntN.{ℤ}
use mir.Syntax.{w64}
use Rattle.words.proofs.Signs.{back}
use Rattle.network.specs.Tests.{answer_of}
use Rattle.totals.specs.Held.{sums_held}
use Rattle.state.specs.State.{setting_held, claim_held}
use Rattle.state.proofs.State.answer.Goals as goal

pub returns : goal.returns
returns c =
    let g = c.args.self.repeating in
    (rw c.row_of-row.ensures at c.answer_of.ensures)
    ∙ ap₂ (λ (k d : ℤ). answer_of (setting_held c.args.self) (claim_held c.args.self) (sums_held c.args.balances k d)) (back w64 g.cost (omega arith)) (back w64 g.cut (omega arith))
