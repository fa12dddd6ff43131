use mathlib.Core.Path.{refl, ◌∙◌}
use native.Mathlib.Omega.{arith}
use borrow.Author.Tests.{eq-eqb, ne_eqb}
use mir.Syntax.{w64}
use Rattle.refusals.specs.Refusals.{why}
use Rattle.refusals.proofs.Exits.{exit_as, number_not_0}
use Rattle.words.proofs.Signs.{back}
use Rattle.state.proofs.Laws.{lists_broken, totals_broken}
use Rattle.state.proofs.State.finish_check.Goals as goal

pub returns-then-self-ne-CLAIMED : goal.returns-then-self-ne-CLAIMED
returns-then-self-ne-CLAIMED c = rw (ne_eqb _ _ c.if-self-ne-CLAIMED.true)

pub returns-then-numbering-st : goal.returns-then-numbering-st
returns-then-numbering-st c = rw (eq-eqb _ _ c.if-self-ne-CLAIMED.false, ne_eqb _ _ c.if-numbering-st.true)

pub returns-in_err-lists_check : goal.returns-in_err-lists_check
returns-in_err-lists_check c =
    exit_as why _ _ c.from_residual.ensures.1
    ∙ lists_broken c.args.self c.args.potentials c.args.balances (eq-eqb c.args.self.phase 3 c.if-self-ne-CLAIMED.false) (eq-eqb c.args.self.numbering.given c.args.self.reading.setting.n c.if-numbering-st.false) _ c.in_err-lists_check.ensures (number_not_0 _)

pub returns : goal.returns
returns c =
    totals_broken c.args.self c.args.potentials c.args.balances (eq-eqb c.args.self.phase 3 c.if-self-ne-CLAIMED.false)
    (eq-eqb c.args.self.numbering.given c.args.self.reading.setting.n c.if-numbering-st.false) 0 c.in_ok-lists_check.ensures refl
    c.row_of-row.ensures
    (back w64 c.args.self.repeating.cost (omega arith)) (back w64 c.args.self.repeating.cut (omega arith))
    _ c.totals_check.ensures
