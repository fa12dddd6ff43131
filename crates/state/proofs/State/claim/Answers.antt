use borrow.Author.Tests.{eq-eqb, ne_eqb}
use mathlib.Core.Path.{sym, ◌∙◌}
use Rattle.state.specs.Turns.{claim_turn}
use Rattle.state.proofs.State.claim.Goals as goal

pub returns-then-phase-ne-READ : goal.returns-then-phase-ne-READ
unfolding claim_turn
returns-then-phase-ne-READ c = rw (ne_eqb _ _ c.if-phase-ne-READ.true)

pub returns-then-not-claim_ok : goal.returns-then-not-claim_ok
unfolding claim_turn
returns-then-not-claim_ok c = rw (eq-eqb _ _ c.if-phase-ne-READ.false, sym c.claim_ok.ensures ∙ c.if-not-claim_ok.true)

pub returns : goal.returns
unfolding claim_turn
returns c = rw (c.claimed-self.ensures, eq-eqb _ _ c.if-phase-ne-READ.false, sym c.claim_ok.ensures ∙ c.if-not-claim_ok.false)
