use borrow.Author.Tests.{eq-eqb, ne_eqb}
use Rattle.state.specs.Turns.{end_turn}
use Rattle.state.proofs.State.end_reading.Goals as goal

pub returns-then-phase-ne-READING : goal.returns-then-phase-ne-READING
unfolding end_turn
returns-then-phase-ne-READING c = rw (ne_eqb _ _ c.if-phase-ne-READING.true)

pub returns : goal.returns
unfolding end_turn
returns c = rw (eq-eqb _ _ c.if-phase-ne-READING.false)
