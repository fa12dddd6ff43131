use Rattle.state.proofs.idle.Goals as goal

pub returns : goal.returns
returns c = rw c.no_point.ensures at c.begun.ensures
