use Rattle.state.proofs.additions.with_arc.Goals as goal

pub returns : goal.returns
returns c = rw c.with_arc.ensures
