use Rattle.state.proofs.begun.Goals as goal

pub returns : goal.returns
returns c = rw (c.unrepeated.ensures, c.claimed.ensures, c.no_list.ensures)
