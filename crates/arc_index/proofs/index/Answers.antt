use Rattle.arc_index.proofs.Ends.{ends_are}
use Rattle.arc_index.proofs.index.Goals as goal

pub returns : goal.returns
returns c = rw (← ends_are c.args.end c.args.records.now) c.index_arcs.ensures
