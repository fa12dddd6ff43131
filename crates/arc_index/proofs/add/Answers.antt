use Rattle.arc_index.specs.ArcIndex.{index_of}
use Rattle.arc_index.proofs.Chains.{not_added, noted}
use Rattle.arc_index.proofs.add.Goals as goal

pub returns-then-e-ge-NO_ARC : goal.returns-then-e-ge-NO_ARC
returns-then-e-ge-NO_ARC c = not_added c.args.e c.args.v (index_of c.args.links.now c.args.last.now) c.if-e-ge-NO_ARC.true

pub returns : goal.returns
returns c =
    noted c.args.e c.args.v c.from-p.result c.args.links.now c.args.last.now _ c.if-e-ge-NO_ARC.false c.from-p.ensures c.store.ensures
