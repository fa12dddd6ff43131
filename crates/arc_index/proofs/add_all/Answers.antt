-- The loop's invariant: the arcs below e are added.
use mathlib.Core.Path.{sym, ap, ◌∙◌}
use mathlib.Core.List.{map}
use native.Mathlib.Omega.{arith}
use lib.ListN.{length-map}
use Rattle.std.proofs.lemmas.List.{get_or-map}
use Rattle.arc_index.specs.ArcIndex.{index_of}
use Rattle.arc_index.proofs.Building.{added_none, added_more}
use Rattle.arc_index.proofs.add_all.Goals as goal

pub loop-e-init : goal.loop-e-init
loop-e-init g c = added_none c.args.arcs.now (map (g.T.Arc.end_of c.args.end) c.args.arcs.now) (index_of c.args.links.now c.args.last.now)

pub loop-e-preserved : goal.loop-e-preserved
loop-e-preserved g c =
    let arcs = c.args.arcs.now in
    let end_of = g.T.Arc.end_of c.args.end in
    added_more arcs (map end_of arcs) (length-map arcs end_of) (index_of c.args.links.now c.args.last.now) (index_of c.loop-e.links c.loop-e.last)
    (index_of c.add.new.links c.add.new.last) c.loop-e.e c.end-v.result c.requires
    (omega arith) (c.end-v.ensures ∙ ap end_of c.index-arcs-e.is ∙ sym (get_or-map end_of arcs c.loop-e.e c.index-arcs-e.result 0 (omega arith))) c.add.ensures c.loop-e.invariant
