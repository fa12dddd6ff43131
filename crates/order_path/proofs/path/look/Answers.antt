-- The loop's invariant: only the current arc of v moved on. Fewer arcs are left at each turn.
use mathlib.Core.Path.{◌∙◌, ap}
use native.Mathlib.Omega.{arith}
use Rattle.packed_arcs.specs.Entries.{entry}
use Rattle.order_path.proofs.CurrentArcs.{Looking, moved_more}
use Rattle.order_path.proofs.path.look.Goals as goal
use Rattle.order_path.proofs.path.look.Goals.{After-from-e}

here : (c : After-from-e)
    → Looking c.args.records.now c.args.links.now c.args.ranks.now c.args.into.now c.loop-into.into c.args.v c.from-e.result
here c =
    record { chained = c.requires.chained.0; vertex = c.requires.chained.1; moved = c.loop-into.invariant; current = c.from-e.ensures; some = omega (arith, c.from-e.ensures, c.loop-into-test.true) }

pub loop-into-preserved : goal.loop-into-preserved
loop-into-preserved c =
    moved_more (here (goal.at.loop-into-preserved c).After-from-e) (λ q. c.if-ranks-tail_at-eq0.false (ap (entry c.args.ranks.now) c.tail_at.ensures ∙ q))
