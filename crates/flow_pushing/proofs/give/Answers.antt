use native.Mathlib.Omega.{arith}
use Rattle.flow_moves.proofs.Conserving.{arc_facts, end_inside}
use Rattle.flow_pushing.proofs.give.Goals as goal

pub bounds-left-b : goal.bounds-left-b
bounds-left-b g c = omega (arith, end_inside (arc_facts c.requires.ready.0 c.requires.ready.1) c.args.direction, c.end_of-b.ensures.0)
