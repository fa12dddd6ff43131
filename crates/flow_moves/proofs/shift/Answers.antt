use native.Mathlib.Omega.{arith}
use Rattle.flow_moves.proofs.Conserving.{arc_facts, start_inside, end_inside, step_moves}
use Rattle.flow_moves.proofs.shift.Goals as goal

pub bounds-x-e : goal.bounds-x-e
bounds-x-e c = omega (arith, (arc_facts c.requires.0 c.requires.1).x_len, c.requires.0)

pub bounds-left-a : goal.bounds-left-a
bounds-left-a c = omega (arith, start_inside (arc_facts c.requires.0 c.requires.1) c.args.direction, c.start_of-a.ensures.0)

pub transfer-requires-clause-a_in_bounds : goal.transfer-requires-clause-a_in_bounds
transfer-requires-clause-a_in_bounds c =
    let f = arc_facts c.requires.0 c.requires.1 in (
      omega (arith, start_inside f c.args.direction, c.start_of-a.ensures.0),
      omega (arith, end_inside f c.args.direction, c.end_of.ensures.0),
      omega (arith, c.min-got.ensures),
    )

pub returns : goal.returns
returns c =
    step_moves c.requires.0 c.requires.1 c.args.direction c.start_of-a.ensures.0 c.end_of.ensures.0 c.room.ensures
    (omega (arith, c.min-got.ensures, c.from.ensures)) c.carried.ensures c.transfer.ensures
