-- The loop's invariant: what is left of the records below e is written, k records.
use mathlib.Core.Path.{◌∙◌}
use native.Mathlib.Omega.{arith}
use Rattle.calendar_records.proofs.LeftRecords.{left_none, left_within, left_size, left_turn, left_end}
use Rattle.calendar_records.proofs.write_records.Goals as goal

pub loop-e-init : goal.loop-e-init
loop-e-init c = left_none _ _ _ _ _

pub write_record-k-requires : goal.write_record-k-requires
write_record-k-requires c = omega (arith, left_within c.loop-e.invariant)

pub loop-e-preserved : goal.loop-e-preserved
loop-e-preserved c = left_turn c.loop-e.invariant c.loop-e-test.true c.write_record-k.ensures

pub shape_of-part : goal.shape_of-part
shape_of-part c = left_size c.loop-e.invariant

pub returns : goal.returns
returns c = rw (c.from-m.ensures ∙ c.count.ensures) at (left_end c.loop-e.invariant c.loop-e-test.false)
