-- The loop's invariant: the records below e are written.
use Rattle.annotation_writing.proofs.WrittenParts.{Loading}
use Rattle.annotation_writing.proofs.write_loads.Given as goal

abbrev pub invariant-loop-e : goal.invariant-loop-e
invariant-loop-e l = Loading l.initial.part l.records l.amounts l.part l.e
