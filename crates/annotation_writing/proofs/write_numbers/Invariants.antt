-- The loop's invariant: the numbers below v are written.
use Rattle.annotation_writing.proofs.WrittenParts.{Numbering}
use Rattle.annotation_writing.proofs.write_numbers.Given as goal

abbrev pub invariant-loop-v : goal.invariant-loop-v
invariant-loop-v l = Numbering l.initial.part l.numbers l.part l.v
