-- The loop's invariant: the digits from the next on decide, and go on with n.
use Rattle.tide_table.proofs.Numbers.{Read}
use Rattle.tide_table.proofs.text.number.Given as goal

abbrev pub invariant-loop-c : goal.invariant-loop-c
invariant-loop-c l = Read l.word l.n l.c-index
