-- The loop's invariant: a line begins at the index, and what the whole says is what the lines from there on say behind those read.
use Prim.Native.Nat.{◌-◌}
use lib.ListN.{length}
use Rattle.tide_table.proofs.Tables.{Here}
use Rattle.tide_table.proofs.lines.read_lines.Given as goal

abbrev pub invariant-loop-row : goal.invariant-loop-row
invariant-loop-row l = Here l.text l.initial.rows l.rows l.at l.number l.count

abbrev pub decreases-loop-row : goal.decreases-loop-row
decreases-loop-row l = length l.text - l.at
