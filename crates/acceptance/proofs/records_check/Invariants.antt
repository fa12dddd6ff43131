-- The loop's invariant: the records below e pass.
use Rattle.checks.specs.Held.{asked}
use Rattle.format.specs.Files.{count_in, arc_in}
use Rattle.acceptance.proofs.RecordsChecked.{Checked}
use Rattle.acceptance.proofs.records_check.Given as goal

abbrev pub invariant-loop-e : goal.invariant-loop-e
invariant-loop-e l = Checked (asked l.st) (arc_in l.net) (count_in l.net) l.e
