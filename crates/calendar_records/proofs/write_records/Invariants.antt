-- The loop's invariant: what is left of the records below e is written, k records.
use Rattle.network.specs.Question.{asks}
use Rattle.format.specs.Files.{setting_in, arc_in}
use Rattle.tide_windows.specs.Windows.{windows_in, is_open}
use Rattle.calendar_records.proofs.LeftRecords.{LeftTo}
use Rattle.calendar_records.proofs.write_records.Given as goal

abbrev pub invariant-loop-e : goal.invariant-loop-e
invariant-loop-e l = LeftTo (asks (setting_in l.net)) (is_open (windows_in l.windows) l.minute) (arc_in l.net) l.m l.initial.part l.e l.k l.part
