use Rattle.calendar_records.proofs.LeftRecords.{one_written, none_written}
use Rattle.calendar_records.proofs.write_left.Goals as goal

pub returns-in-Some : goal.returns-in-Some
returns-in-Some c = rw c.in-Some.is (one_written c.args.k c.args.part.now c.in-Some.arc _ c.write_arc.ensures)

pub returns-in-None : goal.returns-in-None
returns-in-None c = rw c.in-None.is (none_written c.args.k c.args.part.now)
