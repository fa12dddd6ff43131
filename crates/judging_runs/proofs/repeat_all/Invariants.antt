-- The loop's invariant: the loads below e were accepted and left the balances and y.
use Rattle.session.specs.Session.{arrays_of, joined}
use Rattle.runs.specs.Run.{repeat}
use Rattle.format.specs.Files.{load_in}
use Rattle.judging_runs.proofs.StepLoops.{AcceptedTo}
use Rattle.judging_runs.proofs.repeat_all.Given as goal

abbrev pub invariant-loop-e : goal.invariant-loop-e
invariant-loop-e l = AcceptedTo repeat (load_in l.n l.file) (joined (arrays_of l.potentials l.initial.balances) l.initial.y) l.m (joined (arrays_of l.potentials l.balances) l.y) l.e
