-- The loop's invariant: the arcs below e were accepted and left y.
use Rattle.session.specs.Session.{fresh}
use Rattle.runs.specs.Run.{read}
use Rattle.format.specs.Files.{arc_in}
use Rattle.judging_runs.proofs.StepLoops.{AcceptedTo}
use Rattle.judging_runs.proofs.read_all.Given as goal

abbrev pub invariant-loop-e : goal.invariant-loop-e
invariant-loop-e l = AcceptedTo read (arc_in l.file) (fresh l.initial.y) l.m (fresh l.y) l.e
