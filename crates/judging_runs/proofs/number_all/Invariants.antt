-- The loop's invariant: the numbers below v were accepted and left the potentials and y.
use Rattle.session.specs.Session.{with_potentials, zero_arrays, joined}
use Rattle.runs.specs.Run.{number}
use Rattle.format.specs.Files.{number_in}
use Rattle.judging_runs.proofs.StepLoops.{AcceptedTo}
use Rattle.judging_runs.proofs.number_all.Given as goal

abbrev pub invariant-loop-v : goal.invariant-loop-v
invariant-loop-v l = AcceptedTo number (number_in l.file) (joined (with_potentials zero_arrays l.initial.potentials) l.initial.y) l.n (joined (with_potentials zero_arrays l.potentials) l.y) l.v
