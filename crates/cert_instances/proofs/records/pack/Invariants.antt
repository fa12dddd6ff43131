-- The loop's invariant: the arcs below e are those of the records, packed.
use mathlib.Core.Path.{◌≡◌}
use lib.ListN.{length, get_or}
use Rattle.checks.specs.Held.{question_held}
use Rattle.cert_instances.specs.Certify.{packed_for}
use Rattle.prelude.proofs.Filling.{Filling}
use Rattle.cert_instances.proofs.records.pack.Given as goal

abbrev pub invariant-loop-e : goal.invariant-loop-e
invariant-loop-e l = Filling (λ i k. k ≡ packed_for (question_held l.question) (get_or l.records i 0)) (packed_for (question_held l.question) 0) l.initial.arcs l.arcs l.e
