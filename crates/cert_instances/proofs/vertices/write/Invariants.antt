-- The loop's invariant: the numbers below v are written.
use mathlib.Core.Path.{◌≡◌}
use lib.IntN.{pos}
use lib.ListN.{length}
use Rattle.prelude.proofs.Filling.{Filling}
use Rattle.cert_instances.specs.Instance.{number_of}
use Rattle.packed_arcs.specs.Entries.{entry}
use Rattle.cert_instances.proofs.vertices.write.Given as goal

abbrev pub invariant-loop-v : goal.invariant-loop-v
invariant-loop-v l = Filling (λ i z. z ≡ pos (number_of l.kind (entry l.from i))) (pos 0) l.initial.numbers l.numbers l.v
