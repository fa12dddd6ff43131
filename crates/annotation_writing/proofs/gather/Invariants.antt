-- The loop's invariant: the records below e are those of the file.
use mathlib.Core.Path.{◌≡◌}
use Rattle.prelude.proofs.Filling.{Filling}
use Rattle.arc_records.specs.Arcs.{word_arc}
use Rattle.format.specs.Files.{arc_in}
use Rattle.annotation_writing.proofs.gather.Given as goal

abbrev pub invariant-loop-e : goal.invariant-loop-e
invariant-loop-e l = Filling (λ i w. word_arc w ≡ arc_in l.net i) 0 l.initial.records l.records l.e
