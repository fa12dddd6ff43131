-- The loop's invariant: the vertices below v have their marks.
use mathlib.Core.Path.{◌≡◌}
use Rattle.prelude.proofs.Filling.{Filling}
use Rattle.arc_index.specs.Columns.{record_tails}
use Rattle.match_results.specs.Results.{unreached_mark}
use Rattle.match_results.proofs.write_marks.Given as goal

abbrev pub invariant-loop-v : goal.invariant-loop-v
invariant-loop-v l = Filling (λ i k. k ≡ unreached_mark (record_tails l.records) l.mate l.dist l.t i) 0 l.initial.pi l.pi l.v
