-- The loop's invariant: the amounts below e are written.
use mathlib.Core.Path.{◌≡◌}
use Rattle.prelude.proofs.Filling.{Filling}
use Rattle.arc_index.specs.Columns.{record_heads}
use Rattle.match_state.specs.Amounts.{matched_amount}
use Rattle.match_results.proofs.write_amounts.Given as goal

abbrev pub invariant-loop-e : goal.invariant-loop-e
invariant-loop-e l = Filling (λ i k. k ≡ matched_amount (record_heads l.records) l.mate i) 0 l.initial.x l.x l.e
