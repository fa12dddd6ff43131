-- The loop's invariant: no vertex is stuck, and after a pass with the step 1 all are matched.
use mathlib.Core.Path.{◌≡◌}
use lib.ListN.{length}
use Rattle.arc_index.specs.Columns.{record_tails, record_heads, record_weights}
use Rattle.match_state.specs.Rows.{Rows}
use Rattle.match_rounds.proofs.Serving.{Passed}
use Rattle.match_rounds.proofs.serve_all.Given as goal

abbrev pub invariant-loop-step : goal.invariant-loop-step
invariant-loop-step l =
    Passed (length l.initial.dist) (length l.initial.pi) (record_tails l.records) (record_heads l.records) (record_weights l.records) l.dist l.mate l.pi l.step
    × (length l.mate ≡ length l.initial.mate) × (length l.par ≡ length l.initial.par) × (length l.order ≡ length l.initial.order)
    × Rows (record_tails l.records) (record_heads l.records) (record_weights l.records) l.rows

abbrev pub decreases-loop-step : goal.decreases-loop-step
decreases-loop-step l = l.step
