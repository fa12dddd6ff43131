use mathlib.Core.Path.{◌≡◌}
use Prim.Native.Nat.{◌-◌}
use lib.ListN.{length}
use Rattle.arc_index.specs.Columns.{record_tails, record_heads, record_weights}
use Rattle.match_state.specs.Rows.{Rows}
use Rattle.match_rounds.proofs.Serving.{Passing}
use Rattle.match_rounds.proofs.pass.Given as goal

abbrev pub invariant-loop-t : goal.invariant-loop-t
invariant-loop-t l =
    Passing (length l.initial.dist) (length l.initial.pi) (record_tails l.records) (record_heads l.records) (record_weights l.records) l.step l.dist l.mate l.pi l.t
    × (length l.mate ≡ length l.initial.mate) × (length l.pi ≡ length l.initial.pi) × (length l.par ≡ length l.initial.dist) × (length l.order ≡ length l.initial.dist)
    × Rows (record_tails l.records) (record_heads l.records) (record_weights l.records) l.rows

abbrev pub decreases-loop-t : goal.decreases-loop-t
decreases-loop-t l = length l.initial.pi - l.t
