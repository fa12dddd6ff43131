-- The loop's invariant: the arcs before i come from exposed vertices, and the two lightest of them are known.
use Prim.Native.Nat.{◌-◌}
use Rattle.arc_index.specs.Columns.{record_tails, record_heads, record_weights}
use Rattle.match_rows.proofs.Gathering.{Gathering}
use Rattle.match_rows.proofs.part.gather_exposed.Given as goal

abbrev pub invariant-loop-i : goal.invariant-loop-i
invariant-loop-i l = Gathering (record_tails l.records) (record_heads l.records) (record_weights l.records) l.mate l.initial.rows l.rows l.b l.i l.end l.at l.second l.least l.next

abbrev pub decreases-loop-i : goal.decreases-loop-i
decreases-loop-i l = l.end - l.i
