use mathlib.Core.Path.{◌≡◌}
use lib.ListN.{length}
use Rattle.std.specs.Prelude.{◌<◌, unwrap_or, IfSome}
use Rattle.arc_index.specs.Columns.{record_tails, record_heads, record_weights}
use Rattle.match_tree.proofs.Scans.{Scanning}
use Rattle.match_tree.proofs.scan_row.Given as goal

abbrev pub invariant-loop-i : goal.invariant-loop-i
invariant-loop-i l =
    (length l.initial.dist ≡ length l.dist) × (IfSome l.initial.found (λ r. r < length l.initial.dist) → IfSome l.found (λ r. r < length l.initial.dist)) × Scanning (length l.initial.dist) (length l.pi) (record_tails l.records) (record_heads l.records) (record_weights l.records) l.rows l.mate l.pi
    l.initial.dist l.initial.par l.initial.queue.keys l.initial.queue.low l.b l.k (unwrap_or l.initial.found (length l.initial.dist)) l.from l.dist l.par l.queue.keys l.queue.low l.i (unwrap_or l.found (length l.initial.dist)) l.best
