use mathlib.Core.Path.{ap}
use mathlib.Core.List.{List}
use Prim.Native.Nat.{ℕ}
use native.Mathlib.Omega.{arith}
use lib.ListN.{length}
use Rattle.packed_arcs.specs.Entries.{entry}
use Rattle.packed_arcs.proofs.LentParts.{zero_at}
use Rattle.arc_index.specs.Columns.{record_tails}
use Rattle.arc_index.proofs.Columns.{tails_len}
use Rattle.match_least_cost.proofs.note_lightest.Goals as goal

pub returns-then-lightest-n : goal.returns-then-lightest-n
returns-then-lightest-n c =
    record { least = λ e l. omega (arith, ap (λ (l : List ℕ). entry l (entry (record_tails c.args.records.now) e)) c.requires.1, zero_at (length c.args.lightest.now) (entry (record_tails c.args.records.now) e)) }

pub write_lightest-requires : goal.write_lightest-requires
write_lightest-requires c =
    λ e l. (c.requires.0.from_left e (omega (arith, l, tails_len c.args.records.now)), c.requires.0.weights e (omega (arith, l, tails_len c.args.records.now)))
