-- The promise of specs/Promises.antt, kept.
use mathlib.Core.Path.{◌≡◌, ap}
use mathlib.Core.List.{map, flat_map}
use lib.ListN.{length}
use borrow.Author.Tests.{le-leb}
use Rattle.tide_table.specs.TideTable.{Table, most_bytes, table_within}
use Rattle.tide_table.specs.Promises.{window_said, line_written, WrittenRead}
use Rattle.tide_table.proofs.WrittenLines.{table_said, within_said}

pub written_read : WrittenRead
written_read ws e h =
    let said : table_within (flat_map line_written ws) ≡ record { windows = map window_said ws; bad = 0 } = within_said (flat_map line_written ws) (record { windows = map window_said ws; bad = 0 }) h (table_said 1 ws e) in
    (rw (said, le-leb (length (flat_map line_written ws)) most_bytes h), ap (λ (t : Table). t.windows) said)
