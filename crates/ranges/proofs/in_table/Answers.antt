-- Some row of the code covers the number where some row of the table does.
use mathlib.Core.Path.{ap, ◌∙◌}
use mathlib.Core.List.{List}
use lib.IntN.{ℤ}
use borrow.Author.Rules.{rules}
use borrow.Author.Tests.{tests}
use mir.Syntax.{w32}
use mir.Val.{to_z, of_z}
use mir.Facts.{to_z-of_z}
use Rattle.prelude.specs.Lists.{any}
use Rattle.prelude.proofs.SliceTests.{some_held}
use Rattle.ranges.specs.Ranges.{NodeRange, range_held, covers}
use Rattle.ranges.proofs.Tables.{by_rows}
use Rattle.ranges.proofs.in_table.Goals as goal

pub returns : goal.returns
returns c =
    let z : ℤ = to_z w32 (of_z w32 c.args.z) in
    by_rows c.args.question c.args.claim z c.args.z (to_z-of_z c.ranges.z) _
    (some_held (covers c.args.question c.args.claim z) range_held _ c.any.ensures.ran c.iter.ensures.rest (λ x b q k. search (rules, tests))
    ∙ ap (λ (l : List NodeRange). any (covers c.args.question c.args.claim z) l) c.table.ensures)
