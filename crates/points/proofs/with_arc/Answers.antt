use mathlib.Core.Path.{◌∙◌, ap, ap₂}
use Rattle.field.specs.Field.{extended}
use Rattle.points.proofs.Prints.{as_print}
use Rattle.points.proofs.with_arc.Goals as goal

pub returns : goal.returns
returns c = ap₂ as_print
    (c.extend.ensures ∙ ap (extended c.args.point.first c.args.print.first) c.key_of-key.ensures)
    (c.extend-2.ensures ∙ ap (extended c.args.point.second c.args.print.second) c.key_of-key.ensures)
