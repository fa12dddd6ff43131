use mathlib.Core.Path.{sym, ap, ◌∙◌}
use Rattle.arc_records.specs.Arcs.{Arc}
use Rattle.arc_index.proofs.Columns.{tail_is}
use Rattle.order_path.proofs.index.tail_at.Goals as goal

pub returns : goal.returns
returns c = ap (λ (arc : Arc). arc.tail) c.arc_in.ensures ∙ sym (tail_is c.args.records.now c.args.e)
