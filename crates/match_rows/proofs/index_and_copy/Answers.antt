use mathlib.Core.Path.{sym, subst}
use Rattle.arc_index.specs.Chains.{Chains}
use Rattle.arc_index.specs.Columns.{record_heads}
use Rattle.arc_index.specs.declared.End.TheVariants.{Head}
use Rattle.arc_index.proofs.Building.{links_built}
use Rattle.arc_index.proofs.Ends.{record_chains}
use Rattle.match_rows.proofs.index_and_copy.Goals as goal

pub copy_rows-requires : goal.copy_rows-requires
copy_rows-requires c =
    let rs = c.args.records.now in
    (subst (Chains (record_heads rs)) (sym (links_built rs (record_heads rs) c.args.links.now _ c.requires.0 c.requires.1 c.index.ensures.1)) (record_chains Head rs c.requires.0), c.requires.2)
