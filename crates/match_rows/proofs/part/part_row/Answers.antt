use native.Mathlib.Omega.{arith}
use Rattle.arc_index.proofs.Columns.{heads_len}
use Rattle.match_rows.proofs.StillExposed.{may_look, found, next_found}
use Rattle.match_rows.proofs.part.part_row.Goals as goal
use Rattle.match_rows.proofs.part.part_row.Goals.{then-k-gt1, else-k-gt1}

pub ready-requires : goal.ready-requires
ready-requires c = may_look c.requires.rows.0 c.requires.rows.1 (λ e l. c.requires.by_index e (omega (arith, heads_len c.args.records.now)))

pub returns : goal.returns
returns c =
    elim c.if-k-gt1.branch [ then-k-gt1 w ↦ rw w.rows-is (next_found c.requires.rows.0 c.requires.rows.1 w.if-k-gt1.true c.in-Some.ensures w.note.ensures) | else-k-gt1 w ↦ rw w.rows-is (found c.requires.rows.0 c.requires.rows.1 c.in-Some.ensures) ]
