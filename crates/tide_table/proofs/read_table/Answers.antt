use mathlib.Core.Path.{sym}
use native.Mathlib.Omega.{arith}
use lib.ListN.{length-take}
use lib.Seq.{length-take-le}
use Rattle.std.proofs.lemmas.Result.{err_from_is_err_and}
use Rattle.tide_table.specs.TideTable.{most_bytes}
use Rattle.tide_table.proofs.Tables.{bad_read, whole_read, part_read, all_read}
use Rattle.tide_table.proofs.read_table.Goals as goal

pub returns-in_err-whole : goal.returns-in_err-whole
returns-in_err-whole c =
    let p = err_from_is_err_and c.from_residual.result c.from_residual.ensures.1 in
    rw (p.1, p.2) (bad_read _ _ _ _ (all_read _ c.if-text-le-MOST_BYTES.true _ _ _ c.in_err-whole.ensures))

pub returns-then-text-le-MOST_BYTES : goal.returns-then-text-le-MOST_BYTES
returns-then-text-le-MOST_BYTES c =
    whole_read _ _ _ _ (all_read _ c.if-text-le-MOST_BYTES.true _ _ _ c.in_ok-whole.ensures) c.if-text-le-MOST_BYTES.true

pub slice_bounds-read_lines-end : goal.slice_bounds-read_lines-end
slice_bounds-read_lines-end c = sym (length-take-le most_bytes c.args.text.now (omega (arith, c.if-text-le-MOST_BYTES.false)))

pub read_lines-requires-2 : goal.read_lines-requires-2
read_lines-requires-2 c = omega (arith, length-take most_bytes c.args.text.now)

pub returns : goal.returns
returns c = part_read _ _ _ _ c.in_ok-part.ensures c.if-text-le-MOST_BYTES.false
