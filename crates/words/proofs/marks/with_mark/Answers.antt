use mathlib.Core.Path.{◌≡◌, sym}
use native.Mathlib.Omega.{arith}
use lib.Bits.{bit_and, and_mask}
use lib.ListN.{length}
use lib.Seq.{set_out}
use mir.Facts.{Fits-of_lt}
use borrow.Author.Rules.{rules}
use Rattle.words.specs.Marks.{with_mark}
use Rattle.words.proofs.Bits.{bit, and_lit}
use Rattle.words.proofs.marks.with_mark.Goals as goal

pub returns-then-k-ge4 : goal.returns-then-k-ge4
unfolding with_mark
returns-then-k-ge4 c =
    let l : length c.args.words ≡ 4 = search rules in
    sym (set_out c.args.words _ _ (omega arith))

pub overflow_cast-bit : goal.overflow_cast-bit
overflow_cast-bit c = search (Fits-of_lt, and_lit, tt)

pub overflow_shl-bit : goal.overflow_shl-bit
overflow_shl-bit c = search (and_lit, tt)

pub returns : goal.returns
unfolding with_mark
returns c = rw (bit (bit_and c.args.v 63) (and_lit c.args.v 63 64 tt)) (simp (and_mask c.args.v 6))
