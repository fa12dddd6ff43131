-- The loop's invariant: the numbers below v are written.
use mathlib.Core.Path.{◌∙◌, ap}
use Prim.Native.Nat.{◌*◌, ◌<◌, ◌^◌}
use lib.IntN.{ℤ}
use lib.ListN.{length}
use lib.Seq.{sets}
use mir.Syntax.{w32}
use mir.Val.{hbits}
use lib.Signed.{mag}
use borrow.Author.Rules.{rules}
use Rattle.prelude.specs.Lists.{at}
use Rattle.words.proofs.Signs.{back}
use Rattle.file_fields.specs.Bytes.{byte32, read_signed}
use Rattle.format.specs.Promises.{Signed32}
use Rattle.format.proofs.Codings.{numbers_coded}
use Rattle.annotation_writing.proofs.WrittenParts.{numbers_listed, write_none, write_turn, write_length, write_end}
use Rattle.annotation_writing.proofs.write_numbers.Goals as goal

pub loop-v-preserved : goal.loop-v-preserved
loop-v-preserved c =
    let small : mag (at c.args.numbers.now c.loop-v.v) < 2 ^ hbits w32 = search rules in
    write_turn byte32 read_signed 4 Signed32 numbers_coded c.args.part.now (at c.args.numbers.now) (length c.args.numbers.now) c.loop-v.part c.write_number.new.part c.loop-v.v c.loop-v-test.true
    (c.write_number.ensures ∙ ap (λ (z : ℤ). sets c.loop-v.part (4 * c.loop-v.v) (byte32 z)) (back w32 (at c.args.numbers.now c.loop-v.v) small))
    c.loop-v.invariant

pub returns : goal.returns
returns c =
    write_end byte32 read_signed 4 Signed32 numbers_coded c.args.part.now (at c.args.numbers.now) (length c.args.numbers.now) c.loop-v.part c.loop-v.v c.args.numbers.now c.loop-v-test.false (numbers_listed c.args.numbers.now) c.loop-v.invariant

pub loop-v-init : goal.loop-v-init
loop-v-init c = write_none _ _ _ _ _ _ _ _

pub shape_of-part : goal.shape_of-part
shape_of-part c = write_length byte32 read_signed 4 Signed32 numbers_coded c.args.part.now (at c.args.numbers.now) (length c.args.numbers.now) c.loop-v.part c.loop-v.v c.loop-v.invariant
