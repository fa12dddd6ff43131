-- The loop's invariant: the records below e are those of the file.
use mathlib.Core.Path.{◌≡◌}
use native.Mathlib.Omega.{arith}
use lib.ListN.{length}
use Rattle.prelude.proofs.Filling.{fill_start, fill_turn, fill_end}
use Rattle.arc_records.specs.Arcs.{word_arc}
use Rattle.format.specs.Files.{arc_in}
use Rattle.annotation_writing.proofs.WrittenParts.{gathered}
use Rattle.annotation_writing.proofs.gather.Goals as goal

pub loop-e-preserved : goal.loop-e-preserved
loop-e-preserved c =
    fill_turn (λ i w. word_arc w ≡ arc_in c.args.net.now i) 0 c.args.records.now c.loop-e.records c.loop-e.e c.word.result
    (omega (arith, c.loop-e-test.true, c.loop-e.invariant.len)) c.word.ensures c.loop-e.invariant

pub returns : goal.returns
returns c =
    let n = length c.args.records.now in
    gathered (arc_in c.args.net.now) c.loop-e.records n c.loop-e.invariant.len
    (fill_end (λ i w. word_arc w ≡ arc_in c.args.net.now i) 0 c.args.records.now c.loop-e.records c.loop-e.e (omega (arith, c.loop-e-test.false, c.loop-e.invariant.len)) c.loop-e.invariant)

pub loop-e-init : goal.loop-e-init
loop-e-init c = fill_start _ _ _

pub shape_of-records : goal.shape_of-records
shape_of-records c = c.loop-e.invariant.len
