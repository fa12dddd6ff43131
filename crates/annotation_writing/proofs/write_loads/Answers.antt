-- The loop's invariant: the records below e are written.
use lib.ListN.{length}
use Rattle.arc_records.specs.Arcs.{word_arcs}
use Rattle.network.specs.Network.{loads_of}
use Rattle.format.specs.Files.{load_bytes, load_at}
use Rattle.format.specs.Promises.{LoadFits}
use Rattle.format.proofs.Codings.{loads_coded}
use Rattle.annotation_writing.proofs.WrittenParts.{load_among, loads_listed, write_none, write_turn, write_length, write_end}
use Rattle.annotation_writing.proofs.write_loads.Goals as goal

pub loop-e-preserved : goal.loop-e-preserved
loop-e-preserved c =
    write_turn load_bytes load_at 6 LoadFits loads_coded c.args.part.now (load_among c.args.records.now c.args.amounts.now) (length c.args.amounts.now) c.loop-e.part c.write_load.new.part c.loop-e.e
    c.loop-e-test.true c.write_load.ensures c.loop-e.invariant

pub shape_of-part : goal.shape_of-part
shape_of-part c =
    write_length load_bytes load_at 6 LoadFits loads_coded c.args.part.now (load_among c.args.records.now c.args.amounts.now) (length c.args.amounts.now) c.loop-e.part c.loop-e.e c.loop-e.invariant

pub returns : goal.returns
returns c =
    let rs = c.args.records.now in
    let xs = c.args.amounts.now in
    write_end load_bytes load_at 6 LoadFits loads_coded c.args.part.now (load_among rs xs) (length xs) c.loop-e.part c.loop-e.e (loads_of (word_arcs rs) xs) c.loop-e-test.false (loads_listed rs xs c.requires) c.loop-e.invariant

pub loop-e-init : goal.loop-e-init
loop-e-init c = write_none _ _ _ _ _ _ _ _
