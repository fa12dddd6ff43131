use mathlib.Core.List.{flat_map}
use Prim.Native.Nat.{◌*◌}
use lib.ListN.{length}
use Rattle.arc_records.specs.Arcs.{word_arcs}
use Rattle.network.specs.Network.{loads_of}
use Rattle.file_fields.specs.Bytes.{byte32}
use Rattle.format.specs.Files.{load_bytes}
use Rattle.format.proofs.LentRests.{front_and_rest}
use Rattle.annotation_writing.proofs.WrittenParts.{numbers_length}
use Rattle.annotation_writing.proofs.write_body.Goals as goal

pub returns : goal.returns
returns c =
    let ys = c.args.numbers.now in
    front_and_rest c.args.rest.now (flat_map byte32 ys) (flat_map load_bytes (loads_of (word_arcs c.args.records.now) c.args.amounts.now))
    (4 * length ys) c.write_numbers.ensures (numbers_length ys) c.write_loads.ensures

pub write_numbers-requires : goal.write_numbers-requires
write_numbers-requires c = tt

pub write_loads-requires : goal.write_loads-requires
write_loads-requires c = c.requires.records_len
