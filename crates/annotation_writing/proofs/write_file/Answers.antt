use mathlib.Core.Path.{refl}
use mathlib.Core.List.{◌++◌, flat_map}
use Rattle.arc_records.specs.Arcs.{word_arcs}
use Rattle.network.specs.Network.{loads_of}
use Rattle.file_fields.specs.Bytes.{byte32}
use Rattle.format.specs.Files.{annotation_header, load_bytes}
use Rattle.format.proofs.LentRests.{front_and_rest}
use Rattle.annotation_writing.proofs.write_file.Goals as goal

pub returns : goal.returns
returns c =
    front_and_rest c.args.buffer.now (annotation_header c.args.claim c.args.count) (flat_map byte32 c.args.numbers.now ++ flat_map load_bytes (loads_of (word_arcs c.args.records.now) c.args.amounts.now))
    8 c.write_header.ensures refl c.write_body.ensures

pub write_header-requires : goal.write_header-requires
write_header-requires c = tt
