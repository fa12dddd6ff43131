use mathlib.Core.Path.{ap, ◌∙◌}
use Prim.Native.Nat.{ℕ}
use lib.Seq.{sets}
use mir.Facts.{to_z-of_z}
use Rattle.file_fields.specs.Bytes.{bytes32, pattern_of}
use Rattle.file_fields.proofs.Reading.{pattern_is}
use Rattle.file_fields.proofs.bytes.put32.Goals as goal

pub returns : goal.returns
returns c = c.put_bits32.ensures ∙ ap
    (λ (k : ℕ). sets c.args.buffer.now c.args.i (bytes32 k))
    (c.cast_unsigned.ensures ∙ pattern_is _ ∙ ap pattern_of (to_z-of_z c.ranges.z))
