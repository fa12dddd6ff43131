use mathlib.Core.Path.{sym}
use Prim.Native.Nat.{◌+◌, ◌*◌}
use native.Mathlib.Omega.{arith}
use Rattle.file_fields.proofs.Reading.{signed_past}
use Rattle.format.proofs.annotation_file.number.Goals as goal

pub returns-then-file-v : goal.returns-then-file-v
returns-then-file-v c = sym (signed_past c.args.file.now (8 + 4 * c.args.v) (omega arith))
