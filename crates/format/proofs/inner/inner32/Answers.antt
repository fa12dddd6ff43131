use mathlib.Core.Path.{◌∙◌, ap}
use mir.Syntax.{w32}
use Rattle.words.proofs.Signs.{back}
use Rattle.file_fields.specs.Bytes.{signed_of}
use Rattle.file_fields.proofs.Reading.{signed_is}
use Rattle.format.proofs.inner.inner32.Goals as goal

pub returns : goal.returns
returns c = back w32 c.cast_signed.result c.cast_signed.type_inv ∙ c.cast_signed.ensures ∙ signed_is c.inner_bits32.result ∙ ap signed_of c.inner_bits32.ensures
