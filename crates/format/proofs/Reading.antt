-- What is read from bytes fits.
use mathlib.Core.Path.{◌≡◌}
use mathlib.Core.List.{List}
use Prim.Native.Nat.{ℕ, ◌+◌, ◌/◌, ◌%◌, ◌<◌}
use native.Mathlib.Omega.{arith}
use Rattle.arc_records.specs.Arcs.{arc_of, word_arc}
use Rattle.file_fields.specs.Bytes.{byte_at, joined16, joined32, read16, read32}
use Rattle.format.specs.Files.{arc_at}
use Rattle.format.specs.Promises.{Byte}

taken_apart : (a b w : ℕ) → Byte a → Byte b → w < 65536 → word_arc (joined32 (joined16 a b) w) ≡ arc_of a b w
taken_apart a b w ha hb hw = λ i. arc_of (first i) (second i) (third i)
  where
    first : joined32 (joined16 a b) w / 16777216 % 256 ≡ a
    first = omega arith

    second : joined32 (joined16 a b) w / 65536 % 256 ≡ b
    second = omega arith

    third : joined32 (joined16 a b) w % 65536 ≡ w
    third = omega arith

module _ (file : List ℕ) (bytes : (i : ℕ) → Byte (byte_at file i)) where
  pub read16_fits : (i : ℕ) → read16 file i < 65536
  read16_fits i = omega (arith, bytes i, bytes (i + 1))

  -- the four bytes of an arc as one number
  pub word_is_arc : (i : ℕ) → word_arc (read32 file i) ≡ arc_at file i
  word_is_arc i = taken_apart (byte_at file i) (byte_at file (i + 1)) (read16 file (i + 2)) (bytes i) (bytes (i + 1)) (read16_fits (i + 2))
