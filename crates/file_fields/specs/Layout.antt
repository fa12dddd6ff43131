-- What begins either file, and the checks of a layout (PANEL 7). In a mark 68 is D and 82 is R.
use Rattle.std.specs.Prelude.{Bool, ◌&&◌, List, [], ◌∷◌, ℕ, leb, eqb, length}
use Rattle.prelude.specs.Checks.{Check, ◌unless◌}
use Rattle.file_fields.specs.Bytes.{byte_at, byte16, read16}

-- Either file begins with its mark and the version 1 in 16 bits.
abbrev pub mark_and_version : ℕ → List ℕ
mark_and_version third = 68 ∷ 82 ∷ third ∷ byte16 1

-- The mark is right: the first three bytes are D, R and the third letter.
abbrev pub has_mark : ℕ → List ℕ → Bool
has_mark third file = eqb (byte_at file 0) 68 && eqb (byte_at file 1) 82 && eqb (byte_at file 2) third

-- The checks of a layout (PANEL 7): 17, the header is whole and has its mark; 18, the version is 1; 19, the file has this size.
abbrev pub layout : ℕ → ℕ → ℕ → List ℕ → List Check
layout header third size file =
    17 unless (leb header (length file) && has_mark third file)
    ∷ 18 unless eqb (read16 file 3) 1
    ∷ 19 unless eqb (length file) size
    ∷ []
