-- How a point and a pair of points are drawn from random bytes, and what the program that draws the pair prints (PANEL 4 and 10).
use Rattle.std.specs.Prelude.{Bool, Option, Some, None, List, [], ◌∷◌, ◌++◌, ℕ, ◌*◌, ◌/◌, ◌%◌, ltb, length, take, drop}
use Rattle.prelude.specs.Choice.{pick}
use Rattle.prelude.specs.Lists.{list_to}
use Rattle.field.specs.Field.{p}
use Rattle.file_fields.specs.Bytes.{read32, bytes32}
use Rattle.program_io.specs.Line.{saved_line}

-- The low 31 bits of a word of 32: a number from 0 to p.
abbrev pub low31 : ℕ → ℕ
low31 w = w % 2147483648

-- A word gives its low 31 bits as the point if they are below p, and else what the words after it give.
abbrev pub or_else : ℕ → Option ℕ → Option ℕ
or_else w later = pick (ltb (low31 w) p) (Some (low31 w)) later

-- The point that the first word gives whose low 31 bits are below p.
abbrev pub first_point : List ℕ → Option ℕ
first_point [] = None
first_point (w ∷ ws) = or_else w (first_point ws)

-- The words in random bytes, four bytes each, most significant first; a rest of fewer than four is left out.
abbrev pub word_in : List ℕ → ℕ → ℕ
word_in random i = read32 random (4 * i)

abbrev pub words_in : List ℕ → List ℕ
words_in random = list_to (length random / 4) (word_in random)

-- What is drawn from random bytes.
abbrev pub drawn : List ℕ → Option ℕ
drawn random = first_point (words_in random)

-- Two points make a pair; where either is missing, nothing is drawn.
abbrev pub paired : Option ℕ → Option ℕ → Option (ℕ × ℕ)
paired (Some r) (Some q) = Some (r, q)
paired (Some r) None = None
paired None second = None

-- The first k words draw the first point, the others the second.
abbrev pub first_pair : ℕ → List ℕ → Option (ℕ × ℕ)
first_pair k ws = paired (first_point (take k ws)) (first_point (drop k ws))

-- The pair that is drawn from random bytes: half of the words, rounded down, for the first point and the rest for the second; no word serves both.
abbrev pub drawn_pair : List ℕ → Option (ℕ × ℕ)
drawn_pair random = first_pair (length random / 8) (words_in random)

-- The eight bytes of the pair's file, the first point's before the second's; a file that held `before` stays so where nothing is drawn.
abbrev pub point_file : Option (ℕ × ℕ) → List ℕ → List ℕ
point_file (Some (r, q)) before = bytes32 r ++ bytes32 q
point_file None before = before

-- The line: that the eight bytes were written or could not be written, or `no entropy` where nothing is drawn.
abbrev pub point_line : Option (ℕ × ℕ) → Bool → List ℕ
point_line (Some (r, q)) done = saved_line 8 done
point_line None done = 110 ∷ 111 ∷ 32 ∷ 101 ∷ 110 ∷ 116 ∷ 114 ∷ 111 ∷ 112 ∷ 121 ∷ 10 ∷ []
