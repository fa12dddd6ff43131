-- Lines, words and decimal numbers of a text, a list of bytes (PANEL 14).
use Rattle.std.specs.Prelude.{Bool, ◌&&◌, ◌||◌, List, [], ◌∷◌, ℕ, ◌+◌, ◌-◌, ◌*◌, eqb, leb, ltb, length}
use Rattle.prelude.specs.Choice.{pick}
use Rattle.prelude.specs.Lists.{all}

-- ---- bytes

-- The end of a line.
abbrev pub is_line_end : ℕ → Bool
is_line_end c = eqb c 10

-- What stands between words: a space, a tab, or the carriage return that some tools write before the end of a line.
abbrev pub is_blank : ℕ → Bool
is_blank c = (eqb c 32 || eqb c 9) || eqb c 13

-- A decimal digit, 0 is 48.
abbrev pub is_digit : ℕ → Bool
is_digit c = leb 48 c && leb c 57

-- ---- lines and words

-- The byte put before the first of the pieces.
abbrev pub on_first : ℕ → List (List ℕ) → List (List ℕ)
on_first c [] = (c ∷ []) ∷ []
on_first c (p ∷ ps) = (c ∷ p) ∷ ps

-- The pieces that the bytes that pass the test cut a text into: one more than there are such bytes.
unfoldable pub pieces : (ℕ → Bool) → List ℕ → List (List ℕ)
pieces cuts [] = [] ∷ []
pieces cuts (c ∷ text) = pick (cuts c) ([] ∷ pieces cuts text) (on_first c (pieces cuts text))

-- The pieces that are not empty.
unfoldable pub present : List (List ℕ) → List (List ℕ)
present [] = []
present (p ∷ ps) = pick (eqb (length p) 0) (present ps) (p ∷ present ps)

-- The lines of a text. What follows the last line end is a line too.
abbrev pub lines_of : List ℕ → List (List ℕ)
lines_of text = pieces is_line_end text

-- The words of a line.
abbrev pub words_of : List ℕ → List (List ℕ)
words_of line = present (pieces is_blank line)

-- ---- numbers

-- The number of n's digits followed by these.
unfoldable pub value_after : ℕ → List ℕ → ℕ
value_after n [] = n
value_after n (c ∷ word) = value_after (10 * n + (c - 48)) word

-- The number that a word of digits stands for.
abbrev pub value : List ℕ → ℕ
value word = value_after 0 word

-- The greatest number that may be written: 2 ^ 32 - 1.
abbrev pub most_number : ℕ
most_number = 4294967295

-- Is the word a decimal number, and not too great?
unfoldable pub is_number : List ℕ → Bool
is_number word = (ltb 0 (length word) && all is_digit word) && leb (value word) most_number
