-- What the functions answer that read a tide table piece by piece: a byte, a number, a word, a line, the lines.
use Rattle.std.specs.Prelude.{◌≡◌, ◌≢◌, Bool, true, false, not, List, [], ◌∷◌, map, ℕ, suc, ◌+◌, length, drop, Option, MatchOption, Result, MatchResult}
use Rattle.std.proofs.lemmas.List.Edits.{sets}
use Rattle.prelude.specs.Choice.{pick}
use Rattle.tide_table.specs.Text.{is_line_end, is_blank, lines_of, words_of, value, is_number}
use Rattle.tide_table.specs.TideTable.{LineSays, nothing, window, unclear, Table, table_from, row_of}
use Rattle.tide_table.specs.declared.text.Sought.{Sought}
use Rattle.tide_table.specs.declared.text.Sought.TheVariants.{LineEnd, Blank, Word as Present}
use Rattle.tide_table.specs.declared.text.Word.{Word}
use Rattle.tide_table.specs.declared.text.Word.TheVariants.{Missing, Number, Other}
use Rattle.tide_table.specs.declared.lines.Line.{Line}
use Rattle.tide_table.specs.declared.lines.Line.TheVariants.{Nothing, Window, Unclear}
use Rattle.tide_table.specs.declared.lines.Counts.{Counts}
use Rattle.tide_table.specs.declared.BadLine.{BadLine}

-- ---- bytes

-- Is the byte what is sought?
abbrev pub is_sought : Sought → ℕ → Bool
is_sought LineEnd c = is_line_end c
is_sought Blank c = is_blank c
is_sought Present c = not (is_blank c)

-- How many bytes stand before the first that passes the test, all where none does.
unfoldable pub count_before : (ℕ → Bool) → List ℕ → ℕ
count_before p [] = 0
count_before p (c ∷ text) = pick (p c) 0 (suc (count_before p text))

-- ---- words

-- What is answered of a word: the number that it is, if it is one.
abbrev pub NumberRead : List ℕ → Option ℕ → Type 0
NumberRead word r = MatchOption r (is_number word ≡ false) (λ n. (is_number word ≡ true) × (n ≡ value word))

-- The first word, as it is answered.
abbrev pub first_word : List (List ℕ) → Word
first_word [] = Missing
first_word (w ∷ ws) = pick (is_number w) (Number (value w)) Other

-- The words after the first.
abbrev pub later_words : List (List ℕ) → List (List ℕ)
later_words [] = []
later_words (w ∷ ws) = ws

-- Where the first word from an index on begins, the line's length where there is none.
abbrev pub word_start : List ℕ → ℕ → ℕ
word_start line at = at + count_before (is_sought Present) (drop at line)

-- Where it ends.
abbrev pub word_end : List ℕ → ℕ → ℕ
word_end line at = word_start line at + count_before (is_sought Blank) (drop (word_start line at) line)

-- What is answered of the first word from an index on: what it is, and where it ends.
pub record WordRead (line : List ℕ) (at : ℕ) (r : Word × ℕ) : Type 0 where
  pub word : r.0 ≡ first_word (words_of (drop at line))
  pub end : r.1 ≡ word_end line at

-- ---- lines

-- What a line says, as it is answered.
abbrev pub line_for : LineSays → Line
line_for nothing = Nothing
line_for (window w) = Window (row_of w)
line_for unclear = Unclear

-- What a line says by the four words that it may begin with: three numbers and no fourth word are a window.
abbrev pub line_by : Word → Word → Word → Word → Line
line_by Missing b c d = Nothing
line_by (Number i) (Number j) (Number k) Missing = Window (i ∷ j ∷ k ∷ [])
line_by a b c d = Unclear

-- What all lines of a text say.
abbrev pub table_of : List ℕ → Table
table_of text = table_from 1 (lines_of text)

-- The lines of a text were read up to the first that is unclear: how many windows and lines there are, or that line's number and how many windows are before it. The rows of the windows stand at the front of the lent rows.
pub record LinesRead (text : List ℕ) (before : List (List ℕ)) (r : Result Counts BadLine) (after : List (List ℕ)) : Type 0 where
  pub answer : MatchResult r (λ n. ((table_of text).bad ≡ 0) × (n.windows ≡ length (table_of text).windows) × (n.lines ≡ length (lines_of text))) (λ b. ((table_of text).bad ≢ 0) × (b.number ≡ (table_of text).bad) × (b.windows ≡ length (table_of text).windows))
  pub rows : after ≡ sets before 0 (map row_of (table_of text).windows)
