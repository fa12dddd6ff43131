-- What a tide table says (PANEL 14): the windows of its lines, or the first line that is no window.
use Rattle.std.specs.Prelude.{◌≡◌, ◌≢◌, ◌&&◌, List, [], ◌∷◌, map, ℕ, suc, eqb, leb, length, get_or, take, Result, MatchResult}
use Rattle.std.proofs.lemmas.List.Edits.{sets}
use Rattle.prelude.specs.Choice.{pick}
use Rattle.prelude.specs.Lists.{all}
use Rattle.tide_windows.specs.Windows.{Window, window_in}
use Rattle.tide_table.specs.Text.{lines_of, words_of, value, is_number}
use Rattle.tide_table.specs.declared.BadLine.{BadLine}

-- ---- a line

-- What a line says: nothing that counts, a window, or nothing that can be read.
pub data LineSays : Type 0 where
  nothing : LineSays
  window : Window → LineSays
  unclear : LineSays

-- What the words of a line say (PANEL 14): no word says nothing, three numbers are a window, position, first and end; all else is unclear.
unfoldable pub words_say : List (List ℕ) → LineSays
words_say words =
    pick (eqb (length words) 0) nothing
    (pick (eqb (length words) 3 && all is_number words) (window (window_in (map value words))) unclear)

-- What a line says (PANEL 14): one that begins with #, 35, says nothing.
unfoldable pub line_says : List ℕ → LineSays
line_says line = pick (eqb (get_or line 0 0) 35) nothing (words_say (words_of line))

-- ---- a table

-- What a table says: the windows up to the first line that is unclear, and the number of that line, 0 where there is none.
pub record Table : Type 0 where
  pub windows : List Window
  pub bad : ℕ

-- A line, of the number k, before others.
abbrev pub with_line : ℕ → LineSays → Table → Table
with_line k nothing later = later
with_line k (window w) later = record { windows = w ∷ later.windows; bad = later.bad }
with_line k unclear later = record { windows = []; bad = k }

-- What lines say that are numbered from k on.
unfoldable pub table_from : ℕ → List (List ℕ) → Table
table_from k [] = record { windows = []; bad = 0 }
table_from k (l ∷ ls) = with_line k (line_says l) (table_from (suc k) ls)

-- How many bytes of a table count.
abbrev pub most_bytes : ℕ
most_bytes = 32768

-- What the bytes that count say.
abbrev pub table_within : List ℕ → Table
table_within text = table_from 1 (lines_of (take most_bytes text))

-- The number of the line that does not fit, in a text that is too long: the line that the bytes that count break off in.
abbrev pub broken_line : List ℕ → ℕ
broken_line text = length (lines_of (take most_bytes text))

-- The first line that is no window, 0 where there is none (PANEL 14): one that is unclear, or the one that does not fit.
abbrev pub bad_line_of : List ℕ → ℕ
bad_line_of text =
    pick (eqb (table_within text).bad 0)
    (pick (leb (length text) most_bytes) 0 (broken_line text))
    (table_within text).bad

-- The windows that were read before that line.
abbrev pub windows_of : List ℕ → List Window
windows_of text = (table_within text).windows

-- ---- in code

-- A window as a row of three numbers.
abbrev pub row_of : Window → List ℕ
row_of w = w.position ∷ w.first ∷ w.end ∷ []

-- A table was read: how many windows there are where every line fits, or the number of the first line that is none and how many are before it. The rows of the windows before it stand at the front of the lent rows, as many as there is room for; the others are as they were.
pub record TableRead (text : List ℕ) (before : List (List ℕ)) (r : Result ℕ BadLine) (after : List (List ℕ)) : Type 0 where
  pub answer : MatchResult r (λ n. (bad_line_of text ≡ 0) × (n ≡ length (windows_of text))) (λ b. (bad_line_of text ≢ 0) × (b.number ≡ bad_line_of text) × (b.windows ≡ length (windows_of text)))
  pub rows : after ≡ sets before 0 (map row_of (windows_of text))
