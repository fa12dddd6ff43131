-- A table that was written line by line: its lines, their words, and the windows that they say.
use mathlib.Core.Path.{◌≡◌, refl, ap, ◌∙◌}
use mathlib.Core.Bool.{Bool, true, false, ◌&&◌}
use mathlib.Core.List.{List, [], ◌∷◌, ◌++◌, map, flat_map, append_assoc}
use Prim.Native.Nat.{ℕ, suc, ◌≤◌, ◌<◌}
use native.Mathlib.Omega.{arith}
use lib.Dec.{T, leb, ltb, ltb→lt}
use lib.ListN.{length, get_or}
use lib.Seq.{take_all}
use borrow.Author.Tests.{ne_eqb}
use Rattle.prelude.specs.Lists.{Every, all}
use Rattle.prelude.proofs.Lists.{every_map, every_append, all→every}
use Rattle.prelude.proofs.Booleans.{and_left, and_right, T→true}
use Rattle.tide_table.specs.Text.{is_line_end, is_blank, is_digit, pieces, present, lines_of, words_of, value, most_number, is_number}
use Rattle.tide_table.specs.TideTable.{window, words_say, line_says, Table, with_line, table_from, most_bytes, table_within}
use Rattle.tide_table.specs.Promises.{Numbers, AllNumbers, window_said, line_written}
use Rattle.tide_table.proofs.Numbers.{digit_least}

-- ---- pieces

-- a list of bytes none of which passes the test is one piece
module _ (cuts : ℕ → Bool) where
  last_piece : (u : List ℕ) → Every (λ c. cuts c ≡ false) u → pieces cuts u ≡ u ∷ []
  unfolding pieces
  last_piece [] e = refl
  last_piece (c ∷ u) e = rw (e.0, last_piece u e.1)

  first_piece : (u : List ℕ) (c : ℕ) (rest : List ℕ) → Every (λ d. cuts d ≡ false) u → cuts c ≡ true → pieces cuts (u ++ c ∷ rest) ≡ u ∷ pieces cuts rest
  unfolding pieces
  first_piece [] c rest e h = rw h
  first_piece (d ∷ u) c rest e h = rw (e.0, first_piece u c rest e.1 h)

-- a piece that is not empty is kept
kept : (u : List ℕ) (ps : List (List ℕ)) → 0 < length u → present (u ∷ ps) ≡ u ∷ present ps
unfolding present
kept u ps h = rw (ne_eqb (length u) 0 (λ e. omega arith))

-- ---- digits

no_line_end : (c : ℕ) → is_digit c ≡ true → is_line_end c ≡ false
no_line_end c d = ne_eqb c 10 (λ e. omega (arith, digit_least c d))

no_blank : (c : ℕ) → is_digit c ≡ true → is_blank c ≡ false
no_blank c d =
    let least : 48 ≤ c = digit_least c d in
    rw (ne_eqb c 32 (λ e. omega arith), ne_eqb c 9 (λ e. omega arith), ne_eqb c 13 (λ e. omega arith))

digits : (word : List ℕ) → T (is_number word) → Every (λ c. is_digit c ≡ true) word
unfolding is_number
digits word t =
    all→every is_digit (λ c d. T→true (is_digit c) d) word
    (and_right (ltb 0 (length word)) (all is_digit word) (and_left (ltb 0 (length word) && all is_digit word) (leb (value word) most_number) t))

not_empty : (word : List ℕ) → T (is_number word) → 0 < length word
unfolding is_number
not_empty word t =
    ltb→lt 0 (length word)
    (and_left (ltb 0 (length word)) (all is_digit word) (and_left (ltb 0 (length word) && all is_digit word) (leb (value word) most_number) t))

first_digit : (u v : List ℕ) → 0 < length u → Every (λ c. is_digit c ≡ true) u → is_digit (get_or (u ++ v) 0 0) ≡ true
first_digit [] v h e = absurd (omega arith)
first_digit (c ∷ u) v h e = e.0

-- ---- a line

-- the line without its end
abbrev line_body : Numbers → List ℕ
line_body w = w.position ++ 32 ∷ (w.first ++ 32 ∷ w.end)

before_rest : (w : Numbers) (rest : List ℕ) → line_written w ++ rest ≡ line_body w ++ 10 ∷ rest
before_rest w rest = simp append_assoc

module _ (w : Numbers) (N : AllNumbers w) where
  whole : Every (λ c. is_line_end c ≡ false) (line_body w)
  whole =
      every_append _ w.position (32 ∷ (w.first ++ 32 ∷ w.end)) (none w.position N.position)
      (refl, every_append _ w.first (32 ∷ w.end) (none w.first N.first) (refl, none w.end N.end))
    where
      none : (word : List ℕ) → T (is_number word) → Every (λ c. is_line_end c ≡ false) word
      none word t = every_map no_line_end word (digits word t)

  first_line : (rest : List ℕ) → lines_of (line_written w ++ rest) ≡ line_body w ∷ lines_of rest
  first_line rest = ap lines_of (before_rest w rest) ∙ first_piece is_line_end (line_body w) 10 rest whole refl

  its_words : words_of (line_body w) ≡ w.position ∷ w.first ∷ w.end ∷ []
  unfolding present
  its_words =
      rw (
        first_piece is_blank w.position 32 (w.first ++ 32 ∷ w.end) (none w.position N.position) refl,
        first_piece is_blank w.first 32 w.end (none w.first N.first) refl,
        last_piece is_blank w.end (none w.end N.end),
        kept w.position (w.first ∷ w.end ∷ []) (not_empty w.position N.position),
        kept w.first (w.end ∷ []) (not_empty w.first N.first),
        kept w.end [] (not_empty w.end N.end),
      )
    where
      none : (word : List ℕ) → T (is_number word) → Every (λ c. is_blank c ≡ false) word
      none word t = every_map no_blank word (digits word t)

  words_said : words_say (w.position ∷ w.first ∷ w.end ∷ []) ≡ window (window_said w)
  unfolding words_say
  words_said = rw (T→true (is_number w.position) N.position, T→true (is_number w.first) N.first, T→true (is_number w.end) N.end)

  -- it does not begin with #
  no_mark : get_or (line_body w) 0 0 ≡ 35 → ⊥
  no_mark e =
      let least : 48 ≤ get_or (line_body w) 0 0 = digit_least _ (first_digit w.position (32 ∷ (w.first ++ 32 ∷ w.end)) (not_empty w.position N.position) (digits w.position N.position)) in
      omega arith

  body_said : line_says (line_body w) ≡ window (window_said w)
  unfolding line_says
  body_said = rw (ne_eqb (get_or (line_body w) 0 0) 35 no_mark) (ap words_say its_words ∙ words_said)

-- ---- a table

-- what stands after the last line end is an empty line, which says nothing
empty_said : (k : ℕ) → table_from k (lines_of []) ≡ record { windows = []; bad = 0 }
unfolding pieces present words_say line_says table_from
empty_said k = refl

next_line : (k : ℕ) (line : List ℕ) (lines : List (List ℕ)) → table_from k (line ∷ lines) ≡ with_line k (line_says line) (table_from (suc k) lines)
unfolding table_from
next_line k line lines = refl

pub table_said : (k : ℕ) (ws : List Numbers) → Every AllNumbers ws → table_from k (lines_of (flat_map line_written ws)) ≡ record { windows = map window_said ws; bad = 0 }
unfolding flat_map
table_said k [] e = empty_said k
table_said k (w ∷ ws) e =
    ap (table_from k) (first_line w e.0 (flat_map line_written ws))
    ∙ next_line k (line_body w) (lines_of (flat_map line_written ws))
    ∙ rw (body_said w e.0, table_said (suc k) ws e.1)

-- a text that is not too long counts as a whole
pub within_said : (text : List ℕ) (t : Table) → length text ≤ most_bytes → table_from 1 (lines_of text) ≡ t → table_within text ≡ t
within_said text t h e = ap (λ (l : List ℕ). table_from 1 (lines_of l)) (take_all most_bytes text h) ∙ e
