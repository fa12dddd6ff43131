-- The words of a line, one after the other, and what four of them say.
use mathlib.Core.Path.{◌≡◌, refl, sym, ap, ◌∙◌}
use mathlib.Core.Bool.{Bool, true, false, ◌&&◌}
use mathlib.Core.List.{List, [], ◌∷◌}
use Prim.Native.Nat.{ℕ, suc, ◌+◌, ◌-◌, ◌≤◌, ◌<◌}
use native.Mathlib.Decide.{dec_le}
use native.Mathlib.Omega.{arith}
use lib.ListN.{length, get_or, take, drop, length-drop, drop_of_length-le}
use lib.Seq.{drop-cons, drop-drop, get_or-drop}
use borrow.Author.Tests.{not-true, eq-eqb, ne_eqb}
use Rattle.std.specs.Prelude.{Some, None}
use Rattle.std.specs.List.{starts_with}
use lib.Dec.{eqb}
use Rattle.prelude.specs.Choice.{pick}
use Rattle.tide_table.specs.Text.{is_blank, words_of, pieces, present, value, is_number}
use Rattle.tide_table.specs.TideTable.{window, unclear, words_say, line_says}
use Rattle.tide_table.specs.Reading.{count_before, is_sought, first_word, later_words, word_start, word_end, NumberRead, WordRead, line_for, line_by}
use Rattle.tide_table.specs.declared.text.Sought.TheVariants.{Blank, Word as Present}
use Rattle.tide_table.specs.declared.text.Word.{Word}
use Rattle.tide_table.specs.declared.text.Word.TheVariants.{Missing, Number, Other}
use Rattle.tide_table.specs.declared.lines.Line.{Line}
use Rattle.tide_table.specs.declared.lines.Line.TheVariants.{Nothing, Unclear}
use Rattle.tide_table.proofs.Pieces.{before_within, before_found, before_none, skip, first_present}

-- ---- the first word from an index on

no_words : words_of [] ≡ []
unfolding pieces present
no_words = refl

module _ (line : List ℕ) (at : ℕ) where
  from_start : words_of (drop at line) ≡ words_of (drop (word_start line at) line)
  from_start = skip is_blank (drop at line) ∙ ap words_of (drop-drop (count_before (is_sought Present) (drop at line)) at line)

  pub word_none : length line ≤ word_start line at → words_of (drop at line) ≡ []
  word_none h = from_start ∙ ap words_of (drop_of_length-le line h) ∙ no_words

  pub end_none : length line ≤ word_start line at → word_end line at ≡ word_start line at
  end_none h =
      let e : count_before (is_sought Blank) (drop (word_start line at) line) ≡ 0 = ap (count_before (is_sought Blank)) (drop_of_length-le line h) ∙ before_none (is_sought Blank) in
      omega arith

  starts : word_start line at < length line → is_blank (get_or line (word_start line at) 0) ≡ false
  starts h =
      not-true _
      (ap (is_sought Present) (sym (get_or-drop at line (count_before (is_sought Present) (drop at line)) 0))
      ∙ before_found (is_sought Present) (drop at line) (simp length-drop (omega arith)))

  pub word_some : word_start line at < length line → words_of (drop at line) ≡ take (count_before is_blank (drop (word_start line at) line)) (drop (word_start line at) line) ∷ words_of (drop (word_end line at) line)
  word_some h = from_start ∙ first ∙ ap (λ (l : List ℕ). take n (drop start line) ∷ words_of l) (drop-drop n start line)
    where
      start : ℕ
      start = word_start line at

      n : ℕ
      n = count_before is_blank (drop start line)

      first : words_of (drop start line) ≡ take n (drop start line) ∷ words_of (drop n (drop start line))
      first = rw (drop-cons line start 0 h) (first_present is_blank (get_or line start 0) (drop (suc start) line) (starts h))

  pub end_within : word_start line at ≤ length line → word_end line at ≤ length line
  end_within h = omega (arith, before_within (is_sought Blank) (drop (word_start line at) line), length-drop (word_start line at) line)

  -- the words after it are those from its end on
  pub later : words_of (drop (word_end line at) line) ≡ later_words (words_of (drop at line))
  later = go (dec_le (length line) (word_start line at))
    where
      go : Dec (length line ≤ word_start line at) → words_of (drop (word_end line at) line) ≡ later_words (words_of (drop at line))
      go (yes h) = ap (λ (k : ℕ). words_of (drop k line)) (end_none h) ∙ ap words_of (drop_of_length-le line h) ∙ no_words ∙ sym (ap later_words (word_none h))
      go (no h) = sym (ap later_words (word_some (omega arith)))

-- ---- what is answered of it

module _ (line : List ℕ) (at start : ℕ) where
  pub no_word_read : start ≡ word_start line at → length line ≤ start → WordRead line at (Missing, start)
  no_word_read s h =
      record {
        word = sym (ap first_word (word_none line at (omega arith)));
        end = s ∙ sym (end_none line at (omega arith));
      }

  module _ (end : ℕ) (s : start ≡ word_start line at) (e : end ≡ start + count_before (is_sought Blank) (drop start line)) (h : start < length line) where
    its_end : end ≡ word_end line at
    its_end = e ∙ ap (λ (k : ℕ). k + count_before (is_sought Blank) (drop k line)) s

    pub word_within : end ≤ length line
    word_within = rw its_end (end_within line at (omega arith))

    some : words_of (drop at line) ≡ take (end - start) (drop start line) ∷ words_of (drop (word_end line at) line)
    some =
        let size : count_before is_blank (drop start line) ≡ end - start = omega arith in
        rw (← size, s) (word_some line at (omega arith))

    pub number_read : (n : ℕ) → NumberRead (take (end - start) (drop start line)) (Some n) → WordRead line at (Number n, end)
    number_read n N = record { word = rw (some, N.0) (ap Number N.1); end = its_end }

    pub other_read : NumberRead (take (end - start) (drop start line)) None → WordRead line at (Other, end)
    other_read N = record { word = rw (some, N); end = its_end }

-- ---- what four words say

abbrev pub line_of : List (List ℕ) → Line
line_of ws =
    line_by (first_word ws) (first_word (later_words ws)) (first_word (later_words (later_words ws)))
    (first_word (later_words (later_words (later_words ws))))

pub words_say_lem : (ws : List (List ℕ)) → line_of ws ≡ line_for (words_say ws)
unfolding words_say
words_say_lem [] = refl
words_say_lem (u ∷ []) = go (is_number u)
  where
    go : (s : Bool) → line_by (pick s (Number (value u)) Other) Missing Missing Missing ≡ Unclear
    go true = refl
    go false = refl
words_say_lem (u ∷ v ∷ []) = go (is_number u) (is_number v)
  where
    go : (s t : Bool) → line_by (pick s (Number (value u)) Other) (pick t (Number (value v)) Other) Missing Missing ≡ Unclear
    go true true = refl
    go true false = refl
    go false t = refl
words_say_lem (u ∷ v ∷ w ∷ []) = go (is_number u) (is_number v) (is_number w)
  where
    go : (r s t : Bool) → line_by (pick r (Number (value u)) Other) (pick s (Number (value v)) Other) (pick t (Number (value w)) Other) Missing
        ≡ line_for (pick (r && (s && (t && true))) (window (record { position = value u; first = value v; end = value w })) unclear)
    go true true true = refl
    go true true false = refl
    go true false t = refl
    go false s t = refl
words_say_lem (u ∷ v ∷ w ∷ x ∷ ws) =
    rw (ne_eqb (length (u ∷ v ∷ w ∷ x ∷ ws)) 0 (λ e. omega arith), ne_eqb (length (u ∷ v ∷ w ∷ x ∷ ws)) 3 (λ e. omega arith))
    (go (is_number u) (is_number v) (is_number w) (is_number x))
  where
    go : (r s t o : Bool) → line_by (pick r (Number (value u)) Other) (pick s (Number (value v)) Other) (pick t (Number (value w)) Other) (pick o (Number (value x)) Other) ≡ Unclear
    go true true true true = refl
    go true true true false = refl
    go true true false o = refl
    go true false t o = refl
    go false s t o = refl

pub four_say : (line : List ℕ) (a b c d : Word × ℕ) → WordRead line 0 a → WordRead line a.1 b → WordRead line b.1 c → WordRead line c.1 d → line_by a.0 b.0 c.0 d.0 ≡ line_for (words_say (words_of line))
four_say line a b c d A B C D = said ∙ words_say_lem (words_of line)
  where
    second : words_of (drop a.1 line) ≡ later_words (words_of line)
    second = ap (λ (k : ℕ). words_of (drop k line)) A.end ∙ later line 0

    third : words_of (drop b.1 line) ≡ later_words (later_words (words_of line))
    third = ap (λ (k : ℕ). words_of (drop k line)) B.end ∙ later line a.1 ∙ ap later_words second

    fourth : words_of (drop c.1 line) ≡ later_words (later_words (later_words (words_of line)))
    fourth = ap (λ (k : ℕ). words_of (drop k line)) C.end ∙ later line b.1 ∙ ap later_words third

    said : line_by a.0 b.0 c.0 d.0 ≡ line_of (words_of line)
    said = rw (A.word, B.word, C.word, D.word, second, third, fourth)

pub line_said : (line : List ℕ) (a b c d : Word × ℕ) → (get_or line 0 0 ≡ 35 → ⊥) → WordRead line 0 a → WordRead line a.1 b → WordRead line b.1 c → WordRead line c.1 d → line_by a.0 b.0 c.0 d.0 ≡ line_for (line_says line)
unfolding line_says
line_said line a b c d h A B C D = rw (ne_eqb (get_or line 0 0) 35 h) (four_say line a b c d A B C D)

-- a line that begins with #
pub marked : (line : List ℕ) → starts_with eqb line (35 ∷ []) ≡ eqb (get_or line 0 0) 35
marked [] = refl
marked (c ∷ line) = go (dec_le c 35) (dec_le 35 c)
  where
    go : Dec (c ≤ 35) → Dec (35 ≤ c) → (eqb 35 c && true) ≡ eqb c 35
    go (yes h) (yes k) = let e : c ≡ 35 = omega arith in rw e refl
    go (no n) k = rw (ne_eqb c 35 (λ e. omega arith), ne_eqb 35 c (λ e. omega arith)) refl
    go (yes h) (no n) = rw (ne_eqb c 35 (λ e. omega arith), ne_eqb 35 c (λ e. omega arith)) refl

pub line_skipped : (line : List ℕ) → get_or line 0 0 ≡ 35 → Nothing ≡ line_for (line_says line)
unfolding line_says
line_skipped line h = rw (eq-eqb (get_or line 0 0) 35 h)
