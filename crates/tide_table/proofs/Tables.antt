-- A table that is read line by line.
use mathlib.Core.Path.{◌≡◌, refl, sym, ap, ◌∙◌, subst}
use mathlib.Core.List.{List, [], ◌∷◌, map}
use Prim.Native.Nat.{ℕ, suc, ◌+◌, ◌-◌, ◌≤◌, ◌<◌}
use native.Mathlib.Numerals.{add-one}
use native.Mathlib.Omega.{arith}
use lib.ListN.{length, length-set, set, take, drop, length-drop}
use lib.Seq.{sets, take_all, drop-drop}
use borrow.Author.Tests.{le-leb, lt-leb, eq-eqb, ne_eqb}
use Rattle.tide_table.specs.Text.{is_line_end, lines_of}
use Rattle.tide_table.specs.TideTable.{LineSays, nothing, window, unclear, line_says, Table, with_line, table_from, most_bytes, table_within, row_of, TableRead}
use Rattle.tide_table.specs.Reading.{count_before, line_for, table_of, LinesRead}
use Rattle.std.specs.Prelude.{Result, Ok, Err}
use Rattle.tide_table.specs.declared.BadLine.{BadLine}
use Rattle.tide_windows.specs.Windows.{Window as TheWindow}
use Rattle.tide_table.specs.declared.lines.Line.TheVariants.{Nothing, Window, Unclear}
use Rattle.tide_table.specs.declared.lines.Counts.{Counts}
use Rattle.tide_table.proofs.Pieces.{before_within, cut, pieces_after, after_more, after_none}

-- ---- the lines up to one

-- the lines before the k-th are read, with so many windows, and ls are left: what the whole says is what ls say behind these
pub record Before (text : List ℕ) (rows₀ rows : List (List ℕ)) (k count : ℕ) (ls : List (List ℕ)) : Type 0 where
  pub counted : 1 ≤ k
  pub bad : (table_of text).bad ≡ (table_from k ls).bad
  pub windows : length (table_of text).windows ≡ count + length (table_from k ls).windows
  pub stored : sets rows₀ 0 (map row_of (table_of text).windows) ≡ sets rows count (map row_of (table_from k ls).windows)
  pub lines : length (lines_of text) + 1 ≡ k + length ls

pub begin : (text : List ℕ) (rows : List (List ℕ)) → Before text rows rows 1 0 (lines_of text)
begin text rows = record { counted = omega arith; bad = refl; windows = omega arith; stored = refl; lines = omega arith }

next_line : (k : ℕ) (l : List ℕ) (ls : List (List ℕ)) → table_from k (l ∷ ls) ≡ with_line k (line_says l) (table_from (suc k) ls)
unfolding table_from
next_line k l ls = refl

no_line : (k : ℕ) → table_from k [] ≡ record { windows = []; bad = 0 }
unfolding table_from
no_line k = refl

module _ (text : List ℕ) (rows₀ rows : List (List ℕ)) (k count : ℕ) where
  module _ (l : List ℕ) (ls : List (List ℕ)) (B : Before text rows₀ rows k count (l ∷ ls)) where
    -- what is left, by what the line says
    left : (said : LineSays) → line_says l ≡ said → table_from k (l ∷ ls) ≡ with_line k said (table_from (suc k) ls)
    left said e = next_line k l ls ∙ ap (λ (s : LineSays). with_line k s (table_from (suc k) ls)) e

    pub stop : line_says l ≡ unclear → LinesRead text rows₀ (Err (record { number = k; windows = count })) rows
    stop u =
        let e = left unclear u in
        let b : (table_of text).bad ≡ k = B.bad ∙ ap (λ (t : Table). t.bad) e in
        record {
          answer = (λ z. omega (arith, B.counted), sym b, omega (arith, B.windows, ap (λ (t : Table). length t.windows) e));
          rows = sym (B.stored ∙ ap (λ (t : Table). sets rows count (map row_of t.windows)) e);
        }

    pub turn_nothing : line_says l ≡ nothing → Before text rows₀ rows (k + 1) count ls
    turn_nothing u =
        let e = left nothing u in
        rw (add-one k)
        (record {
          counted = omega arith;
          bad = B.bad ∙ ap (λ (t : Table). t.bad) e;
          windows = B.windows ∙ ap (λ (t : Table). count + length t.windows) e;
          stored = B.stored ∙ ap (λ (t : Table). sets rows count (map row_of t.windows)) e;
          lines = omega (arith, B.lines);
        })

    pub turn_window : (w : TheWindow) → line_says l ≡ window w → Before text rows₀ (set rows count (row_of w)) (k + 1) (count + 1) ls
    turn_window w u =
        let e = left (window w) u in
        rw (add-one k)
        (record {
          counted = omega arith;
          bad = B.bad ∙ ap (λ (t : Table). t.bad) e;
          windows = omega (arith, B.windows, ap (λ (t : Table). length t.windows) e);
          stored = B.stored ∙ ap (λ (t : Table). sets rows count (map row_of t.windows)) e ∙ rw (add-one count);
          lines = omega (arith, B.lines);
        })

  -- no line is left
  pub done : Before text rows₀ rows (k + 1) count [] → LinesRead text rows₀ (Ok (record { windows = count; lines = k })) rows
  done B =
      let e = no_line (k + 1) in
      record {
        answer = (B.bad ∙ ap (λ (t : Table). t.bad) e, omega (arith, B.windows, ap (λ (t : Table). length t.windows) e), omega (arith, B.lines));
        rows = sym (B.stored ∙ ap (λ (t : Table). sets rows count (map row_of t.windows)) e);
      }

-- ---- what a line says, by how it is answered

is_nothing : (said : LineSays) → Nothing ≡ line_for said → said ≡ nothing
is_nothing nothing e = refl
is_nothing (window w) e = cc
is_nothing unclear e = cc

is_window : (said : LineSays) (row : List ℕ) → Window row ≡ line_for said → (w : TheWindow) × (said ≡ window w) × (row ≡ row_of w)
is_window nothing row e = cc
is_window (window w) row e = (w, refl, cc)
is_window unclear row e = cc

is_unclear : (said : LineSays) → Unclear ≡ line_for said → said ≡ unclear
is_unclear nothing e = cc
is_unclear (window w) e = cc
is_unclear unclear e = refl

-- ---- where a line ends

module _ (text : List ℕ) (at end : ℕ) (e : end ≡ at + count_before is_line_end (drop at text)) where
  size : count_before is_line_end (drop at text) ≡ end - at
  size = omega arith

  line : take (count_before is_line_end (drop at text)) (drop at text) ≡ take (end - at) (drop at text)
  line = ap (λ (n : ℕ). take n (drop at text)) size

  pub ends_within : at ≤ length text → end ≤ length text
  ends_within h = omega (arith, before_within is_line_end (drop at text), length-drop at text)

  pub one_line : lines_of (drop at text) ≡ take (end - at) (drop at text) ∷ pieces_after is_line_end (drop at text)
  one_line = cut is_line_end (drop at text) ∙ ap (λ (l : List ℕ). l ∷ pieces_after is_line_end (drop at text)) line

  pub more_lines : end < length text → pieces_after is_line_end (drop at text) ≡ lines_of (drop (end + 1) text)
  more_lines h =
      let next : at + suc (count_before is_line_end (drop at text)) ≡ end + 1 = omega arith in
      after_more is_line_end (drop at text) (simp length-drop (omega arith))
      ∙ ap lines_of (drop-drop (suc (count_before is_line_end (drop at text))) at text)
      ∙ ap (λ (n : ℕ). lines_of (drop n text)) next

  pub last_line : length text ≤ end → pieces_after is_line_end (drop at text) ≡ []
  last_line h = after_none is_line_end (drop at text) (simp length-drop (omega arith))

-- there is a first line
some_line : (text : List ℕ) → ¬ (length (lines_of text) ≡ 0)
some_line text e = omega (arith, ap (λ (ls : List (List ℕ)). length ls) (cut is_line_end text))

-- ---- what the loop over the lines keeps

-- the k-th line begins at an index
pub record Here (text : List ℕ) (rows₀ rows : List (List ℕ)) (at k count : ℕ) : Type 0 where
  pub within : at ≤ length text
  pub numbered : k ≤ at + 1
  pub few : count < k
  pub same : length rows ≡ length rows₀
  pub lines : Before text rows₀ rows k count (lines_of (drop at text))

pub here_start : (text : List ℕ) (rows : List (List ℕ)) → Here text rows rows 0 1 0
here_start text rows = record { within = omega arith; numbered = omega arith; few = omega arith; same = refl; lines = begin text rows }

module _ (text : List ℕ) (rows₀ rows : List (List ℕ)) (at k count : ℕ) (H : Here text rows₀ rows at k count) (end : ℕ) (e : end ≡ at + count_before is_line_end (drop at text)) where
  one_before : Before text rows₀ rows k count (take (end - at) (drop at text) ∷ pieces_after is_line_end (drop at text))
  one_before = subst (Before text rows₀ rows k count) (one_line text at end e) H.lines

  pub here_stop : Unclear ≡ line_for (line_says (take (end - at) (drop at text))) → LinesRead text rows₀ (Err (record { number = k; windows = count })) rows
  here_stop s = stop text rows₀ rows k count (take (end - at) (drop at text)) (pieces_after is_line_end (drop at text)) one_before (is_unclear _ s)

  -- the line is read: what is stored, how many windows there are, and what is left behind it
  pub record Past (stored : List (List ℕ)) (r : ℕ) : Type 0 where
    pub few : r ≤ count + 1
    pub same : length stored ≡ length rows
    pub lines : Before text rows₀ stored (k + 1) r (pieces_after is_line_end (drop at text))

  pub past_nothing : Nothing ≡ line_for (line_says (take (end - at) (drop at text))) → Past rows count
  past_nothing s =
      record {
        few = omega arith;
        same = refl;
        lines = turn_nothing text rows₀ rows k count (take (end - at) (drop at text)) (pieces_after is_line_end (drop at text)) one_before (is_nothing _ s);
      }

  pub past_window : (row : List ℕ) → Window row ≡ line_for (line_says (take (end - at) (drop at text))) → Past (set rows count row) (count + 1)
  past_window row s =
      let w = is_window _ row s in
      record {
        few = omega arith;
        same = length-set rows count row;
        lines = subst (λ (r : List ℕ). Before text rows₀ (set rows count r) (k + 1) (count + 1) (pieces_after is_line_end (drop at text))) (sym w.2)
            (turn_window text rows₀ rows k count (take (end - at) (drop at text)) (pieces_after is_line_end (drop at text)) one_before w.0 w.1);
      }

  module _ (stored : List (List ℕ)) (r : ℕ) (P : Past stored r) where
    pub here_done : length text ≤ end → LinesRead text rows₀ (Ok (record { windows = r; lines = k })) stored
    here_done h = done text rows₀ stored k r (subst (Before text rows₀ stored (k + 1) r) (last_line text at end e h) P.lines)

    pub here_turn : end < length text → Here text rows₀ stored (end + 1) (k + 1) r
    here_turn h =
        record {
          within = omega arith;
          numbered = omega (arith, H.numbered);
          few = omega (arith, H.few, P.few);
          same = P.same ∙ H.same;
          lines = subst (Before text rows₀ stored (k + 1) r) (more_lines text at end e h) P.lines;
        }

-- ---- a whole text, and one that is too long

module _ (text : List ℕ) (rows₀ rows : List (List ℕ)) where
  -- what the bytes that count say is the answer, but for the test of the length
  pub bad_read : (b : BadLine) → LinesRead (take most_bytes text) rows₀ (Err b) rows → TableRead text rows₀ (Err b) rows
  bad_read b L =
      let off = ne_eqb (table_within text).bad 0 L.answer.0 in
      record { answer = rw off L.answer; rows = L.rows }

  module _ (r : Counts) (L : LinesRead (take most_bytes text) rows₀ (Ok r) rows) where
    pub whole_read : length text ≤ most_bytes → TableRead text rows₀ (Ok r.windows) rows
    whole_read h =
        let on = eq-eqb (table_within text).bad 0 L.answer.0 in
        record { answer = rw (on, le-leb (length text) most_bytes h) (refl, L.answer.1); rows = L.rows }

    pub part_read : most_bytes < length text → TableRead text rows₀ (Err (record { number = r.lines; windows = r.windows })) rows
    part_read h =
        let on = eq-eqb (table_within text).bad 0 L.answer.0 in
        record { answer = rw (on, lt-leb (length text) most_bytes h) (λ e. some_line (take most_bytes text) e, L.answer.2, L.answer.1); rows = L.rows }

pub all_read : (text : List ℕ) → length text ≤ most_bytes → (rows₀ rows : List (List ℕ)) (r : Result Counts BadLine) → LinesRead text rows₀ r rows → LinesRead (take most_bytes text) rows₀ r rows
all_read text h rows₀ rows r L = subst (λ (t : List ℕ). LinesRead t rows₀ r rows) (sym (take_all most_bytes text h)) L
