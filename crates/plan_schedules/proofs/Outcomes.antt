-- What the scheduling program has done: the windows that are handed on, what is done without the calendar, and the outcomes step by step.
use mathlib.Core.Path.{◌≡◌, refl, sym, ◌∙◌, ap, subst}
use mathlib.Core.Bool.{Bool, true, false}
use mathlib.Core.List.{List, [], ◌∷◌, map}
use Prim.Native.Nat.{ℕ, zero, suc, min}
use native.Mathlib.Nat.{zero-min, min-zero, suc-min-suc}
use native.Mathlib.Omega.{arith}
use lib.ListN.{length, take, length-map}
use lib.Seq.{sets, length-sets}
use borrow.Author.Tests.{eq-eqb, ne_eqb}
use Rattle.std.specs.Prelude.{Option}
use Rattle.io.proofs.Counting.{prefix_len_of_le}
use Rattle.format.proofs.LentRests.{sets_shift}
use Rattle.tide_windows.specs.Windows.{Window, windows_in}
use Rattle.calendar.specs.Schedule.{schedule_reply, buffer_after}
use Rattle.calendar.proofs.Promises.{first_decide}
use Rattle.tide_table.specs.Text.{is_number, value}
use Rattle.tide_table.specs.TideTable.{bad_line_of, windows_of, row_of}
use Rattle.program_io.specs.Counted.{counted}
use Rattle.plan_schedules.specs.ScheduleLine.{Outcome, miscalled, untabled, bad_line, replied, windows_outcome, table_outcome, front_outcome, schedule_outcome, windows_buffer, table_buffer, front_buffer, schedule_buffer, outcome_line, DoneAs}
use Rattle.plan_schedules.specs.declared.schedule_line.Done.{Done}

-- ---- the windows that are handed on

-- what stands at the front of a list into which another was stored
front_stored : {A : Type 0} (l vs : List A) → take (min (length vs) (length l)) (sets l 0 vs) ≡ take (length l) vs
front_stored {A} [] vs = ap (λ (k : ℕ). take k (sets [] 0 vs)) (min-zero (length vs))
front_stored {A} (x ∷ l) [] = ap (λ (k : ℕ). take k (x ∷ l)) (zero-min (suc (length l)))
front_stored {A} (x ∷ l) (v ∷ vs) =
    ap (λ (k : ℕ). take k (sets (v ∷ l) 1 vs)) (suc-min-suc (length vs) (length l))
    ∙ ap (take (suc (min (length vs) (length l)))) (sets_shift v l 0 vs)
    ∙ ap (λ (r : List A). v ∷ r) (front_stored l vs)

rows_windows : (n : ℕ) (ws : List Window) → windows_in (take n (map row_of ws)) ≡ take n ws
rows_windows zero ws = refl
rows_windows (suc n) [] = refl
rows_windows (suc n) (w ∷ ws) = ap (λ (l : List Window). w ∷ l) (rows_windows n ws)

-- the rows of a table, of which the first 65 are kept
module _ (ws : List Window) (before after : List (List ℕ)) (n count : ℕ) (room : length before ≡ 65) (stored : after ≡ sets before 0 (map row_of ws)) where
  pub rows_length : length after ≡ 65
  rows_length = ap length stored ∙ length-sets before 0 (map row_of ws) ∙ room

  pub rows_handed : count ≡ length ws → n ≡ min count 65 → windows_in (take n after) ≡ take 65 ws
  rows_handed many kept =
      let size : n ≡ min (length (map row_of ws)) (length before) = kept ∙ (λ i. min (many i) (sym room i)) ∙ ap (λ (k : ℕ). min k (length before)) (sym (length-map ws row_of)) in
      ap windows_in ((λ i. take (size i) (stored i)) ∙ front_stored before (map row_of ws) ∙ ap (λ (k : ℕ). take k (map row_of ws)) room)
      ∙ rows_windows 65 ws

-- ---- what is done without the calendar

-- nothing was read or written, and the line is that of the outcome
pub undone : (outcome : List ℕ → Outcome) (buffer : List ℕ → List ℕ) (said : Outcome) (net out line : List ℕ) (r : Done)
    → outcome [] ≡ said → buffer [] ≡ out → r ≡ record { net = 0; saved = false; line = line } → line ≡ outcome_line said false
    → DoneAs outcome buffer net out r
undone outcome buffer said net out line r is keeps nothing made =
    subst (λ (d : Done). DoneAs outcome buffer net out d) (sym nothing)
    (record {
      net_read = prefix_len_of_le 0 net (omega arith);
      out_is = sym keeps;
      line_is = made ∙ ap (λ (o : Outcome). outcome_line o false) (sym is);
    })

-- what is done for one outcome is done for another that is the same
pub done_same : (outcome outcome₂ : List ℕ → Outcome) (buffer buffer₂ : List ℕ → List ℕ) (net out : List ℕ) (r : Done)
    → ((l : List ℕ) → outcome l ≡ outcome₂ l) → ((l : List ℕ) → buffer l ≡ buffer₂ l)
    → DoneAs outcome buffer net out r → DoneAs outcome₂ buffer₂ net out r
done_same outcome outcome₂ buffer buffer₂ net out r is keeps done =
    let read = take r.net net in
    record {
      net_read = done.net_read;
      out_is = done.out_is ∙ keeps read;
      line_is = done.line_is ∙ ap (λ (o : Outcome). outcome_line o r.saved) (is read);
    }

-- ---- the outcomes, step by step

module _ (table : List ℕ) (minute : ℕ) where
  pub table_bad : (k : ℕ) → k ≡ bad_line_of table → (bad_line_of table ≡ 0 → ⊥) → (room : ℕ) (out net : List ℕ) → (table_outcome table minute room net ≡ bad_line k) × (table_buffer table minute out net ≡ out)
  unfolding table_outcome table_buffer
  table_bad k is n room out net =
      let off = ne_eqb (bad_line_of table) 0 n in
      (rw off (ap bad_line (sym is)), rw off)

  -- the first 65 windows decide
  pub table_fine : (ws : List Window) → ws ≡ take 65 (windows_of table) → bad_line_of table ≡ 0 → (out net : List ℕ)
      → (windows_outcome ws minute (length out) net ≡ table_outcome table minute (length out) net) × (windows_buffer ws minute out net ≡ table_buffer table minute out net)
  unfolding table_outcome table_buffer
  table_fine ws first fine out net =
      let on = eq-eqb (bad_line_of table) 0 fine in
      let decide = first_decide (counted net) (windows_of table) minute out in (
        ap replied (ap (λ (l : List Window). schedule_reply (counted net) l minute (length out)) first ∙ decide.0) ∙ rw on,
        ap (λ (l : List Window). buffer_after (counted net) l minute out) first ∙ decide.1 ∙ rw on,
      )

module _ (argument : List ℕ) (table : Option (List ℕ)) (out net : List ℕ) (room : ℕ) where
  pub not_called : is_number argument ≡ false → (schedule_outcome argument table room net ≡ miscalled) × (schedule_buffer argument table out net ≡ out)
  unfolding schedule_outcome schedule_buffer
  not_called off = (rw off, rw off)

  pub called : (minute : ℕ) → is_number argument ≡ true → minute ≡ value argument
      → (front_outcome table minute room net ≡ schedule_outcome argument table room net) × (front_buffer table minute out net ≡ schedule_buffer argument table out net)
  unfolding schedule_outcome schedule_buffer
  called minute on is = (
    ap (λ (t : ℕ). front_outcome table t room net) is ∙ rw on,
    ap (λ (t : ℕ). front_buffer table t out net) is ∙ rw on,
  )
