-- What scheduling returns and leaves in the buffer: after a refusal of what was handed over, after check 20, and after the file was written.
use mathlib.Core.Path.{◌≡◌, refl, sym, ◌∙◌, ap}
use mathlib.Core.List.{List, [], ◌∷◌, ◌++◌}
use Prim.Native.Nat.{ℕ, ◌+◌, ◌*◌, ◌≤◌, ◌<◌}
use native.Mathlib.Nat.{zero-add}
use native.Mathlib.Omega.{arith}
use lib.Dec.{leb}
use lib.ListN.{length, drop}
use lib.Seq.{sets, sets-eq}
use borrow.Author.Tests.{le-leb, lt-leb}
use Rattle.prelude.specs.Checks.{Check, ◌unless◌, settle, first_broken}
use Rattle.prelude.proofs.Settle.{Numbered, numbered_append, none_broken, hold_left, part_refused, part_passed}
use Rattle.arc_records.specs.Limits.{most_arcs}
use Rattle.format.specs.Files.{count_in}
use Rattle.format.specs.Replies.{WriterSaid, wrote, declined}
use Rattle.acceptance.specs.Acceptance.{acceptance_checks}
use Rattle.acceptance.proofs.AcceptedFiles.{acceptance_numbered}
use Rattle.tide_windows.specs.Windows.{Window, windows_checks}
use Rattle.calendar_records.specs.MinuteNetwork.{arcs_at}
use Rattle.calendar.specs.Schedule.{file_at, request_checks, schedule_reply, buffer_after}
use Rattle.calendar.proofs.MinuteFile.{file_size}
use Rattle.calendar.proofs.Promises.{minute_admissible}

module _ (net : List ℕ) (ws : List Window) (t : ℕ) (before : List ℕ) (why : ℕ) (found : why ≡ first_broken (request_checks net ws t)) where
  abbrev file : List ℕ
  file = file_at net ws t

  -- the buffer after it is written
  abbrev filled : List ℕ
  filled = file ++ drop (length file) before

  abbrev room : List Check
  room = 20 unless leb (length file) (length before) ∷ []

  numbered : Numbered (request_checks net ws t)
  numbered = numbered_append (acceptance_checks net) (windows_checks (count_in net) ws t) (acceptance_numbered net) (refl, (refl, tt))

  pub at_request : (why ≡ 0 → ⊥) → (declined why ≡ schedule_reply net ws t (length before)) × (before ≡ buffer_after net ws t before)
  at_request h = (
    part_refused declined (request_checks net ws t) room (wrote (length file)) numbered why found h,
    part_refused (λ k. before) (request_checks net ws t) room filled numbered why found h,
  )

  module _ (fine : why ≡ 0) where
    -- what check 20 leaves is what is returned and left in the buffer
    by_room : (reply : WriterSaid) (after : List ℕ) → reply ≡ settle declined room (wrote (length file)) → after ≡ settle (λ k. before) room filled
        → (reply ≡ schedule_reply net ws t (length before)) × (after ≡ buffer_after net ws t before)
    by_room reply after r b = (
      part_passed declined (request_checks net ws t) room (wrote (length file)) numbered why found fine reply r,
      part_passed (λ k. before) (request_checks net ws t) room filled numbered why found fine after b,
    )

    few_left : length (arcs_at net ws t) ≤ most_arcs
    few_left =
        (minute_admissible net ws t (hold_left (acceptance_checks net) (windows_checks (count_in net) ws t) (none_broken (request_checks net ws t) numbered (sym found ∙ fine)))).few

    module _ (count : ℕ) (many : count ≡ length (arcs_at net ws t)) where
      pub few_records : count ≤ most_arcs
      few_records = omega (arith, few_left)

      size_is : 11 + 4 * count ≡ length file
      size_is = omega (arith, file_size net ws t)

      pub at_room : length before < 11 + 4 * count → (declined 20 ≡ schedule_reply net ws t (length before)) × (before ≡ buffer_after net ws t before)
      at_room h =
          let short = lt-leb (length file) (length before) (omega (arith, size_is)) in
          by_room (declined 20) before (rw short) (rw short)

      pub at_end : (after : List ℕ) → 11 + 4 * count ≤ length before → after ≡ sets before 0 file
          → (wrote (11 + 4 * count) ≡ schedule_reply net ws t (length before)) × (after ≡ buffer_after net ws t before)
      at_end after h written =
          let long = le-leb (length file) (length before) (omega (arith, size_is)) in
          by_room (wrote (11 + 4 * count)) after (rw long (ap wrote size_is))
          (rw long (written ∙ sets-eq file before 0 (omega (arith, size_is)) ∙ ap (λ (k : ℕ). file ++ drop k before) (zero-add (length file))))
