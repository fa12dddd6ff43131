-- The promises of specs/Promises.antt, kept.
use mathlib.Core.Path.{◌≡◌, refl, sym, ◌∙◌, ap}
use mathlib.Core.Bool.{true, false}
use mathlib.Core.List.{List, [], ◌∷◌, ◌++◌}
use Prim.Native.Nat.{ℕ, ◌≤◌, ◌<◌}
use native.Mathlib.Decide.{dec_le}
use native.Mathlib.Omega.{arith}
use lib.Dec.{leb, leb→le}
use lib.ListN.{length, take, drop}
use lib.Seq.{take_all, length-take-le, take-append_seam, drop-append_seam}
use borrow.Author.Tests.{lt-leb}
use Rattle.prelude.specs.Checks.{Check, ◌unless◌, settle}
use Rattle.prelude.specs.Lists.{all}
use Rattle.prelude.proofs.Booleans.{and_left, and_right}
use Rattle.prelude.proofs.Lists.{all→every}
use Rattle.prelude.proofs.Settle.{settled, settled_back, settle_append, hold_left, hold_right}
use Rattle.network.specs.Question.{asks, Admissible}
use Rattle.format.specs.Files.{setting_in, count_in, arcs_in, network_file}
use Rattle.format.specs.Replies.{wrote, declined}
use Rattle.format.proofs.Promises.{only_network}
use Rattle.acceptance.specs.Acceptance.{acceptance_checks, AcceptedFile}
use Rattle.acceptance.proofs.AcceptedFiles.{layout_held}
use Rattle.acceptance.proofs.Promises.{written_accepted, accepted_means}
use Rattle.tide_windows.specs.Windows.{Window, most_windows, last_minute, is_open, window_ok, windows_checks}
use Rattle.calendar_records.specs.MinuteNetwork.{arcs_at}
use Rattle.calendar.specs.Schedule.{file_at, request_checks, schedule_checks, schedule_reply, buffer_after}
use Rattle.calendar.specs.Promises.{FileAccepted, NoWindows, Writes, RefusalWritesNothing, FirstDecide, OpenAlone}
use Rattle.tide_windows.proofs.OpenTests.{window_rule}
use Rattle.calendar_records.proofs.LeftArcs.{left_length, left_allowed, left_all}
use Rattle.calendar_records.proofs.EmptyArcs.{open_alone_for}

-- ---- the file of a minute

-- What is left of arcs that may be read may be read.
pub minute_admissible : (net : List ℕ) (ws : List Window) (t : ℕ) → AcceptedFile net → Admissible (setting_in net) (arcs_at net ws t)
minute_admissible net ws t h =
    let a = accepted_means net h in
    let q = asks (setting_in net) in
    record {
      opened = a.opened;
      allowed = left_allowed q (is_open ws t) (setting_in net) 0 (arcs_in net) a.allowed;
      few = omega (arith, left_length q (is_open ws t) 0 (arcs_in net), a.few);
    }

pub file_accepted : FileAccepted
file_accepted net ws t h = written_accepted (setting_in net) (arcs_at net ws t) (minute_admissible net ws t h)

pub no_windows : NoWindows
unfolding is_open
no_windows net t b h =
    ap (network_file (setting_in net)) (left_all (asks (setting_in net)) (is_open [] t) (λ k. refl) 0 (arcs_in net))
    ∙ sym (only_network net b (layout_held net h))

-- ---- the reply and the buffer

-- A reply of a length is no refusal.
not_declined : (j k : ℕ) → declined j ≡ wrote k → ⊥
not_declined j k e = let z : ◌≡◌ {A = ℕ} 0 1 = cc in omega arith

pub writes : Writes
writes net ws t k before e =
    let file = file_at net ws t in
    let checks = schedule_checks net ws t (length before) in
    let u = settled_back declined checks (wrote (length file)) (wrote k) (λ j. not_declined j k) e in
    let size : length file ≡ k = cc in
    let after : buffer_after net ws t before ≡ file ++ drop (length file) before = settled (λ j. before) checks (file ++ drop (length file) before) u.0 in
    let request = hold_left (request_checks net ws t) (20 unless leb (length file) (length before) ∷ []) u.0 in
    let tested = hold_right (acceptance_checks net) (windows_checks (count_in net) ws t) request in
    let fit = all (window_ok (count_in net)) ws in
    record {
      accepted = hold_left (acceptance_checks net) (windows_checks (count_in net) ws t) request;
      few = leb→le (length ws) most_windows tested.0;
      minute_within = leb→le t last_minute (and_left (leb t last_minute) fit tested.1.0);
      windows_fit = all→every (window_ok (count_in net)) (window_rule (count_in net)) ws (and_right (leb t last_minute) fit tested.1.0);
      room = omega (arith, leb→le (length file) (length before) (hold_right (request_checks net ws t) (20 unless leb (length file) (length before) ∷ []) u.0).0);
      size = sym size;
      file = rw (after, ← size) (take-append_seam file (drop (length file) before));
      beyond = rw (after, ← size) (drop-append_seam file (drop (length file) before));
    }

-- Where the reply is the refusal of a check, the buffer is what it was.
refused : (cs : List Check) (n k : ℕ) (before written : List ℕ) → settle declined cs (wrote n) ≡ declined k → settle (λ j. before) cs written ≡ before
refused [] n k before written e = absurd (not_declined k n (sym e))
refused ((j unless true) ∷ cs) n k before written e = refused cs n k before written e
refused ((j unless false) ∷ cs) n k before written e = refl

pub refusal_writes_nothing : RefusalWritesNothing
refusal_writes_nothing net ws t k before e =
    let file = file_at net ws t in
    refused (schedule_checks net ws t (length before)) (length file) k before (file ++ drop (length file) before) e

-- Too many windows are refused with 21, whatever they are, unless the file itself is refused.
too_many : {A : Type 0} (g : ℕ → A) (v : A) (net : List ℕ) (ws : List Window) (t room : ℕ) → most_windows < length ws → settle g (schedule_checks net ws t room) v ≡ settle g (acceptance_checks net) (g 21)
too_many g v net ws t room h =
    let full = lt-leb (length ws) most_windows h in
    settle_append g (request_checks net ws t) (20 unless leb (length (file_at net ws t)) room ∷ []) v
    ∙ settle_append g (acceptance_checks net) (windows_checks (count_in net) ws t) (settle g (20 unless leb (length (file_at net ws t)) room ∷ []) v)
    ∙ ap (settle g (acceptance_checks net)) (rw full)

pub first_decide : FirstDecide
first_decide net ws t before = go (dec_le (length ws) 65)
  where
    go : Dec (length ws ≤ 65) → (schedule_reply net (take 65 ws) t (length before) ≡ schedule_reply net ws t (length before)) × (buffer_after net (take 65 ws) t before ≡ buffer_after net ws t before)
    go (yes h) = (ap (λ (l : List Window). schedule_reply net l t (length before)) (take_all 65 ws h), ap (λ (l : List Window). buffer_after net l t before) (take_all 65 ws h))
    go (no h) = (
      too_many declined _ net (take 65 ws) t (length before) (omega (arith, length-take-le 65 ws (omega arith))) ∙ sym (too_many declined _ net ws t (length before) (omega arith)),
      too_many (λ k. before) _ net (take 65 ws) t (length before) (omega (arith, length-take-le 65 ws (omega arith))) ∙ sym (too_many (λ k. before) _ net ws t (length before) (omega arith)),
    )

-- ---- the open arcs alone

pub open_alone : OpenAlone
open_alone st ws t net a = open_alone_for (asks st) st (is_open ws t) 0 net a
