-- The file of a minute: how long it is, and that it is written with its header and its records.
use mathlib.Core.Path.{◌≡◌, refl, ◌∙◌, ap₂}
use mathlib.Core.List.{List, flat_map}
use Prim.Native.Nat.{ℕ, ◌+◌, ◌-◌, ◌*◌}
use native.Mathlib.Omega.{arith}
use lib.ListN.{length, length-append}
use lib.Seq.{sets}
use borrow.Rule.Slice.PartMut.{mid_of, put_mid}
use Rattle.network.specs.Question.{Setting}
use Rattle.format.specs.Files.{arc_bytes, arc_at, setting_in, network_header, network_file}
use Rattle.format.specs.Promises.{ArcFits}
use Rattle.format.proofs.Records.{flat_length}
use Rattle.format.proofs.Codings.{arcs_coded}
use Rattle.format.proofs.LentRests.{front_and_rest}
use Rattle.tide_windows.specs.Windows.{Window}
use Rattle.calendar_records.specs.MinuteNetwork.{arcs_at}
use Rattle.calendar_records.specs.Records.{RecordsIn}
use Rattle.calendar.specs.Schedule.{file_at}

pub file_size : (net : List ℕ) (ws : List Window) (t : ℕ) → length (file_at net ws t) ≡ 11 + 4 * length (arcs_at net ws t)
unfolding network_file
file_size net ws t =
    let arcs = arcs_at net ws t in
    length-append (network_header (setting_in net) (length arcs)) (flat_map arc_bytes arcs) ∙ omega (arith, flat_length arc_bytes arc_at 4 ArcFits arcs_coded arcs)

-- the header, with what was read of the file, then the records in the rest that is lent
pub file-written :
    (net : List ℕ) (ws : List Window) (t : ℕ) (st : Setting) (count r : ℕ) (before l ys : List ℕ)
    → st ≡ setting_in net → count ≡ length (arcs_at net ws t) → l ≡ sets before 0 (network_header st count)
    → RecordsIn (arcs_at net ws t) 0 (mid_of 11 (length l - 11) l) r ys → put_mid 11 (length l - 11) l ys ≡ sets before 0 (file_at net ws t)
unfolding network_file
file-written net ws t st count r before l ys is many header records =
    front_and_rest before (network_header (setting_in net) (length (arcs_at net ws t))) (flat_map arc_bytes (arcs_at net ws t)) 11
    (header ∙ ap₂ (λ (s : Setting) (k : ℕ). sets before 0 (network_header s k)) is many) refl records.bytes
