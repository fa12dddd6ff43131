-- What the checks of a layout say of a file.
use mathlib.Core.Path.{◌≡◌, refl, sym}
use mathlib.Core.Bool.{◌&&◌}
use mathlib.Core.List.{List}
use Prim.Native.Nat.{ℕ, ◌≤◌}
use native.Mathlib.Omega.{arith}
use lib.Dec.{T, eqb, leb, eqb→eq, le→leb}
use lib.ListN.{length}
use borrow.Author.Tests.{eq-eqb, ne_eqb}
use Rattle.prelude.specs.Checks.{Hold, first_broken}
use Rattle.prelude.specs.Choice.{pick}
use Rattle.prelude.specs.Lists.{Every}
use Rattle.prelude.proofs.Booleans.{and_left, and_right, both, true→T}
use Rattle.prelude.proofs.Choice.{off}
use Rattle.file_fields.specs.Bytes.{byte_at, read16}
use Rattle.file_fields.specs.Layout.{mark_and_version, has_mark, layout}
use Rattle.file_fields.proofs.Tests.{second_off}
use Rattle.format.specs.Promises.{Byte}
use Rattle.format.proofs.Windows.{window, byte_in}

module _ (header third size : ℕ) (file : List ℕ) where
  pub holds : header ≤ length file → T (has_mark third file) → read16 file 3 ≡ 1 → length file ≡ size → Hold (layout header third size file)
  holds h m v s = (
    both (leb header (length file)) (has_mark third file) (le→leb header (length file) h) m,
    (true→T (eqb (read16 file 3) 1) (eq-eqb (read16 file 3) 1 v), (true→T (eqb (length file) size) (eq-eqb (length file) size s), tt)),
  )

  pub length_is : Hold (layout header third size file) → length file ≡ size
  length_is p = eqb→eq (length file) size p.1.1.0

  pub begins : Every Byte file → Hold (layout header third size file) → mark_and_version third ≡ window file 0 5
  unfolding window
  begins b p =
      let first = eqb (byte_at file 0) 68 in
      let second = eqb (byte_at file 1) 82 in
      let last = eqb (byte_at file 2) third in
      let m = and_right (leb header (length file)) (has_mark third file) p.0 in
      let d : byte_at file 0 ≡ 68 = eqb→eq (byte_at file 0) 68 (and_left first second (and_left (first && second) last m)) in
      let r : byte_at file 1 ≡ 82 = eqb→eq (byte_at file 1) 82 (and_right first second (and_left (first && second) last m)) in
      let l : byte_at file 2 ≡ third = eqb→eq (byte_at file 2) third (and_right (first && second) last m) in
      let v = eqb→eq (read16 file 3) 1 p.1.0 in
      let z : byte_at file 3 ≡ 0 = omega (arith, byte_in file b 4) in
      let o : byte_at file 4 ≡ 1 = omega (arith, byte_in file b 4) in
      cc

  pub other_mark : (byte_at file 2 ≡ third → ⊥) → first_broken (layout header third size file) ≡ 17
  other_mark h =
      let t = leb header (length file) && has_mark third file in
      sym (off ℕ 17 (pick (eqb (read16 file 3) 1) (pick (eqb (length file) size) 0 19) 18) 17 t
      (second_off (leb header (length file)) (has_mark third file)
      (second_off (eqb (byte_at file 0) 68 && eqb (byte_at file 1) 82) (eqb (byte_at file 2) third) (ne_eqb (byte_at file 2) third h))) refl)
