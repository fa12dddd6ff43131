-- The bytes of a file from an index on, one after the other: what is read from them is written back as they are.
use mathlib.Core.Path.{◌≡◌, refl, sym, ◌∙◌, ap, ap₂}
use mathlib.Core.List.{List, [], ◌∷◌, ◌++◌}
use Prim.Native.Nat.{ℕ, zero, suc, ◌+◌, ◌/◌, ◌%◌, ◌≤◌, ◌<◌}
use native.Mathlib.Nat.{zero-add, add-zero, suc-add}
use native.Mathlib.Numerals.{add-one}
use native.Mathlib.Omega.{arith}
use lib.ListN.{length, take, drop}
use lib.Seq.{drop-cons, take-length}
use Rattle.prelude.specs.Lists.{Every}
use Rattle.file_fields.specs.Bytes.{byte_at, joined16, joined32, byte16, read16, signed_of, byte32, read_signed}
use Rattle.file_fields.proofs.Reading.{pattern_signed}
use Rattle.file_fields.proofs.Writing.{two_more, four_more}
use Rattle.format.specs.Files.{arc_bytes, load_bytes, arc_at, load_at}
use Rattle.format.specs.Promises.{Byte}
use Rattle.format.proofs.Halves.{high_half, low_half}
use Rattle.format.proofs.Reading.{read16_fits}

unfoldable pub window : List ℕ → ℕ → ℕ → List ℕ
window file i zero = []
window file i (suc n) = byte_at file i ∷ window file (suc i) n

pub window_append : (file : List ℕ) (i m n : ℕ) → window file i (m + n) ≡ window file i m ++ window file (i + m) n
unfolding window
window_append file i zero n = rw (zero-add n, add-zero i)
window_append file i (suc m) n =
    let e : suc i + m ≡ i + suc m = omega arith in
    rw (suc-add m n) (ap (λ (l : List ℕ). byte_at file i ∷ l) (window_append file (suc i) m n ∙ ap (λ (j : ℕ). window file (suc i) m ++ window file j n) e))

window_part : (file : List ℕ) (i n : ℕ) → i + n ≤ length file → window file i n ≡ take n (drop i file)
unfolding window
window_part file i zero h = refl
window_part file i (suc n) h =
    ap (λ (l : List ℕ). byte_at file i ∷ l) (window_part file (suc i) n (omega arith)) ∙ sym (ap (take (suc n)) (drop-cons file i 0 (omega arith)))

pub window_all : (file : List ℕ) → window file 0 (length file) ≡ file
window_all file = window_part file 0 (length file) (omega arith) ∙ take-length file

-- ---- numbers, written as they were read

pub byte_in : (file : List ℕ) → Every Byte file → (i : ℕ) → byte_at file i < 256
byte_in [] e i = omega arith
byte_in (b ∷ l) e zero = e.0
byte_in (b ∷ l) e (suc i) = byte_in l e.1 i

module _ (file : List ℕ) (e : Every Byte file) where
  pub pair : (i : ℕ) → byte16 (read16 file i) ≡ window file i 2
  unfolding window
  pair i = halves (byte_at file i) (byte_at file (i + 1)) (byte_in file e (i + 1)) ∙ ap (λ (j : ℕ). byte_at file i ∷ byte_at file j ∷ []) (add-one i)
    where
      halves : (a b : ℕ) → b < 256 → byte16 (joined16 a b) ≡ a ∷ b ∷ []
      halves a b h = ap₂ (λ (x y : ℕ). x ∷ y ∷ []) (high_half 256 a b h) (low_half 256 a b h)

  pub arc_exact : (i : ℕ) → arc_bytes (arc_at file i) ≡ window file i 4
  unfolding window
  arc_exact i =
      ap (λ (l : List ℕ). byte_at file i ∷ byte_at file (i + 1) ∷ l) (pair (i + 2))
      ∙ ap₂ (λ (j k : ℕ). byte_at file i ∷ byte_at file j ∷ byte_at file k ∷ byte_at file (suc k) ∷ []) (add-one i) (two_more i)

  pub load_exact : (i : ℕ) → load_bytes (load_at file i) ≡ window file i 6
  unfolding window
  load_exact i = ap₂ ◌++◌ (arc_exact i) (pair (i + 4)) ∙ ap (λ (j : ℕ). window file i 4 ++ window file j 2) (four_more i)

  pub number_exact : (i : ℕ) → byte32 (read_signed file i) ≡ window file i 4
  unfolding window
  number_exact i = bits (read16 file i) (read16 file (i + 2)) (read16_fits file (byte_in file e) i) (read16_fits file (byte_in file e) (i + 2)) ∙ ap₂ ◌++◌ (pair i) (pair (i + 2)) ∙ ap (λ (j : ℕ). window file i 2 ++ window file j 2) (two_more i)
    where
      bits : (a b : ℕ) → a < 65536 → b < 65536 → byte32 (signed_of (joined32 a b)) ≡ byte16 a ++ byte16 b
      bits a b h l =
          ap (λ (k : ℕ). byte16 (k / 65536) ++ byte16 (k % 65536)) (pattern_signed (joined32 a b) (omega arith))
          ∙ ap₂ (λ (x y : ℕ). byte16 x ++ byte16 y) (high_half 65536 a b l) (low_half 65536 a b l)
