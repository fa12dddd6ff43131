-- What reading gives past the end and in a part of a file, and the bits of a signed number as the machine has them.
use mathlib.Core.Path.{◌≡◌, refl, sym, ap, ap₂, ◌∙◌}
use mathlib.Core.Bool.{Bool, true, false}
use mathlib.Core.List.{List}
use Prim.Native.Nat.{ℕ, suc, ◌+◌, ◌-◌, ◌^◌, ◌≤◌, ◌<◌}
use native.Mathlib.Nat.{add_assoc}
use native.Mathlib.Omega.{arith}
use lib.Dec.{ltb}
use lib.IntN.{ℤ, pos, negsuc}
use lib.ListN.{length, take, drop, get_or-eq_default}
use lib.Seq.{get_or-take, get_or-drop}
use lib.Signed.{mag}
use mir.Syntax.{w32}
use mir.Val.{to_z, of_z, sel}
use mir.Facts.{to_z-of_z, of_z-to_z}
use Rattle.prelude.specs.Choice.{pick}
use Rattle.file_fields.specs.Bytes.{byte_at, joined16, joined32, read16, read32, pattern_of, signed_of, read_signed}

-- ---- past the end

pub byte_past : (file : List ℕ) (i : ℕ) → length file ≤ i → byte_at file i ≡ 0
byte_past file i h = get_or-eq_default file 0 h

pub read16_past : (file : List ℕ) (i : ℕ) → length file ≤ i → read16 file i ≡ 0
read16_past file i h = omega (arith, byte_past file i h, byte_past file (i + 1) (omega arith))

pub read32_past : (file : List ℕ) (i : ℕ) → length file ≤ i → read32 file i ≡ 0
read32_past file i h = ap₂ joined32 (read16_past file i h) (read16_past file (i + 2) (omega arith))

pub signed_past : (file : List ℕ) (i : ℕ) → length file ≤ i → read_signed file i ≡ pos 0
unfolding signed_of
signed_past file i h = ap signed_of (read32_past file i h)

-- ---- in a part

pub read32_front : (file : List ℕ) (n i : ℕ) → i + 4 ≤ n → read32 (take n file) i ≡ read32 file i
read32_front file n i h =
    ap₂ joined32
    (ap₂ joined16 (get_or-take n file i 0 (omega arith)) (get_or-take n file (i + 1) 0 (omega arith)))
    (ap₂ joined16 (get_or-take n file (i + 2) 0 (omega arith)) (get_or-take n file (i + 2 + 1) 0 (omega arith)))

pub read32_rest : (file : List ℕ) (n i : ℕ) → read32 (drop n file) i ≡ read32 file (n + i)
read32_rest file n i = simp (get_or-drop, add_assoc)

-- ---- signed numbers

pub signed_is : (k : ℕ) → to_z w32 k ≡ signed_of k
unfolding signed_of
signed_is k = by (ltb k (2 ^ 31))
  where
    by : (t : Bool) → sel t (pos k) (negsuc (2 ^ 32 - suc k)) ≡ pick t (pos k) (negsuc (2 ^ 32 - suc k))
    by true = refl
    by false = refl

pub pattern_is : (z : ℤ) → of_z w32 z ≡ pattern_of z
unfolding pattern_of
pattern_is (pos n) = refl
pattern_is (negsuc n) = refl

-- the bits of a number and the number of bits
pub pattern_signed : (k : ℕ) → k < 2 ^ 32 → pattern_of (signed_of k) ≡ k
pattern_signed k h = ap pattern_of (sym (signed_is k)) ∙ sym (pattern_is (to_z w32 k)) ∙ of_z-to_z {w = w32} (record { fits = h })

pub signed_pattern : (z : ℤ) → mag z < 2 ^ 31 → signed_of (pattern_of z) ≡ z
signed_pattern z h = ap signed_of (sym (pattern_is z)) ∙ sym (signed_is (of_z w32 z)) ∙ to_z-of_z {w = w32} (record { sfits = h })
