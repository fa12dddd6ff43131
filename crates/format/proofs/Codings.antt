-- An arc, a load and a node number as bytes: each is read back as it was written, and written as it was read.
use mathlib.Core.Path.{◌≡◌, refl, ◌∙◌, ap, ap₂}
use mathlib.Core.List.{List, ◌++◌}
use Prim.Native.Nat.{ℕ, ◌+◌, ◌/◌, ◌%◌, ◌<◌}
use native.Mathlib.Nat.{add_assoc}
use native.Mathlib.Omega.{arith}
use lib.IntN.{ℤ, pos, negsuc}
use lib.ListN.{length}
use lib.Seq.{get_or-append-add}
use Rattle.prelude.specs.Lists.{Every}
use Rattle.prelude.proofs.Lists.{every_append}
use Rattle.arc_records.specs.Arcs.{arc_of}
use Rattle.network.specs.Network.{load_of}
use Rattle.file_fields.specs.Bytes.{byte_at, joined16, joined32, byte16, read16, pattern_of, signed_of, byte32, read_signed}
use Rattle.file_fields.proofs.Reading.{signed_pattern}
use Rattle.format.specs.Files.{arc_bytes, load_bytes, arc_at, load_at}
use Rattle.format.specs.Promises.{Byte, ArcFits, LoadFits, Signed32}
use Rattle.format.proofs.Halves.{whole}
use Rattle.format.proofs.Windows.{arc_exact, load_exact, number_exact}
use Rattle.format.proofs.Records.{Coding}

-- ---- no byte before the index is looked at

module _ (before file : List ℕ) where
  at_after : (i j : ℕ) → byte_at (before ++ file) (length before + i + j) ≡ byte_at file (i + j)
  at_after i j = ap (byte_at (before ++ file)) (add_assoc (length before) i j) ∙ get_or-append-add before file (i + j) 0

  read16_after : (i : ℕ) → read16 (before ++ file) (length before + i) ≡ read16 file i
  read16_after i = ap₂ joined16 (get_or-append-add before file i 0) (at_after i 1)

  then_after : (i j : ℕ) → read16 (before ++ file) (length before + i + j) ≡ read16 file (i + j)
  then_after i j = ap (read16 (before ++ file)) (add_assoc (length before) i j) ∙ read16_after (i + j)

  arc_after : (i : ℕ) → arc_at (before ++ file) (length before + i) ≡ arc_at file i
  arc_after i = cc (get_or-append-add before file i 0, at_after i 1, then_after i 2)

  load_after : (i : ℕ) → load_at (before ++ file) (length before + i) ≡ load_at file i
  load_after i = cc (arc_after i, then_after i 4)

  number_after : (i : ℕ) → read_signed (before ++ file) (length before + i) ≡ read_signed file i
  number_after i = ap signed_of (ap₂ joined32 (read16_after i) (then_after i 2))

-- ---- a record that fits is written whole

-- ---- 16 bits, written and read

pub both_bytes : (v : ℕ) → v < 65536 → Every Byte (byte16 v)
both_bytes v h = (omega arith, (omega arith, tt))

-- ---- the three

pub arcs_coded : Coding arc_bytes arc_at 4 ArcFits
arcs_coded =
    record {
      size = λ a. refl;
      bytes = λ a w. (w.tail, (w.head, both_bytes a.weight w.weight));
      local = arc_after;
      back = λ a w rest. ap (arc_of a.tail a.head) (whole 256 a.weight);
      exact = arc_exact;
    }

pub loads_coded : Coding load_bytes load_at 6 LoadFits
loads_coded =
    record {
      size = λ l. refl;
      bytes = λ l w. every_append Byte (arc_bytes l.arc) (byte16 l.amount) (arcs_coded.bytes l.arc w.arc) (both_bytes l.amount w.amount);
      local = load_after;
      back = λ l w rest. ap₂ (load_of l.arc.tail l.arc.head) (whole 256 l.arc.weight) (whole 256 l.amount);
      exact = load_exact;
    }

pattern_small : (z : ℤ) → Signed32 z → pattern_of z < 4294967296
unfolding pattern_of
pattern_small (pos n) h = omega arith
pattern_small (negsuc n) h = omega arith

pub numbers_coded : Coding byte32 read_signed 4 Signed32
numbers_coded =
    record {
      size = λ z. refl;
      bytes = λ z w.
          let k = pattern_small z w in
          every_append Byte (byte16 (pattern_of z / 65536)) (byte16 (pattern_of z % 65536)) (both_bytes (pattern_of z / 65536) (omega arith)) (both_bytes (pattern_of z % 65536) (omega arith));
      local = number_after;
      back = λ z w rest. ap signed_of (rejoined (pattern_of z)) ∙ signed_pattern z w;
      exact = number_exact;
    }
  where
    rejoined : (k : ℕ) → joined32 (joined16 (k / 65536 / 256) (k / 65536 % 256)) (joined16 (k % 65536 / 256) (k % 65536 % 256)) ≡ k
    rejoined k = ap₂ joined32 (whole 256 (k / 65536)) (whole 256 (k % 65536)) ∙ whole 65536 k
