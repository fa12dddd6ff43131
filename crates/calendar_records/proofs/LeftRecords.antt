-- Records that are written one behind the other: of one arc, and of those that are left of a file's arcs.
use mathlib.Core.Path.{◌≡◌, refl, sym, ◌∙◌, ap, subst}
use mathlib.Core.Bool.{Bool, true, false}
use mathlib.Core.List.{List, [], ◌∷◌, ◌++◌, map, flat_map}
use Prim.Native.Nat.{ℕ, ◌+◌, ◌*◌, ◌/◌, ◌%◌, ◌≤◌, ◌<◌}
use native.Mathlib.Nat.{mod-eq_of_lt}
use native.Mathlib.Numerals.{add-one}
use native.Mathlib.Omega.{arith}
use lib.ListN.{length, length-append}
use lib.Seq.{sets, length-sets}
use Rattle.prelude.specs.Lists.{list_to}
use Rattle.prelude.proofs.Lists.{list_to_length}
use Rattle.arc_records.specs.Arcs.{Arc, arc_of, arc_held, word_arc}
use Rattle.network.specs.Question.{Question, shortest_path, maximum_flow, assignment, acyclicity, unasked}
use Rattle.arc_records.specs.declared.Record.{Record}
use Rattle.file_fields.proofs.Writing.{then_sets}
use Rattle.format.specs.Files.{arc_bytes, low_arc, arc_at}
use Rattle.format.specs.Promises.{ArcFits}
use Rattle.format.proofs.Records.{flat_append, flat_length}
use Rattle.format.proofs.Codings.{arcs_coded}
use Rattle.calendar_records.specs.MinuteNetwork.{emptied, left_for, left_from}
use Rattle.calendar_records.specs.Records.{left_held, RecordsIn}
use Rattle.std.specs.Prelude.{Option, Some, None}
use Rattle.calendar_records.proofs.LeftArcs.{left_length, left_one_more}

-- ---- one arc

module _ (k : ℕ) (before : List ℕ) where
  pub one_written : (e : Record) (after : List ℕ) → after ≡ sets before (4 * k) (arc_bytes (low_arc (arc_held e))) → RecordsIn (map low_arc (left_held (Some e))) k before (k + 1) after
  unfolding flat_map
  one_written e after w = record { count = refl; bytes = w }

  pub none_written : RecordsIn (map low_arc (left_held None)) k before k before
  unfolding flat_map
  none_written = record { count = omega arith; bytes = refl }

-- the numbers of an arc that is read from four bytes fit their fields
low_word : (w : ℕ) → low_arc (word_arc w) ≡ word_arc w
low_word w = λ i. arc_of (fits (w / 16777216 % 256) 256 (omega arith) i) (fits (w / 65536 % 256) 256 (omega arith) i) (fits (w % 65536) 65536 (omega arith) i)
  where
    fits : (a b : ℕ) → a < b → a % b ≡ a
    fits a b h = mod-eq_of_lt h

low_left : (q : Question) (b : Bool) (w : ℕ) → map low_arc (left_for q b (word_arc w)) ≡ left_for q b (word_arc w)
low_left q true w = ap (λ (e : Arc). e ∷ []) (low_word w)
low_left shortest_path false w = refl
low_left maximum_flow false w = ap (λ (e : Arc). emptied e ∷ []) (low_word w)
low_left assignment false w = refl
low_left acyclicity false w = refl
low_left unasked false w = refl

-- what the code wrote of an arc that it read as a number
pub left-written :
    (q : Question) (b : Bool) (w : ℕ) (e : Arc) (held : List Arc) (k r : ℕ) (before after : List ℕ)
    → word_arc w ≡ e → held ≡ left_for q b (word_arc w) → RecordsIn (map low_arc held) k before r after → RecordsIn (left_for q b e) k before r after
left-written q b w e held k r before after is kept written =
    subst (λ (l : List Arc). RecordsIn l k before r after) (ap (map low_arc) kept ∙ low_left q b w ∙ ap (left_for q b) is) written

-- ---- one behind the other

records_then : (xs ys : List Arc) (k r : ℕ) (before l after : List ℕ) → RecordsIn xs 0 before k l → RecordsIn ys k l r after → RecordsIn (xs ++ ys) 0 before r after
records_then xs ys k r before l after p q =
    let size : 4 * k ≡ 0 + length (flat_map arc_bytes xs) = omega (arith, p.count, flat_length arc_bytes arc_at 4 ArcFits arcs_coded xs) in
    record {
      count = omega (arith, p.count, q.count, length-append xs ys);
      bytes = then_sets before 0 (flat_map arc_bytes xs) (flat_map arc_bytes ys) (4 * k) p.bytes size q.bytes ∙ ap (sets before 0) (sym (flat_append arc_bytes xs ys));
    }

module _ (q : Question) (opened : ℕ → Bool) (g : ℕ → Arc) (m : ℕ) (before : List ℕ) where
  -- of m arcs numbered from 0 on, what is left of those below e is written, k records
  pub record LeftTo (e k : ℕ) (l : List ℕ) : Type 0 where
    pub within : e ≤ m
    pub written : RecordsIn (left_from q opened 0 (list_to e g)) 0 before k l

  pub left_none : LeftTo 0 0 before
  unfolding left_from list_to flat_map
  left_none = record { within = omega arith; written = record { count = refl; bytes = refl } }

module _ {q : Question} {opened : ℕ → Bool} {g : ℕ → Arc} {m : ℕ} {before : List ℕ} {e k : ℕ} {l : List ℕ} (so_far : LeftTo q opened g m before e k l) where
  pub left_within : k ≤ e
  left_within = omega (arith, so_far.written.count, left_length q opened 0 (list_to e g), list_to_length e g)

  pub left_size : length l ≡ length before
  left_size = ap length so_far.written.bytes ∙ length-sets before (4 * 0) (flat_map arc_bytes (left_from q opened 0 (list_to e g)))

  pub left_turn : {r : ℕ} {after : List ℕ} → e < m → RecordsIn (left_for q (opened e) (g e)) k l r after → LeftTo q opened g m before (e + 1) r after
  left_turn {r} {after} h w = record {
    within = omega arith;
    written = subst (λ (arcs : List Arc). RecordsIn arcs 0 before r after) (sym (ap (λ (j : ℕ). left_from q opened 0 (list_to j g)) (add-one e) ∙ left_one_more q opened g e))
        (records_then (left_from q opened 0 (list_to e g)) (left_for q (opened e) (g e)) k r before l after so_far.written w);
  }

  pub left_end : m ≤ e → RecordsIn (left_from q opened 0 (list_to m g)) 0 before k l
  left_end h =
      let j : e ≡ m = omega (arith, so_far.within) in
      subst (λ (i : ℕ). RecordsIn (left_from q opened 0 (list_to i g)) 0 before k l) j so_far.written
