-- The ones of the four words under the mask of a range are as many as the marked vertices of the range.
use mathlib.Core.Path.{◌≡◌, sym, ◌∙◌, ap}
use mathlib.Core.List.{List}
use Prim.Native.Nat.{ℕ, ◌+◌, ◌-◌, ◌*◌, ◌/◌, ◌%◌, ◌^◌, ◌≤◌, ◌<◌, min}
use native.Mathlib.Decide.{dec_le}
use native.Mathlib.Omega.{arith}
use lib.Pow.{pow_pos}
use lib.Bits.{bit_and}
use lib.Count.{ones}
use lib.ListN.{length, get_or}
use Rattle.prelude.specs.Choice.{indicator}
use Rattle.words.specs.Marks.{is_marked}
use Rattle.words.specs.Masks.{bits_below, mask_below, mask}
use Rattle.prelude.specs.Sums.{sum_to, count}
use Rattle.prelude.proofs.Sums.{sum_to_ext, sum_to_none, sum_to_split}
use Rattle.words.proofs.Bits.{ones_range}
use Rattle.words.proofs.MarkLaws.{marked_past, mark_bit}

-- the mask's bits: from the first that is not below low to the last below high
mask_range : (low high k : ℕ) → mask low high k ≡ 2 ^ bits_below high k - 2 ^ bits_below low k
unfolding mask mask_below
mask_range low high k = omega (arith, pow_pos (bits_below high k), pow_pos (bits_below low k))

-- x is the first vertex of a word: what the range has below the next word is what it has below x, and the mask's bits
size : (low high x : ℕ) → min high (x + 64) - low ≡ min high x - low + (min (high - x) 64 - min (low - x) 64)
size low high x = by (dec_le high x)
  where
    more : (b : ℕ) → b ≤ 64 → x + b - low ≡ x - low + (b - min (low - x) 64)
    more b h = omega arith

    less : high - low ≡ high - low + (0 - min (low - x) 64)
    less = omega arith

    by : Dec (high ≤ x) → min high (x + 64) - low ≡ min high x - low + (min (high - x) 64 - min (low - x) 64)
    by (yes h) =
        let e : min high x ≡ high = omega arith in
        let f : min high (x + 64) ≡ high = omega arith in
        let g : min (high - x) 64 ≡ 0 = omega arith in
        rw (e, f, g) less
    by (no h) =
        let e : min high x ≡ x = omega arith in
        let f : min high (x + 64) ≡ x + min (high - x) 64 = omega arith in
        rw (e, f) (more (min (high - x) 64) (omega arith))

-- the vertex of the mask's bit i
place : (low high x i : ℕ) → i < min (high - x) 64 - min (low - x) 64 → low + (min high x - low + i) ≡ x + (min (low - x) 64 + i)
place low high x i h =
    let e : min high x ≡ x = omega arith in
    let f : min (low - x) 64 ≡ low - x = omega arith in
    rw (e, f) moved
  where
    moved : low + (x - low + i) ≡ x + (low - x + i)
    moved = omega arith

-- what the range has past 256 is past the four words
past : (low high i : ℕ) → i < high - low - (min high 256 - low) → 4 ≤ (low + (min high 256 - low + i)) / 64
past low high i h =
    let e : min high 256 ≡ 256 = omega arith in
    rw e (omega arith)

module _ (words : List ℕ) (low high : ℕ) where
  -- how many vertices of the range that are below e are marked
  unfoldable up_to : ℕ → ℕ
  up_to e = count (λ i. is_marked words (low + i)) (min high e - low)

  -- word k has those from k * 64 to k * 64 + 63
  own : (k : ℕ) → count (λ i. is_marked words (low + (min high (k * 64) - low + i))) (bits_below high k - bits_below low k)
      ≡ ones (bit_and (get_or words k 0) (mask low high k))
  own k =
      let a = bits_below low k in
      let b = bits_below high k in
      let first = min high (k * 64) - low in
      sum_to_ext (b - a) (λ i. indicator (is_marked words (low + (first + i)))) (λ i. get_or words k 0 / 2 ^ (a + i) % 2)
      (λ i h. sym (mark_bit words (low + (first + i)) k (a + i) (place low high (k * 64) i h) (omega arith)))
      ∙ sym (ones_range (get_or words k 0) a b)
      ∙ ap (λ (m : ℕ). ones (bit_and (get_or words k 0) m)) (sym (mask_range low high k))

  word : (k : ℕ) → up_to (k * 64 + 64) ≡ up_to (k * 64) + ones (bit_and (get_or words k 0) (mask low high k))
  unfolding up_to
  word k =
      ap (count (λ i. is_marked words (low + i))) (size low high (k * 64))
      ∙ sum_to_split (min high (k * 64) - low) (bits_below high k - bits_below low k) (λ i. indicator (is_marked words (low + i)))
      ∙ ap (λ (s : ℕ). up_to (k * 64) + s) (own k)

  none : up_to 0 ≡ 0
  unfolding up_to sum_to
  none = let e : min high 0 - low ≡ 0 = omega arith in rw e

  -- past the words no vertex is marked
  whole : length words ≡ 4 → count (λ i. is_marked words (low + i)) (high - low) ≡ up_to 256
  unfolding up_to
  whole l =
      let n = min high 256 - low in
      let m = high - low - n in
      let e : high - low ≡ n + m = omega arith in
      let rest = sum_to_none m (λ i. indicator (is_marked words (low + (n + i)))) (λ i h. ap indicator (marked_past words (low + (n + i)) (rw l (past low high i h)))) in
      ap (count (λ i. is_marked words (low + i))) e ∙ sum_to_split n m (λ i. indicator (is_marked words (low + i))) ∙ omega (arith, rest)

  pub counted : length words ≡ 4
      → ones (bit_and (get_or words 0 0) (mask low high 0)) + ones (bit_and (get_or words 1 0) (mask low high 1))
      + ones (bit_and (get_or words 2 0) (mask low high 2)) + ones (bit_and (get_or words 3 0) (mask low high 3))
      ≡ count (λ i. is_marked words (low + i)) (high - low)
  counted l = omega (arith, none, word 0, word 1, word 2, word 3, whole l)
