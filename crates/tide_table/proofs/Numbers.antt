-- Decimal numbers, digit by digit.
use mathlib.Core.Path.{◌≡◌, refl, sym, ap, ◌∙◌}
use mathlib.Core.Bool.{Bool, true, false, ◌&&◌}
use mathlib.Core.List.{List, [], ◌∷◌}
use Prim.Native.Nat.{ℕ, ◌+◌, ◌-◌, ◌*◌, ◌≤◌, ◌<◌}
use native.Mathlib.Omega.{arith}
use lib.Dec.{leb, leb→le}
use lib.ListN.{length, get_or, drop, drop_of_length-le}
use borrow.Author.Tests.{lt-ltb, le-ltb, le-leb, lt-leb}
use lib.Seq.{drop-cons}
use native.Mathlib.Numerals.{add-one}
use Rattle.prelude.specs.Lists.{all}
use Rattle.prelude.proofs.Booleans.{and_left, and_right, true→T}
use Rattle.tide_table.specs.Text.{is_digit, value_after, value, most_number, is_number}
use Rattle.std.specs.Prelude.{Some}
use Rattle.tide_table.specs.Reading.{NumberRead}

-- more digits make no number smaller
pub grows : (n : ℕ) (word : List ℕ) → n ≤ value_after n word
unfolding value_after
grows n [] = omega arith
grows n (c ∷ word) = let h : 10 * n + (c - 48) ≤ value_after (10 * n + (c - 48)) word = grows (10 * n + (c - 48)) word in omega arith

pub digit_least : (c : ℕ) → is_digit c ≡ true → 48 ≤ c
digit_least c e = leb→le 48 c (and_left (leb 48 c) (leb c 57) (true→T (is_digit c) e))

pub digit_most : (c : ℕ) → is_digit c ≡ true → c ≤ 57
digit_most c e = leb→le c 57 (and_right (leb 48 c) (leb c 57) (true→T (is_digit c) e))

-- are these the further digits of a number that is not too great?
unfoldable pub goes_on : ℕ → List ℕ → Bool
goes_on n word = all is_digit word && leb (value_after n word) most_number

pub goes_on_lem : (n c : ℕ) (word : List ℕ) → is_digit c ≡ true → goes_on n (c ∷ word) ≡ goes_on (10 * n + (c - 48)) word
unfolding goes_on value_after
goes_on_lem n c word e = rw e

pub no_digit : (n c : ℕ) (word : List ℕ) → is_digit c ≡ false → goes_on n (c ∷ word) ≡ false
unfolding goes_on
no_digit n c word e = rw e

pub too_great : (n : ℕ) (word : List ℕ) → most_number < n → goes_on n word ≡ false
unfolding goes_on
too_great n word h = go (all is_digit word)
  where
    go : (t : Bool) → (t && leb (value_after n word) most_number) ≡ false
    go true = lt-leb (value_after n word) most_number (omega (arith, grows n word))
    go false = refl

pub all_digits : (n : ℕ) → n ≤ most_number → goes_on n [] ≡ true
unfolding goes_on value_after
all_digits n h = le-leb n most_number h

-- a word that is not empty
pub number_from : (word : List ℕ) → 0 < length word → is_number word ≡ goes_on 0 word
unfolding is_number goes_on
number_from word h = rw (lt-ltb 0 (length word) h)

pub no_number : (word : List ℕ) → length word ≡ 0 → is_number word ≡ false
unfolding is_number
no_number word h = rw (le-ltb 0 (length word) (omega arith))

-- ---- what is answered

end_value : (n : ℕ) → value_after n [] ≡ n
unfolding value_after
end_value n = refl

next_value : (n c : ℕ) (word : List ℕ) → value_after n (c ∷ word) ≡ value_after (10 * n + (c - 48)) word
unfolding value_after
next_value n c word = refl

-- ---- what the loop over the digits keeps

-- the word is a number if the digits from i on go on with n, and then it is what they make of n
pub record Read (word : List ℕ) (n i : ℕ) : Type 0 where
  pub small : n ≤ most_number
  pub within : i ≤ length word
  pub number_is : is_number word ≡ goes_on n (drop i word)
  pub its_value : value word ≡ value_after n (drop i word)

module _ (word : List ℕ) where
  pub read_start : ¬ (length word ≡ 0) → Read word 0 0
  read_start h = record { small = omega arith; within = omega arith; number_is = number_from word (omega arith); its_value = refl }

  module _ (n i : ℕ) (R : Read word n i) where
    pub read_end : length word ≤ i → NumberRead word (Some n)
    read_end h = (
      R.number_is ∙ ap (goes_on n) (drop_of_length-le word h) ∙ all_digits n R.small,
      sym (R.its_value ∙ ap (value_after n) (drop_of_length-le word h) ∙ end_value n),
    )

    module _ (c : ℕ) (h : i < length word) (e : c ≡ get_or word i 0) where
      next : drop i word ≡ c ∷ drop (i + 1) word
      next = drop-cons word i 0 h ∙ rw (e, add-one i)

      pub read_no_digit : is_digit c ≡ false → is_number word ≡ false
      read_no_digit d = R.number_is ∙ ap (goes_on n) next ∙ no_digit n c (drop (i + 1) word) d

      is_next : is_digit c ≡ true → is_number word ≡ goes_on (10 * n + (c - 48)) (drop (i + 1) word)
      is_next d = R.number_is ∙ ap (goes_on n) next ∙ goes_on_lem n c (drop (i + 1) word) d

      pub read_too_great : is_digit c ≡ true → most_number < 10 * n + (c - 48) → is_number word ≡ false
      read_too_great d g = is_next d ∙ too_great (10 * n + (c - 48)) (drop (i + 1) word) g

      pub read_turn : is_digit c ≡ true → (m : ℕ) → m ≡ 10 * n + (c - 48) → m ≤ most_number → Read word m (i + 1)
      read_turn d m is g =
          record {
            small = g;
            within = omega arith;
            number_is = rw is (is_next d);
            its_value = rw is (R.its_value ∙ ap (value_after n) next ∙ next_value n c (drop (i + 1) word));
          }
