-- The words of random bytes, one after the other: the first that gives a point decides.
use mathlib.Core.Path.{◌≡◌, refl, sym, ap, ap₂, ◌∙◌}
use mathlib.Core.Bool.{Bool, true, false}
use mathlib.Core.List.{List, [], ◌∷◌, ◌++◌}
use Prim.Native.Nat.{ℕ, ◌/◌, ◌<◌}
use native.Mathlib.Omega.{arith}
use lib.Dec.{ltb}
use lib.ListN.{length, length-append}
use lib.Seq.{take_at, drop_at}
use Rattle.std.specs.Prelude.{Option, Some, None}
use Rattle.prelude.specs.Lists.{list_to}
use Rattle.prelude.proofs.Choice.{on, off}
use Rattle.field.specs.Field.{p}
use Rattle.file_fields.specs.Bytes.{read32}
use Rattle.point_draw.specs.Draw.{low31, first_point, words_in, word_in, drawn}
use Rattle.point_draw.proofs.Halves.{joined}

-- fewer than four bytes hold no word
pub no_word : (random : List ℕ) → length random < 4 → None ≡ drawn random
unfolding list_to
no_word random few =
    let e : length random / 4 ≡ 0 = omega arith in
    ap (λ (n : ℕ). first_point (list_to n (word_in random))) (sym e)

-- four bytes and what is behind them: their word, and the words behind them
module _ (word later : List ℕ) (four : length word ≡ 4) where
  one : words_in word ≡ read32 word 0 ∷ []
  unfolding list_to
  one =
      let e : length word / 4 ≡ 1 = omega (arith, four) in
      ap (λ (n : ℕ). list_to n (word_in word)) e

  words : words_in (word ++ later) ≡ read32 word 0 ∷ words_in later
  words =
      joined (word ++ later) 1 4 refl (omega (arith, four, length-append word later))
      ∙ ap₂ (λ (a b : List ℕ). words_in a ++ words_in b) (take_at word later 4 four) (drop_at word later 4 four)
      ∙ ap (λ (l : List ℕ). l ++ words_in later) one

  -- k, the low bits of the word w, which is that of the four bytes, and t says whether it is a point
  module _ (random : List ℕ) (w k : ℕ) (t : Bool) (left : drawn random ≡ drawn (word ++ later)) (read : w ≡ read32 word 0) (low : k ≡ low31 w) (tested : t ≡ ltb k p) where
    next : k ≡ low31 (read32 word 0)
    next = low ∙ ap low31 read

    test : t ≡ ltb (low31 (read32 word 0)) p
    test = tested ∙ ap (λ (j : ℕ). ltb j p) next

    pub found : t ≡ true → Some k ≡ drawn random
    found is_point =
        on (Option ℕ) (Some k) _ _ (ltb (low31 (read32 word 0)) p) (sym test ∙ is_point) (ap Some next)
        ∙ sym (left ∙ ap first_point words)

    pub missed : t ≡ false → drawn random ≡ drawn later
    missed no_point_lem =
        left ∙ ap first_point words
        ∙ sym (off (Option ℕ) (drawn later) _ _ (ltb (low31 (read32 word 0)) p) (sym test ∙ no_point_lem) refl)
