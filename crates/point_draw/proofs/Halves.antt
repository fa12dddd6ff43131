-- The words of random bytes in two parts, the first of whole words: those of the first part, then those of the rest.
use mathlib.Core.Path.{◌≡◌, refl, sym, ap, ap₂, ◌∙◌}
use mathlib.Core.List.{List, [], ◌∷◌, ◌++◌, append_assoc, append-nil}
use Prim.Native.Nat.{ℕ, zero, suc, ◌+◌, ◌*◌, ◌/◌, ◌≤◌, ◌<◌}
use native.Mathlib.Nat.{add-zero, add-suc}
use native.Mathlib.Omega.{arith}
use lib.ListN.{length, take, drop, length-take, length-drop}
use lib.Seq.{take_at, drop_at}
use Rattle.std.specs.Prelude.{Option, Some, None}
use Rattle.std.specs.Option.{option_zip}
use Rattle.prelude.specs.Lists.{list_to}
use Rattle.prelude.proofs.Lists.{list_to_length}
use Rattle.file_fields.specs.Bytes.{read32}
use Rattle.file_fields.proofs.Reading.{read32_front, read32_rest}
use Rattle.point_draw.specs.Draw.{word_in, words_in, paired}

-- ---- lists of what is numbered from 0 on

list_to_ext : {A : Type 0} (n : ℕ) (g h : ℕ → A) → ((i : ℕ) → i < n → g i ≡ h i) → list_to n g ≡ list_to n h
unfolding list_to
list_to_ext zero g h e = refl
list_to_ext (suc n) g h e = ap₂ (λ l a. l ++ (a ∷ [])) (list_to_ext n g h (λ i b. e i (omega arith))) (e n (omega arith))

-- 0 to j - 1, then j to j + k - 1
list_to_split : {A : Type 0} (j k : ℕ) (g : ℕ → A) → list_to (j + k) g ≡ list_to j g ++ list_to k (λ i. g (j + i))
unfolding list_to
list_to_split j zero g = rw (add-zero j) (sym (append-nil (list_to j g)))
list_to_split {A} j (suc k) g =
    rw add-suc
    (ap (λ (l : List A). l ++ (g (j + k) ∷ [])) (list_to_split j k g) ∙ append_assoc (list_to j g) (list_to k (λ i. g (j + i))) (g (j + k) ∷ []))

-- ---- the words of both parts, of which the first has j

module _ (random : List ℕ) (j h : ℕ) (part : h ≡ j * 4) (fits : h ≤ length random) where
  count_front : length (take h random) / 4 ≡ j
  count_front = simp length-take (omega arith)

  count_rest : j + length (drop h random) / 4 ≡ length random / 4
  count_rest = simp length-drop (omega arith)

  front : list_to j (word_in random) ≡ words_in (take h random)
  front = sym (ap (λ (n : ℕ). list_to n (word_in (take h random))) count_front ∙ list_to_ext j _ _ (λ i b. read32_front random h (4 * i) (omega arith)))

  rest_word : (i : ℕ) → word_in random (j + i) ≡ word_in (drop h random) i
  rest_word i = let e : 4 * (j + i) ≡ h + 4 * i = omega arith in ap (read32 random) e ∙ sym (read32_rest random h (4 * i))

  pub joined : words_in random ≡ words_in (take h random) ++ words_in (drop h random)
  joined =
      ap (λ (n : ℕ). list_to n (word_in random)) (sym count_rest)
      ∙ list_to_split j (length (drop h random) / 4) (word_in random)
      ∙ ap₂ ◌++◌ front (list_to_ext (length (drop h random) / 4) _ _ (λ i b. rest_word i))

  size_front : length (words_in (take h random)) ≡ j
  size_front = ap length (sym front) ∙ list_to_length j (word_in random)

  pub front_words : words_in (take h random) ≡ take j (words_in random)
  front_words = sym (ap (take j) joined ∙ take_at (words_in (take h random)) (words_in (drop h random)) j size_front)

  pub rest_words : words_in (drop h random) ≡ drop j (words_in random)
  rest_words = sym (ap (drop j) joined ∙ drop_at (words_in (take h random)) (words_in (drop h random)) j size_front)

-- ---- two points

pub zip_paired : (a b : Option ℕ) → option_zip a b ≡ paired a b
zip_paired None b = refl
zip_paired (Some r) None = refl
zip_paired (Some r) (Some q) = refl
