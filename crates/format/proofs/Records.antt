-- Records of one size, one after the other: a list of them that is written is read back, and what is read is written back.
use mathlib.Core.Path.{◌≡◌, refl, sym, ◌∙◌, ap, ap₂}
use mathlib.Core.List.{List, [], ◌∷◌, ◌++◌, flat_map, append_assoc, append-nil}
use Prim.Native.Nat.{ℕ, zero, suc, ◌+◌, ◌*◌, ◌<◌}
use native.Mathlib.Nat.{mul-zero}
use native.Mathlib.Omega.{arith}
use lib.ListN.{length, get_or, length-append}
use lib.Seq.{take-length}
use Rattle.prelude.specs.Lists.{Every, list_to}
use Rattle.prelude.proofs.Lists.{every_append, list_to_take}
use Rattle.format.specs.Promises.{Byte}
use Rattle.format.proofs.Windows.{window, window_append}

-- ---- lists of bytes

module _ {A : Type 0} (write : A → List ℕ) where
  pub flat_append : (xs ys : List A) → flat_map write (xs ++ ys) ≡ flat_map write xs ++ flat_map write ys
  unfolding flat_map
  flat_append [] ys = refl
  flat_append (x ∷ xs) ys = ap (λ (l : List ℕ). write x ++ l) (flat_append xs ys) ∙ sym (append_assoc (write x) (flat_map write xs) (flat_map write ys))

-- ---- a record as k bytes; W says what fits into them

pub record Coding {A : Type 0} (write : A → List ℕ) (read : List ℕ → ℕ → A) (k : ℕ) (W : A → Type 0) : Type 0 where
  pub size : (a : A) → length (write a) ≡ k
  pub bytes : (a : A) → W a → Every Byte (write a)
  -- reading looks at no byte before the index
  pub local : (before file : List ℕ) (i : ℕ) → read (before ++ file) (length before + i) ≡ read file i
  pub back : (a : A) → W a → (rest : List ℕ) → read (write a ++ rest) 0 ≡ a
  pub exact : (file : List ℕ) → Every Byte file → (i : ℕ) → write (read file i) ≡ window file i k

module _ {A : Type 0} (write : A → List ℕ) (read : List ℕ → ℕ → A) (k : ℕ) (W : A → Type 0) (code : Coding write read k W) where
  pub flat_length : (xs : List A) → length (flat_map write xs) ≡ k * length xs
  unfolding flat_map
  flat_length [] = sym (mul-zero k)
  flat_length (x ∷ xs) = length-append (write x) (flat_map write xs) ∙ omega (arith, code.size x, flat_length xs)

  pub flat_bytes : (xs : List A) → Every W xs → Every Byte (flat_map write xs)
  unfolding flat_map
  flat_bytes [] w = tt
  flat_bytes (x ∷ xs) w = every_append Byte (write x) (flat_map write xs) (code.bytes x w.0) (flat_bytes xs w.1)

  -- record number e of those written
  at_record : (xs : List A) → Every W xs → (rest : List ℕ) (e : ℕ) → e < length xs → read (flat_map write xs ++ rest) (k * e) ≡ get_or xs e (read [] 0)
  unfolding flat_map
  at_record [] w rest e h = absurd (omega arith)
  at_record (x ∷ xs) w rest zero h =
      ap₂ read (append_assoc (write x) (flat_map write xs) rest) (mul-zero k) ∙ code.back x w.0 (flat_map write xs ++ rest)
  at_record (x ∷ xs) w rest (suc e) h =
      let i : k * suc e ≡ length (write x) + k * e = omega (arith, code.size x) in
      ap₂ read (append_assoc (write x) (flat_map write xs) rest) i
      ∙ code.local (write x) (flat_map write xs ++ rest) (k * e)
      ∙ at_record xs w.1 rest e (omega arith)

  -- in file order, after the bytes before
  pub read_back : (before rest : List ℕ) (xs : List A) → Every W xs → list_to (length xs) (λ e. read (before ++ (flat_map write xs ++ rest)) (length before + k * e)) ≡ xs
  read_back before rest xs w =
      list_to_take (read [] 0) xs (λ e. read (before ++ (flat_map write xs ++ rest)) (length before + k * e))
      (λ e h. code.local before (flat_map write xs ++ rest) (k * e) ∙ at_record xs w rest e h) (length xs) (omega arith)
      ∙ take-length xs

  pub written_back : (file : List ℕ) → Every Byte file → (base n : ℕ) → flat_map write (list_to n (λ e. read file (base + k * e))) ≡ window file base (k * n)
  unfolding flat_map list_to window
  written_back file b base zero = rw (mul-zero k)
  written_back file b base (suc n) =
      let i : k * n + k ≡ k * suc n = omega arith in
      flat_append write (list_to n (λ e. read file (base + k * e))) (read file (base + k * n) ∷ [])
      ∙ ap₂ ◌++◌ (written_back file b base n) (append-nil (write (read file (base + k * n))) ∙ code.exact file b (base + k * n))
      ∙ sym (window_append file base (k * n) k)
      ∙ ap (window file base) i
