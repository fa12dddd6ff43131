-- The parts of a file that are written: records one after the other from the front of a part. Records that are gathered.
use mathlib.Core.Path.{◌≡◌, refl, sym, ◌∙◌, ap}
use mathlib.Core.List.{List, [], ◌∷◌, ◌++◌, flat_map, append-nil}
use Prim.Native.Nat.{ℕ, zero, suc, ◌+◌, ◌*◌, ◌≤◌, ◌<◌}
use native.Mathlib.Nat.{zero-add}
use native.Mathlib.Numerals.{add-one}
use native.Mathlib.Omega.{arith}
use lib.IntN.{ℤ, pos}
use lib.ListN.{length, get_or, take, length-map, get_or-map}
use lib.Seq.{sets, length-sets, take-length}
use Rattle.prelude.specs.Lists.{at, list_to}
use Rattle.prelude.proofs.Lists.{list_to_length, list_to_take}
use Rattle.arc_records.specs.Arcs.{Arc, word_arc, word_arcs}
use Rattle.network.specs.Network.{Load, word_load, loads_of}
use Rattle.file_fields.specs.Bytes.{byte32, read_signed}
use Rattle.file_fields.proofs.Writing.{then_sets}
use Rattle.format.specs.Files.{load_bytes, load_at}
use Rattle.format.specs.Promises.{Signed32, LoadFits}
use Rattle.format.proofs.Records.{Coding, flat_append, flat_length}
use Rattle.format.proofs.Codings.{numbers_coded, loads_coded}

-- ---- records one after the other, k bytes each

pub kept : (l₀ : List ℕ) (i : ℕ) (vs : List ℕ) {l : List ℕ} → l ≡ sets l₀ i vs → length l ≡ length l₀
kept l₀ i vs e = ap length e ∙ length-sets l₀ i vs

module _ {A : Type 0} (write : A → List ℕ) (read : List ℕ → ℕ → A) (k : ℕ) (W : A → Type 0) (code : Coding write read k W) (l₀ : List ℕ) (item : ℕ → A) (n : ℕ) where
  -- of n records numbered from 0 on, those below e are written
  pub record Writing (l : List ℕ) (e : ℕ) : Type 0 where
    pub within : e ≤ n
    pub are : l ≡ sets l₀ 0 (flat_map write (list_to e item))

  pub write_none : Writing l₀ 0
  unfolding flat_map list_to
  write_none = record { within = omega arith; are = refl }

  pub write_turn : (l m : List ℕ) (e : ℕ) → e < n → m ≡ sets l (k * e) (write (item e)) → Writing l e → Writing m (e + 1)
  unfolding flat_map list_to
  write_turn l m e h q N = record {
    within = omega arith;
    are = then_sets l₀ 0 (flat_map write (list_to e item)) (write (item e)) (k * e) N.are
        (sym (zero-add (length (flat_map write (list_to e item))) ∙ flat_length write read k W code (list_to e item) ∙ ap (λ (j : ℕ). k * j) (list_to_length e item))) q
        ∙ sym (ap (sets l₀ 0) (flat_append write (list_to e item) (item e ∷ []) ∙ ap (λ (b : List ℕ). flat_map write (list_to e item) ++ b) (append-nil (write (item e)))))
        ∙ ap (λ (j : ℕ). sets l₀ 0 (flat_map write (list_to j item))) (sym (add-one e));
  }

  pub write_length : (l : List ℕ) (e : ℕ) → Writing l e → length l ≡ length l₀
  write_length l e N = kept l₀ 0 (flat_map write (list_to e item)) N.are

  pub write_end : (l : List ℕ) (e : ℕ) (xs : List A) → n ≤ e → list_to n item ≡ xs → Writing l e → l ≡ sets l₀ 0 (flat_map write xs)
  write_end l e xs h same N =
      let j : e ≡ n = omega (arith, N.within) in
      N.are ∙ ap (λ (ys : List A). sets l₀ 0 (flat_map write ys)) (ap (λ (i : ℕ). list_to i item) j ∙ same)

-- all the entries of a list, listed
listed : {A : Type 0} (d : A) (xs : List A) (g : ℕ → A) (n : ℕ) → length xs ≡ n → ((e : ℕ) → e < n → g e ≡ get_or xs e d) → list_to n g ≡ xs
listed d xs g n len by =
    list_to_take d xs g (λ e h. by e (omega arith)) n (omega arith) ∙ ap (λ (k : ℕ). take k xs) (sym len) ∙ take-length xs

-- ---- the node numbers

abbrev pub Numbering : List ℕ → List ℤ → List ℕ → ℕ → Type 0
Numbering l₀ ys = Writing byte32 read_signed 4 Signed32 numbers_coded l₀ (at ys) (length ys)

pub numbers_listed : (ys : List ℤ) → list_to (length ys) (at ys) ≡ ys
numbers_listed ys = listed (pos 0) ys (at ys) (length ys) refl (λ e h. refl)

-- ---- the records with their amounts

abbrev pub load_among : List ℕ → List ℕ → ℕ → Load
load_among rs xs e = word_load (get_or rs e 0) (get_or xs e 0)

abbrev pub Loading : List ℕ → List ℕ → List ℕ → List ℕ → ℕ → Type 0
Loading l₀ rs xs = Writing load_bytes load_at 6 LoadFits loads_coded l₀ (load_among rs xs) (length xs)

load_at_lem : (rs xs : List ℕ) (e : ℕ) → e < length rs → load_among rs xs e ≡ get_or (loads_of (word_arcs rs) xs) e (word_load 0 0)
unfolding loads_of
load_at_lem [] xs e h = absurd (omega arith)
load_at_lem (r ∷ rs) [] zero h = refl
load_at_lem (r ∷ rs) [] (suc e) h = load_at_lem rs [] e (omega arith)
load_at_lem (r ∷ rs) (x ∷ xs) zero h = refl
load_at_lem (r ∷ rs) (x ∷ xs) (suc e) h = load_at_lem rs xs e (omega arith)

pub loads_length : (es : List Arc) (xs : List ℕ) → length (loads_of es xs) ≡ length es
unfolding loads_of
loads_length [] xs = refl
loads_length (e ∷ es) [] = ap suc (loads_length es [])
loads_length (e ∷ es) (x ∷ xs) = ap suc (loads_length es xs)

pub loads_listed : (rs xs : List ℕ) → length rs ≡ length xs → list_to (length xs) (load_among rs xs) ≡ loads_of (word_arcs rs) xs
loads_listed rs xs same =
    listed (word_load 0 0) (loads_of (word_arcs rs) xs) (load_among rs xs) (length xs) (loads_length (word_arcs rs) xs ∙ length-map rs word_arc ∙ same)
    (λ e h. load_at_lem rs xs e (omega arith))

pub numbers_length : (ys : List ℤ) → 4 * length ys ≡ length (flat_map byte32 ys)
numbers_length ys = sym (flat_length byte32 read_signed 4 Signed32 numbers_coded ys)

-- ---- records that are gathered

pub gathered : (g : ℕ → Arc) (rs : List ℕ) (n : ℕ) → length rs ≡ n → ((i : ℕ) → i < n → word_arc (get_or rs i 0) ≡ g i) → word_arcs rs ≡ list_to n g
gathered g rs n len by =
    sym (listed (word_arc 0) (word_arcs rs) g n (length-map rs word_arc ∙ len) (λ e h. sym (by e h) ∙ sym (get_or-map word_arc rs e 0)))
