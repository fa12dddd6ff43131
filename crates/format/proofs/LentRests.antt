-- A part of a buffer that is lent on: what is written into the rest behind a front is written into the whole.
use mathlib.Core.Path.{◌≡◌, refl, sym, ◌∙◌, ap}
use mathlib.Core.List.{List, [], ◌∷◌, ◌++◌, append-nil}
use Prim.Native.Nat.{ℕ, zero, suc, ◌-◌}
use native.Mathlib.Nat.{zero-add}
use native.Mathlib.Omega.{arith}
use lib.ListN.{length, set, take, drop, length-drop, drop_of_length-le}
use lib.Seq.{sets, take-length}
use borrow.Rule.Slice.PartMut.{mid_of, post_of, put_mid}
use Rattle.file_fields.proofs.Writing.{sets_past, then_sets}

pub sets_shift : {A : Type 0} (x : A) (l : List A) (i : ℕ) (vs : List A) → sets (x ∷ l) (suc i) vs ≡ x ∷ sets l i vs
sets_shift x l i [] = refl
sets_shift x l i (v ∷ vs) = sets_shift x (set l i v) (suc i) vs

-- what is written into the part from k on is written there into the whole
pub sets_part : (l : List ℕ) (k : ℕ) (vs : List ℕ) → take k l ++ sets (drop k l) 0 vs ≡ sets l k vs
sets_part l zero vs = refl
sets_part [] (suc k) vs = sym (sets_past [] 0 vs (omega arith)) ∙ sets_past [] (suc k) vs (omega arith)
sets_part (x ∷ l) (suc k) vs = ap (λ (r : List ℕ). x ∷ r) (sets_part l k vs) ∙ sym (sets_shift x l k vs)

-- the rest of a list from a on, lent, and back with vs in it
pub put_rest : (a : ℕ) (l vs : List ℕ) {ys : List ℕ} → ys ≡ sets (mid_of a (length l - a) l) 0 vs → put_mid a (length l - a) l ys ≡ sets l a vs
put_rest a l vs {ys} e =
    let all : mid_of a (length l - a) l ≡ drop a l = ap (λ (k : ℕ). take k (drop a l)) (sym (length-drop a l)) ∙ take-length (drop a l) in
    let none : post_of a (length l - a) l ≡ [] = drop_of_length-le (drop a l) {i = length l - a} (omega (arith, length-drop a l)) in
    ap (λ (r : List ℕ). take a l ++ (ys ++ r)) none
    ∙ ap (λ (r : List ℕ). take a l ++ r) (append-nil ys ∙ e ∙ ap (λ (r : List ℕ). sets r 0 vs) all)
    ∙ sets_part l a vs

-- vs written from the front, then ws into the rest that is lent
pub front_and_rest : (l vs ws : List ℕ) (a : ℕ) {m ys : List ℕ} → m ≡ sets l 0 vs → a ≡ length vs → ys ≡ sets (mid_of a (length m - a) m) 0 ws
    → put_mid a (length m - a) m ys ≡ sets l 0 (vs ++ ws)
front_and_rest l vs ws a {m} e n q = then_sets l 0 vs ws a e (n ∙ sym (zero-add (length vs))) (put_rest a m ws q)
