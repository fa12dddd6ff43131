-- A run of stores: past the end it changes nothing, and one run after another is one run. The indices that the code adds up.
use mathlib.Core.Path.{◌≡◌, refl, sym, ap, ap₂, ◌∙◌}
use mathlib.Core.List.{List, [], ◌∷◌, ◌++◌}
use Prim.Native.Nat.{ℕ, suc, ◌+◌, ◌≤◌}
use native.Mathlib.Nat.{add-zero}
use native.Mathlib.Omega.{arith}
use lib.ListN.{length, set}
use lib.Seq.{set_out, sets}

pub sets_past : (l : List ℕ) (i : ℕ) (vs : List ℕ) → length l ≤ i → l ≡ sets l i vs
sets_past l i [] h = refl
sets_past l i (v ∷ vs) h = rw (set_out l i v h) (sets_past l (suc i) vs (omega arith))

sets_append : (l : List ℕ) (i : ℕ) (us vs : List ℕ) → sets l i (us ++ vs) ≡ sets (sets l i us) (i + length us) vs
sets_append l i [] vs = rw (add-zero i)
sets_append l i (u ∷ us) vs =
    let e : suc i + length us ≡ i + suc (length us) = omega arith in
    sets_append (set l i u) (suc i) us vs ∙ ap (λ (j : ℕ). sets (sets (set l i u) (suc i) us) j vs) e

-- vs stored at j, right after us
pub then_sets : (l : List ℕ) (i : ℕ) (us vs : List ℕ) (j : ℕ) {m n : List ℕ} → m ≡ sets l i us → j ≡ i + length us → n ≡ sets m j vs → n ≡ sets l i (us ++ vs)
then_sets l i us vs j p e q = q ∙ ap₂ (λ (k : List ℕ) (h : ℕ). sets k h vs) p e ∙ sym (sets_append l i us vs)

pub two_more : (i : ℕ) → i + 2 ≡ suc (suc i)
two_more i = omega arith

pub four_more : (i : ℕ) → i + 4 ≡ suc (suc (suc (suc i)))
four_more i = omega arith
