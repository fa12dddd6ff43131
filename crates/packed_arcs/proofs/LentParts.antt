-- Parts of arrays that are lent, and lent again: how long they are and what they hold.
use mathlib.Core.Path.{◌≡◌, refl, sym, ◌∙◌, ap, subst}
use mathlib.Core.List.{List, ◌∷◌, ◌++◌}
use Prim.Native.Nat.{ℕ, zero, suc, ◌≤◌}
use native.Mathlib.Omega.{arith}
use lib.ListN.{length, take, drop, length-replicate, length-append}
use lib.Seq.{take-append_seam, length-take-le}
use Rattle.packed_arcs.specs.Entries.{entry, zero_list}

-- ---- zeros, and a part of them

pub zero_at : (n v : ℕ) → entry (zero_list n) v ≡ 0
zero_at zero v = refl
zero_at (suc n) zero = refl
zero_at (suc n) (suc v) = zero_at n v

pub zero_list_length : (n k : ℕ) → n ≤ k → length (take n (zero_list k)) ≡ n
zero_list_length n k h = length-take-le n (zero_list k) (omega (arith, length-replicate {A = ℕ} k 0))

pub zero_list_part : (n k : ℕ) → n ≤ k → take n (zero_list k) ≡ zero_list n
zero_list_part zero k h = refl
zero_list_part (suc n) zero h = absurd (omega arith)
zero_list_part (suc n) (suc k) h = ap (λ (l : List ℕ). 0 ∷ l) (zero_list_part n k (omega arith))

-- ---- a part that came back as long as it was lent

pub lent_again : {A : Type 0} (n : ℕ) (d e : List A) → length e ≡ n → take n (e ++ drop n d) ≡ e
lent_again n d e h = subst (λ (k : ℕ). take k (e ++ drop n d) ≡ e) h (take-append_seam e (drop n d))

-- it is within the whole, and as long when it is lent again
pub back_within : (n : ℕ) (d e : List ℕ) → length e ≡ n → n ≤ length (e ++ drop n d)
back_within n d e h = omega (arith, length-append e (drop n d))

pub back_length : (n : ℕ) (d e : List ℕ) → length e ≡ n → n ≡ length (take n (e ++ drop n d))
back_length n d e h = sym (ap length (lent_again n d e h) ∙ h)
