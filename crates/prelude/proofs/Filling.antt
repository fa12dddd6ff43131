-- A list that is written from its front: what a loop over its indices keeps.
use mathlib.Core.Path.{◌≡◌, refl, sym, ◌∙◌, subst}
use mathlib.Core.List.{List}
use Prim.Native.Nat.{ℕ, ◌+◌, ◌≤◌, ◌<◌}
use native.Mathlib.Decide.{ℕ_discrete}
use native.Mathlib.Omega.{arith}
use lib.ListN.{length, get_or, set, length-set}
use lib.Seq.{get_or-set_same, get_or-set_other}

-- l is as long as l₀ and has P at each index below e; d stands past the end
pub record Filling {A : Type 0} (P : ℕ → A → Type 0) (d : A) (l₀ l : List A) (e : ℕ) : Type 0 where
  pub within : e ≤ length l₀
  pub len : length l ≡ length l₀
  pub below : (i : ℕ) → i < e → P i (get_or l i d)

module _ {A : Type 0} (P : ℕ → A → Type 0) (d : A) (l₀ : List A) where
  pub fill_start : Filling P d l₀ l₀ 0
  fill_start = record { within = omega arith; len = refl; below = λ i h. absurd (omega arith) }

  pub fill_turn : (l : List A) (e : ℕ) (x : A) → e < length l₀ → P e x → Filling P d l₀ l e → Filling P d l₀ (set l e x) (e + 1)
  fill_turn l e x h q F = record { within = omega arith; len = length-set l e x ∙ F.len; below = λ i b. go i b (ℕ_discrete i e) }
    where
      go : (i : ℕ) → i < e + 1 → Dec (i ≡ e) → P i (get_or (set l e x) i d)
      go i b (yes p) = subst (λ (j : ℕ). P j (get_or (set l e x) j d)) (sym p) (subst (P e) (sym (get_or-set_same l e x d (omega (arith, F.len)))) q)
      go i b (no n) = subst (P i) (sym (get_or-set_other l e i x d n)) (F.below i (omega arith))

  pub fill_end : (l : List A) (e : ℕ) → length l₀ ≤ e → Filling P d l₀ l e → (i : ℕ) → i < length l₀ → P i (get_or l i d)
  fill_end l e h F i b = F.below i (omega arith)
