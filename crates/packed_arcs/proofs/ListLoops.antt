-- What loops over a list reach: an entry that was stored, a list that was written from its front, and the test of every entry.
use mathlib.Core.Path.{◌≡◌, sym, ◌∙◌, subst}
use mathlib.Core.Bool.{Bool}
use mathlib.Core.List.{List, [], ◌∷◌}
use mathlib.Core.Logic.{◌⊎◌, inl, inr, ◌≢◌}
use Prim.Native.Nat.{ℕ, zero, suc, ◌≤◌, ◌<◌}
use native.Mathlib.Decide.{ℕ_discrete}
use native.Mathlib.Omega.{arith}
use lib.Dec.{T}
use lib.ListN.{length, get_or, set}
use lib.Seq.{ext_get_or, get_or-set_same, get_or-set_other}
use Rattle.prelude.specs.Lists.{all}
use Rattle.prelude.proofs.Booleans.{and_left, and_right}
use Rattle.prelude.proofs.Filling.{Filling}
use Rattle.packed_arcs.specs.Entries.{entry}

-- ---- an entry that was stored

-- what stands at w after a store at v
pub set_cases : (l : List ℕ) (v k w : ℕ) → v < length l → ((w ≡ v) × (entry (set l v k) w ≡ k)) ⊎ ((w ≢ v) × (entry (set l v k) w ≡ entry l w))
set_cases l v k w h = go (ℕ_discrete w v)
  where
    go : Dec (w ≡ v) → ((w ≡ v) × (entry (set l v k) w ≡ k)) ⊎ ((w ≢ v) × (entry (set l v k) w ≡ entry l w))
    go (yes e) = inl (e, subst (λ (j : ℕ). entry (set l v k) j ≡ k) (sym e) (get_or-set_same l v k 0 h))
    go (no n) = inr (n, get_or-set_other l v w k 0 n)

-- ---- a list that was written from its front

pub filled_as : (g : ℕ → ℕ) (d : ℕ) (l₀ l m : List ℕ) (e : ℕ) → length l₀ ≤ e → length m ≡ length l₀ → ((i : ℕ) → i < length l₀ → get_or m i d ≡ g i)
    → Filling (λ i x. x ≡ g i) d l₀ l e → l ≡ m
filled_as g d l₀ l m e h k by F =
    ext_get_or d l m (F.len ∙ sym k) (λ i b. F.below i (omega (arith, F.len)) ∙ sym (by i (omega (arith, F.len))))

-- ---- the test of every entry

-- where every entry passes, each one does
pub each_entry : (p : ℕ → Bool) (l : List ℕ) → T (all p l) → (e : ℕ) → e < length l → T (p (entry l e))
each_entry p [] t e h = absurd (omega arith)
each_entry p (a ∷ l) t zero h = and_left (p a) (all p l) t
each_entry p (a ∷ l) t (suc e) h = each_entry p l (and_right (p a) (all p l) t) e (omega arith)
