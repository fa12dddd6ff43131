-- The lists of an index of no arcs, written from their front.
use mathlib.Core.Path.{◌≡◌, refl, sym, ◌∙◌, subst}
use mathlib.Core.List.{List, [], ◌∷◌, ◌++◌}
use Prim.Native.Nat.{ℕ, zero, suc, ◌+◌, ◌≤◌, ◌<◌}
use native.Mathlib.Decide.{ℕ_discrete}
use native.Mathlib.Omega.{arith}
use lib.ListN.{length, set, get_or-append}
use lib.Seq.{get_or-append_seam}
use Rattle.prelude.specs.Lists.{list_to}
use Rattle.prelude.proofs.Filling.{Filling, fill_start, fill_turn}
use Rattle.prelude.proofs.Lists.{list_to_length}
use Rattle.packed_arcs.specs.Entries.{entry}
use Rattle.packed_arcs.proofs.ListLoops.{filled_as}

-- ---- no arcs

-- ---- each vertex at its own place

-- l is as long as l₀, and each index below e stands at itself
abbrev pub Numbering : List ℕ → List ℕ → ℕ → Type 0
Numbering l₀ l e = Filling (λ i x. x ≡ i) 0 l₀ l e

pub number_start : (l₀ : List ℕ) → Numbering l₀ l₀ 0
number_start l₀ = fill_start (λ i x. x ≡ i) 0 l₀

pub number_turn : (l₀ l : List ℕ) (e : ℕ) → e < length l₀ → Numbering l₀ l e → Numbering l₀ (set l e e) (e + 1)
number_turn l₀ l e h F = fill_turn (λ i x. x ≡ i) 0 l₀ l e e h refl F

pub listed_at : (n i : ℕ) → i < n → entry (list_to n (λ v. v)) i ≡ i
unfolding list_to
listed_at zero i h = absurd (omega arith)
listed_at (suc n) i h = go (ℕ_discrete i n) (listed_at n i)
  where
    front : List ℕ
    front = list_to n (λ v. v)

    len : length front ≡ n
    len = list_to_length n (λ v. v)

    go : Dec (i ≡ n) → (i < n → entry front i ≡ i) → entry (front ++ (n ∷ [])) i ≡ i
    go (yes q) old = subst (λ (j : ℕ). entry (front ++ (n ∷ [])) j ≡ i) (len ∙ sym q) (get_or-append_seam front n [] 0 ∙ sym q)
    go (no q) old = get_or-append front (n ∷ []) 0 i (omega (arith, len)) ∙ old (omega arith)

pub number_end : (l₀ l : List ℕ) (e : ℕ) → length l₀ ≤ e → Numbering l₀ l e → l ≡ list_to (length l₀) (λ v. v)
number_end l₀ l e h F =
    let n = length l₀ in
    filled_as (λ i. i) 0 l₀ l (list_to n (λ v. v)) e h (list_to_length n (λ v. v)) (λ i b. listed_at n i b) F
