-- The arc of a code, as a push reads it: by its number, its word and its amount.
use mathlib.Core.Path.{◌≡◌, sym, ap, subst, ◌∙◌}
use mathlib.Core.Bool.{Bool, true, false}
use mathlib.Core.List.{List}
use Prim.Native.Nat.{ℕ, ◌+◌, ◌-◌, ◌<◌, ◌≤◌, min}
use lib.Dec.{ltb}
use lib.ListN.{set}
use borrow.Author.Tests.{lt-ltb, le-ltb}
use Rattle.prelude.specs.Choice.{pick}
use Rattle.packed_arcs.specs.Entries.{entry}
use Rattle.packed_arcs.specs.PackedArcs.{tail_of, head_of, capacity_of, tails_of, heads_of, capacities_of}
use Rattle.packed_arcs.proofs.ArcColumns.{tail_at, head_at, capacity_at}
use Rattle.flow_residual.specs.Push.{code_arc, residual_capacity}
use Rattle.flow_residual.proofs.PushedAmounts.{code_start, shifted}

module _ (arcs : List ℕ) (code : ℕ) {e : ℕ} (number : e ≡ code_arc code) where
  pub start_by : {u : ℕ} → u ≡ pick (ltb code 4096) (tail_of (entry arcs e)) (head_of (entry arcs e)) → u ≡ code_start (tails_of arcs) (heads_of arcs) code
  start_by h = h ∙ go (ltb code 4096) number
    where
      go : (b : Bool) → e ≡ pick b code (code - 4096) → pick b (tail_of (entry arcs e)) (head_of (entry arcs e)) ≡ pick b (entry (tails_of arcs) code) (entry (heads_of arcs) (code - 4096))
      go true p = ap (λ (j : ℕ). tail_of (entry arcs j)) p ∙ sym (tail_at arcs code)
      go false p = ap (λ (j : ℕ). head_of (entry arcs j)) p ∙ sym (head_at arcs (code - 4096))

  module _ (x : List ℕ) where
    pub room_by : (want : ℕ) {r : ℕ} → r ≡ min want (pick (ltb code 4096) (capacity_of (entry arcs e) - entry x e) (entry x e)) → r ≡ min want (residual_capacity (capacities_of arcs) x code)
    room_by want h = h ∙ ap (min want) (go (ltb code 4096) number)
      where
        go : (b : Bool) → e ≡ pick b code (code - 4096)
            → pick b (capacity_of (entry arcs e) - entry x e) (entry x e) ≡ pick b (entry (capacities_of arcs) code - entry x code) (entry x (code - 4096))
        go true p = ap (λ (j : ℕ). capacity_of (entry arcs j) - entry x j) p ∙ sym (ap (λ (c : ℕ). c - entry x code) (capacity_at arcs code))
        go false p = ap (entry x) p

    pub amounts_after : (g : ℕ) {r : ℕ} → r ≡ pick (ltb code 4096) (entry x e + g) (entry x e - g) → set x e r ≡ shifted x code g
    amounts_after g h = ap (set x e) h ∙ go (ltb code 4096) number
      where
        go : (b : Bool) → e ≡ pick b code (code - 4096)
            → set x e (pick b (entry x e + g) (entry x e - g)) ≡ pick b (set x code (entry x code + g)) (set x (code - 4096) (entry x (code - 4096) - g))
        go true p = ap (λ (j : ℕ). set x j (entry x j + g)) p
        go false p = ap (λ (j : ℕ). set x j (entry x j - g)) p

    pub after_fits : (g : ℕ) → (code < 4096 → entry x code + g ≤ 65535) → (4096 ≤ code → g ≤ entry x (code - 4096))
        → (code < 4096 → entry x e + g ≤ 65535) × (4096 ≤ code → g ≤ entry x e)
    after_fits g p q = (
      λ h. subst (λ (j : ℕ). entry x j + g ≤ 65535) (sym (simp (lt-ltb _ _ h) at number)) (p h),
      λ h. subst (λ (j : ℕ). g ≤ entry x j) (sym (simp (le-ltb _ _ h) at number)) (q h),
    )
