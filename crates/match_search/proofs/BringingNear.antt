-- The loop that brings vertices nearer, between two turns.
use mathlib.Core.Path.{◌≡◌, ◌∙◌, ap}
use mathlib.Core.List.{List}
use mathlib.Core.Logic.{⊎_elim}
use Prim.Native.Nat.{ℕ, ◌+◌, ◌<◌, ◌≤◌, min}
use native.Mathlib.Omega.{arith}
use native.Mathlib.Decide.{ℕ_discrete}
use lib.Dec.{ltb}
use lib.ListN.{length, set, length-set}
use Rattle.prelude.specs.Choice.{pick}
use Rattle.packed_arcs.specs.Entries.{entry}
use Rattle.packed_arcs.proofs.ListLoops.{set_cases}
use Rattle.arc_index.specs.ArcIndex.{no_arc}

-- how far a vertex is once it was brought nearer
abbrev pub near : ℕ → List ℕ → List ℕ → ℕ → ℕ
near k mate dist a = pick (ltb (entry mate a) no_arc) (min (entry dist a) k) (entry dist a)

-- the vertices below a were brought nearer, the others not yet
pub record Bringing (k : ℕ) (mate dist₀ dist : List ℕ) (a : ℕ) : Type 0 where
  pub len : length dist ≡ length dist₀
  pub below : (i : ℕ) → i < a → entry dist i ≡ near k mate dist₀ i
  pub rest : (i : ℕ) → a ≤ i → entry dist i ≡ entry dist₀ i

-- one vertex more
pub turn : {k : ℕ} {mate dist₀ dist : List ℕ} {a : ℕ} → Bringing k mate dist₀ dist a → a < length dist₀ → (x : ℕ) → x ≡ near k mate dist₀ a → Bringing k mate dist₀ (set dist a x) (a + 1)
turn {k} {mate} {dist₀} {dist} {a} D l x q = record {
  len = length-set dist a x ∙ D.len;
  below = λ i b. ⊎_elim (λ p. p.1 ∙ q ∙ ap (near k mate dist₀) (omega (arith, p.0))) (λ p. p.1 ∙ D.below i (other i b (p.0))) (set_cases dist a x i (omega (arith, D.len)));
  rest = λ i b. ⊎_elim (λ p. absurd (omega (arith, p.0))) (λ p. p.1 ∙ D.rest i (omega arith)) (set_cases dist a x i (omega (arith, D.len)));
}
  where
    other : (i : ℕ) → i < a + 1 → (i ≡ a → ⊥) → i < a
    other i b z = go (ℕ_discrete i a)
      where
        go : Dec (i ≡ a) → i < a
        go (yes e) = absurd (z e)
        go (no e) = omega arith
