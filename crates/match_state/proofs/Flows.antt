-- Sums of amounts: at a vertex with one arc that carries 1 or with none, over all vertices and over all arcs.
use mathlib.Core.Path.{◌≡◌, refl, sym, ap, ◌∙◌}
use mathlib.Core.List.{List, [], ◌∷◌, ◌++◌}
use mathlib.Core.Logic.{◌≢◌}
use Prim.Native.Nat.{ℕ, zero, suc, ◌+◌, ◌*◌, ◌<◌}
use native.Mathlib.Decide.{ℕ_discrete}
use native.Mathlib.Omega.{arith}
use lib.Dec.{eqb}
use lib.ListN.{length, get_or-append}
use lib.Seq.{get_or_at}
use borrow.Author.Tests.{eq-eqb, ne_eqb}
use Rattle.prelude.specs.Choice.{indicator}
use Rattle.prelude.specs.Lists.{list_to}
use Rattle.prelude.specs.Sums.{sum_to}
use Rattle.prelude.proofs.Lists.{list_to_length}
use Rattle.prelude.proofs.Sums.{sum_to_ext, sum_to_add, sum_to_none}
use Rattle.packed_arcs.specs.Entries.{entry, flow_at}

-- ---- at a vertex

-- no arc at w carries anything
pub flow_none : (l x : List ℕ) (w : ℕ) → ((e : ℕ) → e < length l → entry l e ≡ w → entry x e ≡ 0) → flow_at l x w ≡ 0
unfolding flow_at
flow_none [] x w f = refl
flow_none (a ∷ l) [] w f = refl
flow_none (a ∷ l) (y ∷ x) w f = go (flow_none l x w (λ e h q. f (suc e) (omega arith) q)) (ℕ_discrete a w)
  where
    go : flow_at l x w ≡ 0 → Dec (a ≡ w) → indicator (eqb a w) * y + flow_at l x w ≡ 0
    go rest (yes q) = rw (eq-eqb a w q) (omega (arith, f 0 (omega arith) q))
    go rest (no q) = rw (ne_eqb a w q) (omega arith)

-- one arc at w carries 1, and the others nothing
pub flow_one : (l x : List ℕ) (w e₀ : ℕ) → length x ≡ length l → e₀ < length l → entry l e₀ ≡ w → entry x e₀ ≡ 1
    → ((e : ℕ) → e < length l → entry l e ≡ w → e ≢ e₀ → entry x e ≡ 0) → flow_at l x w ≡ 1
unfolding flow_at
flow_one [] x w e₀ n h q k f = absurd (omega arith)
flow_one (a ∷ l) [] w e₀ n h q k f = absurd (omega arith)
flow_one (a ∷ l) (y ∷ x) w zero n h q k f = rw (eq-eqb a w q) (omega (arith, k, flow_none l x w (λ e b c. f (suc e) (omega arith) c (λ z. absurd (omega arith)))))
flow_one (a ∷ l) (y ∷ x) w (suc e₀) n h q k f = go (flow_one l x w e₀ (omega arith) (omega arith) q k (λ e b c z. f (suc e) (omega arith) c (λ s. z (omega arith)))) (ℕ_discrete a w)
  where
    go : flow_at l x w ≡ 1 → Dec (a ≡ w) → indicator (eqb a w) * y + flow_at l x w ≡ 1
    go rest (yes p) = rw (eq-eqb a w p) (omega (arith, f 0 (omega arith) p (λ z. absurd (omega arith))))
    go rest (no p) = rw (ne_eqb a w p) (omega arith)

-- ---- numbers listed by a function

pub listed_at : (n : ℕ) (g : ℕ → ℕ) (i : ℕ) → i < n → entry (list_to n g) i ≡ g i
unfolding list_to
listed_at zero g i h = absurd (omega arith)
listed_at (suc n) g i h = go (λ b. listed_at n g i b) (ℕ_discrete i n)
  where
    go : (i < n → entry (list_to n g) i ≡ g i) → Dec (i ≡ n) → entry (list_to n g ++ (g n ∷ [])) i ≡ g i
    go rest (yes q) = get_or_at (list_to n g) (g n) [] 0 i (list_to_length n g ∙ sym q) ∙ ap g (sym q)
    go rest (no q) = get_or-append (list_to n g) (g n ∷ []) 0 i (omega (arith, list_to_length n g)) ∙ rest (omega arith)

-- ---- over arcs

-- The sum over the arcs of what each carries times the value at its vertex.
unfoldable pub weighted : List ℕ → List ℕ → (ℕ → ℕ) → ℕ
weighted [] x g = 0
weighted (a ∷ l) [] g = 0
weighted (a ∷ l) (y ∷ x) g = g a * y + weighted l x g

-- the value at a, counted once
sum_at : (n a y : ℕ) (g : ℕ → ℕ) → a < n → sum_to n (λ v. g v * (indicator (eqb a v) * y)) ≡ g a * y
unfolding sum_to
sum_at zero a y g h = absurd (omega arith)
sum_at (suc n) a y g h = go (λ b. sum_at n a y g b) (ℕ_discrete a n)
  where
    go : (a < n → sum_to n (λ v. g v * (indicator (eqb a v) * y)) ≡ g a * y) → Dec (a ≡ n) → sum_to n (λ v. g v * (indicator (eqb a v) * y)) + g n * (indicator (eqb a n) * y) ≡ g a * y
    go rest (yes q) = rw (eq-eqb a n q) (omega (arith, sum_to_none n (λ v. g v * (indicator (eqb a v) * y)) (λ v b. rw (ne_eqb a v (λ z. absurd (omega arith))) (omega arith)), ap (λ (i : ℕ). g i * y) q))
    go rest (no q) = rw (ne_eqb a n q) (omega (arith, rest (omega arith)))

-- vertex by vertex, or arc by arc
pub sum_weighted : (n : ℕ) (l x : List ℕ) (g : ℕ → ℕ) → ((e : ℕ) → e < length l → entry l e < n) → sum_to n (λ v. g v * flow_at l x v) ≡ weighted l x g
unfolding flow_at weighted
sum_weighted n [] x g f = sum_to_none n (λ v. g v * 0) (λ v h. omega arith)
sum_weighted n (a ∷ l) [] g f = sum_to_none n (λ v. g v * 0) (λ v h. omega arith)
sum_weighted n (a ∷ l) (y ∷ x) g f =
    let one : ℕ → ℕ = λ v. g v * (indicator (eqb a v) * y) in
    let more : ℕ → ℕ = λ v. g v * flow_at l x v in
    let split = sum_to_ext n (λ v. g v * (indicator (eqb a v) * y + flow_at l x v)) (λ v. one v + more v) (λ v h. omega arith) ∙ sum_to_add n one more in
    omega (arith, split, sum_at n a y g (f 0 (omega arith)), sum_weighted n l x g (λ e h. f (suc e) (omega arith)))

-- two columns whose values agree on every arc that carries something
pub weighted_same : (l k x : List ℕ) (g : ℕ → ℕ) → length k ≡ length l → ((e : ℕ) → e < length l → g (entry l e) * entry x e ≡ g (entry k e) * entry x e)
    → weighted l x g ≡ weighted k x g
unfolding weighted
weighted_same [] [] x g n f = refl
weighted_same [] (b ∷ k) x g n f = absurd (omega arith)
weighted_same (a ∷ l) [] x g n f = absurd (omega arith)
weighted_same (a ∷ l) (b ∷ k) [] g n f = refl
weighted_same (a ∷ l) (b ∷ k) (y ∷ x) g n f = omega (arith, f 0 (omega arith), weighted_same l k x g (omega arith) (λ e h. f (suc e) (omega arith)))
