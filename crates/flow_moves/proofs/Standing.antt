-- A supply at one vertex, and nothing elsewhere.
use mathlib.Core.Path.{◌≡◌, refl, ◌∙◌}
use mathlib.Core.Logic.{◌≢◌, ⊎_elim}
use Prim.Native.Nat.{ℕ, ◌<◌}
use native.Mathlib.Omega.{arith}
use lib.ListN.{length, length-set, length-replicate}
use Rattle.packed_arcs.specs.Entries.{entry, zero_list, sum}
use Rattle.packed_arcs.proofs.LentParts.{zero_at}
use Rattle.packed_arcs.proofs.ListLoops.{set_cases}
use Rattle.packed_arcs.proofs.Sums.{sum_none, sum_at}
use Rattle.flow_moves.specs.Preflow.{standing_at}

pub standing_len : (n s supply : ℕ) → length (standing_at n s supply) ≡ n
standing_len n s supply = length-set (zero_list n) s supply ∙ length-replicate n 0

module _ (n k supply : ℕ) (inside : k < n) where
  in_zeros : k < length (zero_list n)
  in_zeros = omega (arith, length-replicate {A = ℕ} n 0)

  pub standing_sum : sum (standing_at n k supply) ≡ supply
  standing_sum = omega (arith, sum_at (zero_list n) k supply in_zeros, sum_none n, zero_at n k)

  pub standing_here : entry (standing_at n k supply) k ≡ supply
  standing_here = ⊎_elim (λ p. p.1) (λ p. absurd (p.0 refl)) (set_cases (zero_list n) k supply k in_zeros)

  pub standing_other : (w : ℕ) → w ≢ k → entry (standing_at n k supply) w ≡ 0
  standing_other w q = ⊎_elim (λ p. absurd (q p.0)) (λ p. p.1 ∙ zero_at n w) (set_cases (zero_list n) k supply w in_zeros)
