-- One unit at a vertex, and none at the others.
use mathlib.Core.Path.{◌≡◌, ◌∙◌, ap, sym}
use mathlib.Core.Logic.{⊎_elim}
use mathlib.Core.List.{List}
use Prim.Native.Nat.{ℕ, ◌<◌, ◌≤◌}
use native.Mathlib.Omega.{arith}
use lib.ListN.{length, set, length-set, length-replicate}
use Rattle.network.proofs.Sums.{delta_same, delta_other}
use Rattle.packed_arcs.specs.Entries.{entry, zero_list}
use Rattle.packed_arcs.proofs.LentParts.{zero_at}
use Rattle.packed_arcs.proofs.ListLoops.{set_cases}
use Rattle.cert_instances.specs.Instance.{VertexList, single}

module _ (n k j : ℕ) (l : List ℕ) (z : l ≡ zero_list n) (q : j ≡ k) where
  size : length l ≡ n
  size = ap length z ∙ length-replicate n 0

  none : (v : ℕ) → entry l v ≡ 0
  none v = ap (λ (l : List ℕ). entry l v) z ∙ zero_at n v

  pub stands : j < length l → VertexList n (single k 1) (set l j 1)
  stands h =
      record {
        len = length-set l j 1 ∙ size;
        entries = λ v b. ⊎_elim
            (λ p. omega (arith, p.1, delta_same k v (omega (arith, p.0))))
            (λ p. omega (arith, p.1, none v, delta_other k v (λ e. p.0 (omega arith))))
            (set_cases l j 1 v h);
      }

  pub stands_nowhere : length l ≤ j → VertexList n (single k 1) l
  stands_nowhere h =
      record {
        len = size;
        entries = λ v b. omega (arith, none v, delta_other k v (λ e. absurd (omega (arith, size))));
      }
