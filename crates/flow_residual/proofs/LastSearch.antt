-- What a state and a search made in it say of every vertex and every arc.
use mathlib.Core.Path.{◌≡◌}
use mathlib.Core.List.{List, [], ◌∷◌}
use Prim.Native.Nat.{ℕ, zero, suc, ◌+◌, ◌/◌, ◌%◌, ◌<◌, ◌≤◌}
use native.Mathlib.Omega.{arith}
use lib.ListN.{length}
use Rattle.packed_arcs.specs.Entries.{entry}
use Rattle.flow_residual.specs.Residual.{unreached, residual}
use Rattle.flow_residual.specs.Phase.{SearchResult, PhaseState}
use Rattle.flow_residual.proofs.PotentialBounds.{few_hops, in_range, closed_forward, closed_backward}
use Rattle.flow_residual.proofs.PhaseLaws.{sized_key, small_key, roots_zero}

-- an entry above 0 is in the list
pub in_list : (l : List ℕ) (v : ℕ) → 0 < entry l v → v < length l
in_list [] v h = absurd (omega arith)
in_list (a ∷ l) zero h = omega arith
in_list (a ∷ l) (suc v) h = omega (arith, in_list l v h)

module _ {from to cost cap x pi left need key par : List ℕ} (S : PhaseState from to cost cap x pi left need)
    (F : SearchResult (residual from to cost cap x pi) left key par) where
  -- a reached vertex has fewer than 255 arcs on its way, and its distance is in range
  pub few_arcs : (v : ℕ) → v < length key → entry key v < unreached → entry key v % 256 ≤ 254
  few_arcs = few_hops (residual from to cost cap x pi) key par (sized_key S F) S.nonnegative F.tree F.relaxed (small_key S F) (roots_zero S F)

  pub near_enough : (v : ℕ) → v < length key → entry key v < unreached → entry pi v + entry key v / 256 ≤ 8322818
  near_enough = in_range (residual from to cost cap x pi) key par (sized_key S F) S.nonnegative F.tree F.relaxed (small_key S F) (roots_zero S F)

  -- an arc with room leads on from a reached vertex, one with an amount back
  pub leads_on : (e : ℕ) → e < length from → entry x e < entry cap e → entry key (entry from e) < unreached → entry key (entry to e) < unreached
  leads_on = closed_forward (residual from to cost cap x pi) key par (sized_key S F) S.nonnegative F.tree F.relaxed (small_key S F) (roots_zero S F)

  pub leads_back : (e : ℕ) → e < length from → 0 < entry x e → entry key (entry to e) < unreached → entry key (entry from e) < unreached
  leads_back = closed_backward (residual from to cost cap x pi) key par (sized_key S F) S.nonnegative F.tree F.relaxed (small_key S F) (roots_zero S F)

  -- what is left somewhere was searched from
  pub from_left : (v : ℕ) → 0 < entry left v → entry key v ≡ 0
  from_left v h = F.sources v (omega (arith, F.key_len, in_list left v h)) h
