-- The index of the arcs by head, as it was built.
use mathlib.Core.Path.{◌≡◌, sym, subst}
use mathlib.Core.List.{List}
use Prim.Native.Nat.{ℕ, ◌+◌, ◌≤◌}
use native.Mathlib.Omega.{arith}
use lib.ListN.{length}
use Rattle.arc_index.specs.ArcIndex.{no_arc}
use Rattle.arc_index.specs.Chains.{Chains}
use Rattle.arc_index.specs.Columns.{record_tails, record_heads}
use Rattle.arc_index.specs.declared.End.TheVariants.{Head}
use Rattle.arc_index.proofs.Building.{Built, links_built}
use Rattle.arc_index.proofs.Columns.{tails_len}
use Rattle.arc_index.proofs.Ends.{record_chains}
use Rattle.order_path.specs.Steps.{Arcs, Chained}

pub chained_built : (rs links₀ links : List ℕ) {n : ℕ} → Arcs n (record_tails rs) (record_heads rs) → length links₀ ≡ 256 + length rs → Built rs (record_heads rs) links₀ links → Chained n (record_tails rs) (record_heads rs) links
chained_built rs links₀ links A q b =
    let few : length rs ≤ no_arc = omega (arith, A.few, tails_len rs) in
    record { arcs = A; chains = subst (Chains (record_heads rs)) (sym (links_built rs (record_heads rs) links₀ links few q b)) (record_chains Head rs few) }
