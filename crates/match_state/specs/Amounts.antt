-- The amounts that a matching gives the arcs.
use Rattle.std.specs.Prelude.{◌≡◌, List, ℕ, ◌<◌, eqb, length}
use Rattle.prelude.specs.Choice.{indicator}
use Rattle.packed_arcs.specs.Entries.{entry}

-- The amount 1 on an arc that is noted as matched at its head, 0 on any other.
abbrev pub matched_amount : List ℕ → List ℕ → ℕ → ℕ
matched_amount H mate e = indicator (eqb (entry mate (entry H e)) e)

-- The amounts x are those of the matched arcs.
pub record Amounts (H mate x : List ℕ) : Type 0 where
  pub len : length x ≡ length H
  pub by : (e : ℕ) → e < length H → entry x e ≡ matched_amount H mate e
