-- What a walk along links asks of them.
use Rattle.std.specs.Prelude.{◌≡◌, List, ℕ, ◌+◌, ◌<◌, ◌≤◌, length}
use Rattle.packed_arcs.specs.Entries.{entry}

-- A place for each vertex and each arc, and from an arc on to a later one or none.
pub record Links (arcs links : List ℕ) : Type 0 where
  pub few : length arcs ≤ 4096
  pub len : length links ≡ 256 + length arcs
  pub later : (e : ℕ) → e < length arcs → e < entry links (256 + e)
