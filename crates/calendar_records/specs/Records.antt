-- What the functions of the calendar answer one another: what is left of a record, and records that were written.
use Rattle.std.specs.Prelude.{◌≡◌, ℕ, ◌+◌, ◌*◌, length, Option, Some, None}
use mathlib.Core.List.{List, [], ◌∷◌, flat_map}
use Rattle.std.proofs.lemmas.List.Edits.{sets}
use Rattle.arc_records.specs.Arcs.{Arc, arc_held}
use Rattle.format.specs.Files.{arc_bytes}
use Rattle.arc_records.specs.declared.Record.{Record}

-- What the code says is left of an arc.
abbrev pub left_held : Option Record → List Arc
left_held (Some e) = arc_held e ∷ []
left_held None = []

-- These arcs are written into a part behind its first k records, r is how many there are then, and all other bytes are as they were.
pub record RecordsIn (arcs : List Arc) (k : ℕ) (before : List ℕ) (r : ℕ) (after : List ℕ) : Type 0 where
  pub count : r ≡ k + length arcs
  pub bytes : after ≡ sets before (4 * k) (flat_map arc_bytes arcs)
