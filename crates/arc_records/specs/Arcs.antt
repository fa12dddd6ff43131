-- Channel records as arcs.
use Rattle.std.specs.Prelude.{List, map, ℕ, ◌/◌, ◌%◌, eqb}
use Rattle.prelude.specs.Choice.{indicator}
use Rattle.arc_records.specs.declared.Record.{Record}

-- A channel record (PANEL 2): an arc from its tail to its head, whose weight is a length, a capacity or a cost.
pub record Arc : Type 0 where
  pub tail : ℕ
  pub head : ℕ
  pub weight : ℕ

-- The arc from a to b with the number w.
abbrev pub arc_of : ℕ → ℕ → ℕ → Arc
arc_of a b w = record { tail = a; head = b; weight = w }

-- The arc of a record as the code holds it.
abbrev pub arc_held : Record → Arc
arc_held r = arc_of r.tail r.head r.weight

-- The arc of the four bytes of a record read as one number: tail × 16777216 + head × 65536 + weight.
abbrev pub word_arc : ℕ → Arc
word_arc k = arc_of (k / 16777216 % 256) (k / 65536 % 256) (k % 65536)

-- The arcs of a list of such numbers, in order.
abbrev pub word_arcs : List ℕ → List Arc
word_arcs ks = map word_arc ks

-- 1 where u and v are the same vertex, else 0.
unfoldable pub delta : ℕ → ℕ → ℕ
delta u v = indicator (eqb u v)
