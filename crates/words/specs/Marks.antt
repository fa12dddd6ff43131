-- Marks of vertices as bits (PANEL 5): bit v % 64 of word v / 64 is the mark of the vertex v, and there are four words of 64 bits.
use Rattle.std.specs.Prelude.{Bool, List, ℕ, ◌/◌, ◌%◌, ◌^◌, eqb, get_or, set}
use Rattle.std.specs.Int.Bits.{bit_or}

-- Is the vertex v marked?
unfoldable pub is_marked : List ℕ → ℕ → Bool
is_marked words v = eqb (get_or words (v / 64) 0 / 2 ^ (v % 64) % 2) 1

-- The marks with that of v.
unfoldable pub with_mark : List ℕ → ℕ → List ℕ
with_mark words v = set words (v / 64) (bit_or (get_or words (v / 64) 0) (2 ^ (v % 64)))
