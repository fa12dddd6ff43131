-- The limits (PANEL 3), each once.
use Rattle.std.specs.Prelude.{ℕ}

-- The most vertices (PANEL 6, check 2).
abbrev pub most_vertices : ℕ
most_vertices = 255

-- The most arcs that are read (PANEL 6, check 6).
abbrev pub most_arcs : ℕ
most_arcs = 4096

-- The greatest weight (PANEL 6, check 8).
abbrev pub most_weight : ℕ
most_weight = 32767

-- The largest size of a potential (PANEL 5, check 10): the length of a walk over 254 arcs of the greatest weight.
abbrev pub most_potential : ℕ
most_potential = 8322818
