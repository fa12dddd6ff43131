-- The limits of what a flow search takes, as tests.
use Rattle.std.specs.Prelude.{Bool, ◌&&◌, List, ℕ, eqb, ltb, leb, length}
use Rattle.prelude.specs.Lists.{all}
use Rattle.packed_arcs.specs.PackedArcs.{tail_of, head_of, cost_of}

-- The packed arc joins vertices below n, and costs at most 32767.
abbrev pub arc_fits : ℕ → ℕ → Bool
arc_fits n arc = ltb (tail_of arc) n && ltb (head_of arc) n && leb (cost_of arc) 32767

-- At most 255 vertices and 4096 arcs, one amount for each arc, and arcs that fit.
abbrev pub arcs_fit : List ℕ → ℕ → ℕ → Bool
arcs_fit arcs amounts n = leb n 255 && leb (length arcs) 4096 && eqb amounts (length arcs) && all (arc_fits n) arcs

-- The packed arc costs nothing.
abbrev pub is_free : ℕ → Bool
is_free arc = eqb (cost_of arc) 0

-- What `send` answers: arcs that fit, a key for each of n vertices, and a vertex t to send to.
abbrev pub sendable : List ℕ → ℕ → ℕ → ℕ → ℕ → Bool
sendable arcs t amounts n keys = ltb t n && eqb keys n && arcs_fit arcs amounts n
