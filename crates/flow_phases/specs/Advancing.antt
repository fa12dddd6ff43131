-- One phase over packed arcs.
use Rattle.std.specs.Prelude.{List, ℕ}
use Rattle.packed_arcs.specs.PackedArcs.{tails_of, heads_of, costs_of, capacities_of}
use Rattle.flow_residual.specs.Phase.{Advanced}

-- One phase that reached a vertex with need.
abbrev pub PackedAdvanced : (arcs x pi left need x' pi' left' need' : List ℕ) → Type 0
PackedAdvanced arcs x pi left need x' pi' left' need' =
    Advanced (tails_of arcs) (heads_of arcs) (costs_of arcs) (capacities_of arcs) x pi left need x' pi' left' need'
