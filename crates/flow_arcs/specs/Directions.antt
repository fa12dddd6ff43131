-- The ends of a residual arc, and how much it has room for: an arc forward, from its tail to its head, or back.
use Rattle.std.specs.Prelude.{List, ℕ, ◌+◌, ◌-◌}
use Rattle.packed_arcs.specs.PackedArcs.{tail_of, head_of, capacity_of}
use Rattle.flow_arcs.specs.declared.direction.Direction.{Direction}
use Rattle.flow_arcs.specs.declared.direction.Direction.TheVariants.{Forward, Back}

-- The other way.
abbrev pub reverse : Direction → Direction
reverse Forward = Back
reverse Back = Forward

-- The vertex that the residual arc leads from.
abbrev pub start_of : Direction → ℕ → ℕ
start_of Forward arc = tail_of arc
start_of Back arc = head_of arc

-- The vertex that it leads to.
abbrev pub end_of : Direction → ℕ → ℕ
end_of Forward arc = head_of arc
end_of Back arc = tail_of arc

-- How much still fits, where the arc carries x.
abbrev pub room : Direction → ℕ → ℕ → ℕ
room Forward arc x = capacity_of arc - x
room Back arc x = x

-- What the arc carries after g more moved along the residual arc.
abbrev pub carried : Direction → ℕ → ℕ → ℕ
carried Forward x g = x + g
carried Back x g = x - g

-- The links that chain the arcs by where they start in this direction: by tail, or by head.
abbrev pub links_by : Direction → List ℕ → List ℕ → List ℕ
links_by Forward out into = out
links_by Back out into = into
