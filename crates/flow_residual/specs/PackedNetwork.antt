-- The residual network of packed arcs, and the facts of a push and of phases over it.
use Rattle.std.specs.Prelude.{List, ℕ}
use Rattle.packed_arcs.specs.PackedArcs.{tails_of, heads_of, costs_of, capacities_of}
use Rattle.flow_residual.specs.Residual.{ResidualNetwork, residual}
use Rattle.flow_residual.specs.Push.{PushReady, Moved}
use Rattle.flow_residual.specs.Phase.{PhaseState, Solved}

-- The residual network of packed arcs with the amounts x and the potentials pi.
abbrev pub residual_of : List ℕ → List ℕ → List ℕ → ResidualNetwork
residual_of arcs x pi = residual (tails_of arcs) (heads_of arcs) (costs_of arcs) (capacities_of arcs) x pi

-- What a push takes for granted, of packed arcs.
abbrev pub PackedPushReady : (arcs par key x left : List ℕ) → Type 0
PackedPushReady arcs par key x left = PushReady (tails_of arcs) (heads_of arcs) (capacities_of arcs) par key x left

-- An amount moved along the parent arcs of packed arcs.
abbrev pub PackedMoved : (arcs par key x left x' left' : List ℕ) (v want g : ℕ) → Type 0
PackedMoved arcs par key x left x' left' v want g = Moved (tails_of arcs) (heads_of arcs) (capacities_of arcs) par key x left x' left' v want g

-- The state between phases, of packed arcs.
abbrev pub PackedPhaseState : (arcs x pi left need : List ℕ) → Type 0
PackedPhaseState arcs x pi left need = PhaseState (tails_of arcs) (heads_of arcs) (costs_of arcs) (capacities_of arcs) x pi left need

-- A whole run over packed arcs.
abbrev pub PackedSolved : (arcs x pi left need x' pi' left' need' key' par' : List ℕ) → Type 0
PackedSolved arcs x pi left need x' pi' left' need' key' par' =
    Solved (tails_of arcs) (heads_of arcs) (costs_of arcs) (capacities_of arcs) x pi left need x' pi' left' need' key' par'
