-- What comes of a call: refused, with nothing changed; or moved, with what moved conserved.
use Rattle.std.specs.Prelude.{◌≡◌, Bool, true, false, List, ℕ, length}
use Rattle.packed_arcs.specs.PackedArcs.{tails_of, heads_of}
use Rattle.arc_index.specs.Chains.{Chains}
use Rattle.flow_moves.specs.Preflow.{PackedConserved, standing_at, preflowable}

-- A call of `preflow`: refused, with nothing changed; or moved: the index of the arcs by tail and by head, and amounts that conserve the supply.
pub data PreflowOutcome (arcs : List ℕ) (s t supply : ℕ) (x left out into x' left' out' into' : List ℕ) : Bool → Type 0 where
  refused :
      preflowable arcs s t supply (length x) (length left) (length out) (length into) ≡ false
      → x' ≡ x → left' ≡ left → out' ≡ out → into' ≡ into → PreflowOutcome arcs s t supply x left out into x' left' out' into' false
  moved :
      preflowable arcs s t supply (length x) (length left) (length out) (length into) ≡ true
      → Chains (tails_of arcs) out' → Chains (heads_of arcs) into' → PackedConserved arcs (standing_at (length left) s supply) x' left'
      → PreflowOutcome arcs s t supply x left out into x' left' out' into' true
