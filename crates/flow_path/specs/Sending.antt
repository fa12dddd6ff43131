-- What comes of sending along one path.
use Rattle.std.specs.Prelude.{◌≡◌, true, false, List, ℕ, ◌<◌, ◌≤◌, length, Option, None, Some, Result, Ok, Err}
use Rattle.packed_arcs.specs.Entries.{entry, zero_list}
use Rattle.packed_arcs.specs.Limits.{sendable}
use Rattle.flow_residual.specs.Residual.{unreached}
use Rattle.flow_residual.specs.Phase.{SearchResult}
use Rattle.flow_residual.specs.PackedNetwork.{residual_of, PackedMoved, PackedPhaseState}
use Rattle.packed_arcs.specs.declared.OutOfLimits.{OutOfLimits}

-- A search from the vertices with supply left, and a push of at most want to t where t was reached.
pub data SearchAndPush (arcs x pi left x' left' key' : List ℕ) (t want : ℕ) : Option ℕ → Type 0 where
  away :
      (par' : List ℕ) → SearchResult (residual_of arcs x pi) left key' par' → unreached ≤ entry key' t → x' ≡ x → left' ≡ left
      → SearchAndPush arcs x pi left x' left' key' t want None
  reached :
      (par' : List ℕ) → SearchResult (residual_of arcs x pi) left key' par' → entry key' t < unreached
      → (g : ℕ) → PackedMoved arcs par' key' x left x' left' t want g → SearchAndPush arcs x pi left x' left' key' t want (Some g)

-- A call of `send`: refused, with nothing changed; or answered, from amounts and potentials of 0, in a state that the search takes for granted.
pub data SendOutcome (arcs : List ℕ) (t want : ℕ) (x left key x' left' key' : List ℕ) : Result (Option ℕ) OutOfLimits → Type 0 where
  refused :
      {e : OutOfLimits} → sendable arcs t (length x) (length left) (length key) ≡ false → x' ≡ x → left' ≡ left → key' ≡ key
      → SendOutcome arcs t want x left key x' left' key' (Err e)
  answered :
      {r : Option ℕ} → sendable arcs t (length x) (length left) (length key) ≡ true
      → PackedPhaseState arcs (zero_list (length arcs)) (zero_list (length left)) left (zero_list (length left))
      → SearchAndPush arcs (zero_list (length arcs)) (zero_list (length left)) left x' left' key' t want r
      → SendOutcome arcs t want x left key x' left' key' (Ok r)
