-- What comes of a call of `solve`.
use Rattle.std.specs.Prelude.{◌≡◌, Bool, true, false, List, ℕ, ◌+◌, length}
use Rattle.packed_arcs.specs.Entries.{zero_list}
use Rattle.flow_moves.specs.Preflow.{standing_at, preflowable}
use Rattle.flow_residual.specs.PackedNetwork.{PackedSolved}

-- What `solve` answers: what its preflow does, for one key a vertex.
abbrev pub solvable : List ℕ → ℕ → ℕ → ℕ → ℕ → ℕ → Bool
solvable arcs s t supply amounts n = preflowable arcs s t supply amounts n (256 + length arcs) (256 + length arcs)

-- The supply that stood at s moved to t, where as much was wanted, from amounts and potentials of 0, until t was not reached any more.
pub record Finished (arcs : List ℕ) (s t supply n : ℕ) (x' key' : List ℕ) : Type 0 where
  pub pi' : List ℕ
  pub left' : List ℕ
  pub need' : List ℕ
  pub par' : List ℕ
  pub solved : PackedSolved arcs (zero_list (length arcs)) (zero_list n) (standing_at n s supply) (standing_at n t supply) x' pi' left' need' key' par'

-- A call of `solve`: refused, with nothing changed; or finished.
pub data SolveOutcome (arcs : List ℕ) (s t supply : ℕ) (x key x' key' : List ℕ) : Bool → Type 0 where
  refused : solvable arcs s t supply (length x) (length key) ≡ false → x' ≡ x → key' ≡ key → SolveOutcome arcs s t supply x key x' key' false
  solved : solvable arcs s t supply (length x) (length key) ≡ true → Finished arcs s t supply (length key) x' key' → SolveOutcome arcs s t supply x key x' key' true
