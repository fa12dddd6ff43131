-- A search over the residual network: what holds between two residual arcs that are looked at.
use Rattle.std.specs.Prelude.{◌≡◌, Bool, true, false, List, [], ◌∷◌, ℕ, ◌+◌, ◌*◌, ◌<◌, ◌≤◌, ltb, length, Option, MatchOption}
use denote.Ref.{Bor}
use Rattle.prelude.specs.Choice.{indicator}
use Rattle.packed_arcs.specs.Entries.{entry, sum}
use Rattle.arc_index.specs.Chains.{Chains}
use Rattle.vertex_queue.specs.VertexQueue.{waits_not, Kept}
use Rattle.flow_residual.specs.Residual.{unreached, ResidualNetwork, key_beyond, LoweredKeys}
use Rattle.flow_relaxing.specs.Relaxing.{start_of, finish_of, IsResidual, length_of, code_of}

-- The column of the vertices that the residual arcs lead from.
abbrev pub starts : ResidualNetwork → Bool → List ℕ
starts N false = N.from
starts N true = N.to

-- It is relaxed: where its start is reached, it lowers no key.
abbrev pub Relaxed : ResidualNetwork → List ℕ → Bool → ℕ → Type 0
Relaxed N key back e = IsResidual N back e → entry key (start_of N back e) < unreached → entry key (finish_of N back e) ≤ key_beyond (entry key (start_of N back e)) (length_of N back e)

-- How many vertices wait.
unfoldable pub waiting : List ℕ → ℕ
waiting [] = 0
waiting (a ∷ l) = indicator (ltb a waits_not) + waiting l

-- What falls with each vertex that is taken: a key that falls weighs more than the vertex that then waits.
abbrev pub work : List ℕ → List ℕ → ℕ
work key keys = 2 * sum key + waiting keys

-- Who waits, and what was looked at: every residual arc from a vertex that does not wait is relaxed; of those from the vertex cur only the ones with a code below lo.
pub record SearchState (N : ResidualNetwork) (key keys low : List ℕ) (cur lo : ℕ) : Type 0 where
  pub queue : Kept keys low
  pub most : (v : ℕ) → v < length key → entry key v ≤ unreached
  pub waits : (v : ℕ) → v < length key → entry keys v < waits_not → entry keys v ≡ entry key v
  pub nobody : (v : ℕ) → length key ≤ v → v < 256 → waits_not ≤ entry keys v
  pub looked :
      (back : Bool) (e : ℕ) → e < length N.from → waits_not ≤ entry keys (start_of N back e) → (start_of N back e ≡ cur → code_of back e < lo) → Relaxed N key back e

-- The residual arcs from u, which was taken with the key k, are looked at, those with a code below lo already.
pub record Looking (N : ResidualNetwork) (key keys low : List ℕ) (u k lo : ℕ) : Type 0 where
  pub state : SearchState N key keys low u lo
  pub inside : u < length key
  pub here : entry key u ≡ k
  pub reached : k < unreached
  pub gone : waits_not ≤ entry keys u

-- The code of the first residual arc, forward or back.
abbrev pub first_code : Bool → ℕ
first_code back = code_of back 0

-- The code after that of the last.
abbrev pub end_code : Bool → ℕ
end_code back = code_of back 4096

-- All residual arcs from u, forward or back, were looked at.
pub record ScannedFrom (N : ResidualNetwork) (back : Bool) (u k : ℕ) (key par keys low key' par' keys' low' : List ℕ) : Type 0 where
  pub keeps : LoweredKeys N key par key' par'
  pub looking : Looking N key' keys' low' u k (end_code back)
  pub falls : work key' keys' ≤ work key keys

-- The index by head; or none, where no arc carries anything.
abbrev pub BackwardIndex : ResidualNetwork → Option (Bor (List ℕ)) → Type 0
BackwardIndex N into = MatchOption into ((e : ℕ) → entry N.x e ≡ 0) (λ links. Chains N.to links.now)
