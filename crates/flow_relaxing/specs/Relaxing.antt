-- What looking at one residual arc does in a search.
use Rattle.std.specs.Prelude.{◌≡◌, Bool, true, false, List, ℕ, ◌+◌, ◌-◌, ◌/◌, ◌<◌, ◌≤◌, min, set}
use Rattle.packed_arcs.specs.Entries.{entry}
use Rattle.flow_relaxing.specs.declared.Network.{Network}
use Rattle.flow_residual.specs.PackedNetwork.{residual_of}
use Rattle.flow_residual.specs.Residual.{ResidualNetwork, tail, head, raised_cost, head_potential, WithinLimits, NonnegativeReducedCosts, key_beyond}

-- The residual network of what the code holds.
abbrev pub residual_in : Network → ResidualNetwork
residual_in net = residual_of net.arcs.now net.x.now net.pi.now

-- ---- residual arcs: the arc e forward, or back

-- The vertex that the residual arc leads from.
abbrev pub start_of : ResidualNetwork → Bool → ℕ → ℕ
start_of N false e = tail N e
start_of N true e = head N e

-- The vertex that it leads to.
abbrev pub finish_of : ResidualNetwork → Bool → ℕ → ℕ
finish_of N false e = head N e
finish_of N true e = tail N e

-- The residual network has it: forward where there is room, back where the arc carries something.
abbrev pub IsResidual : ResidualNetwork → Bool → ℕ → Type 0
IsResidual N false e = entry N.x e < entry N.cap e
IsResidual N true e = 0 < entry N.x e

-- Its reduced cost.
abbrev pub length_of : ResidualNetwork → Bool → ℕ → ℕ
length_of N false e = raised_cost N e - head_potential N e
length_of N true e = head_potential N e - raised_cost N e

-- Its code: e forward, 4096 + e back.
abbrev pub code_of : Bool → ℕ → ℕ
code_of false e = e
code_of true e = 4096 + e

-- What a search over n vertices takes for granted.
pub record SearchReady (N : ResidualNetwork) (n : ℕ) : Type 0 where
  pub sized : WithinLimits N n
  pub nonnegative : NonnegativeReducedCosts N
  pub small : n ≤ 255

-- ---- looking at one of them

-- The key of v is at most reach, by the residual arc of the code: it fell, and v waits with it, or nothing changed.
pub data LowerOutcome (v reach code : ℕ) (key par keys low key' par' keys' low' : List ℕ) : Type 0 where
  lowered :
      reach < entry key v → key' ≡ set key v reach → par' ≡ set par v code → keys' ≡ set keys v reach → low' ≡ set low (v / 16) (min (entry low (v / 16)) reach)
      → LowerOutcome v reach code key par keys low key' par' keys' low'
  kept : entry key v ≤ reach → key' ≡ key → par' ≡ par → keys' ≡ keys → low' ≡ low → LowerOutcome v reach code key par keys low key' par' keys' low'

-- The arc e was looked at, from its start at the key k: there is no such residual arc, or the key of its other end was lowered by it where that is lower.
pub data RelaxOutcome (N : ResidualNetwork) (back : Bool) (e k : ℕ) (key par keys low key' par' keys' low' : List ℕ) : Type 0 where
  absent : (IsResidual N back e → ⊥) → key' ≡ key → par' ≡ par → keys' ≡ keys → low' ≡ low → RelaxOutcome N back e k key par keys low key' par' keys' low'
  tried :
      IsResidual N back e → LowerOutcome (finish_of N back e) (key_beyond k (length_of N back e)) (code_of back e) key par keys low key' par' keys' low'
      → RelaxOutcome N back e k key par keys low key' par' keys' low'
