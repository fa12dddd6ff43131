-- The residual network of a list of arcs, and keys and parents of its vertices.
use Rattle.std.specs.Prelude.{◌≡◌, List, ℕ, ◌+◌, ◌*◌, ◌-◌, ◌/◌, ◌<◌, ◌≤◌, min, length}
use Rattle.packed_arcs.specs.Entries.{entry}

-- The key of a vertex that is not reached.
abbrev pub unreached : ℕ
unreached = 2147483648

-- The arcs, by column, with the amounts x and the potentials pi of the vertices.
pub record ResidualNetwork : Type 0 where
  pub from : List ℕ
  pub to : List ℕ
  pub cost : List ℕ
  pub cap : List ℕ
  pub x : List ℕ
  pub pi : List ℕ

-- The residual network with these columns, amounts and potentials.
abbrev pub residual : List ℕ → List ℕ → List ℕ → List ℕ → List ℕ → List ℕ → ResidualNetwork
residual f t c k x p = record { from = f; to = t; cost = c; cap = k; x = x; pi = p }

-- The vertex that the arc e leads from.
abbrev pub tail : ResidualNetwork → ℕ → ℕ
tail N e = entry N.from e

-- The vertex that the arc e leads to.
abbrev pub head : ResidualNetwork → ℕ → ℕ
head N e = entry N.to e

-- The cost plus the potential of the tail.
abbrev pub raised_cost : ResidualNetwork → ℕ → ℕ
raised_cost N e = entry N.cost e + entry N.pi (tail N e)

-- The potential of the head. The reduced cost is how much the cost plus the potential of the tail is above it.
abbrev pub head_potential : ResidualNetwork → ℕ → ℕ
head_potential N e = entry N.pi (head N e)

-- The columns are of one length, and the numbers within the limits, for n vertices.
pub record WithinLimits (N : ResidualNetwork) (n : ℕ) : Type 0 where
  pub few : length N.from ≤ 4096
  pub to_len : length N.to ≡ length N.from
  pub cost_len : length N.cost ≡ length N.from
  pub cap_len : length N.cap ≡ length N.from
  pub x_len : length N.x ≡ length N.from
  pub pi_len : length N.pi ≡ n
  pub tails : (e : ℕ) → e < length N.from → tail N e < n
  pub heads : (e : ℕ) → e < length N.from → head N e < n
  pub costs : (e : ℕ) → entry N.cost e ≤ 32767
  pub pis : (v : ℕ) → entry N.pi v ≤ 8322818

-- No residual arc has a negative reduced cost.
pub record NonnegativeReducedCosts (N : ResidualNetwork) : Type 0 where
  pub forward : (e : ℕ) → e < length N.from → entry N.x e < entry N.cap e → head_potential N e ≤ raised_cost N e
  pub backward : (e : ℕ) → e < length N.from → 0 < entry N.x e → raised_cost N e ≤ head_potential N e

-- The key at the end of a residual arc of length len from a vertex with the key k: 256 for each unit, 1 for the arc.
abbrev pub key_beyond : ℕ → ℕ → ℕ
key_beyond k len = k + len * 256 + 1

-- The arc e is relaxed forward: where it has room and its tail is reached, it lowers no key.
abbrev pub RelaxedForward : ResidualNetwork → List ℕ → ℕ → Type 0
RelaxedForward N key e =
    entry N.x e < entry N.cap e → entry key (tail N e) < unreached → entry key (head N e) ≤ key_beyond (entry key (tail N e)) (raised_cost N e - head_potential N e)

-- The arc e is relaxed backward: where it carries something and its head is reached, it lowers no key.
abbrev pub RelaxedBackward : ResidualNetwork → List ℕ → ℕ → Type 0
RelaxedBackward N key e = 0 < entry N.x e → entry key (head N e) < unreached → entry key (tail N e) ≤ key_beyond (entry key (head N e)) (head_potential N e - raised_cost N e)

-- The arc e is relaxed both ways.
pub record RelaxedArc (N : ResidualNetwork) (key : List ℕ) (e : ℕ) : Type 0 where
  pub forward : RelaxedForward N key e
  pub backward : RelaxedBackward N key e

-- The parent arc of the vertex v: the arc e forward (code e) or backward (code 4096 + e), from an end whose key is lower.
pub data ParentArc (N : ResidualNetwork) (key : List ℕ) (code : ℕ) (v : ℕ) : Type 0 where
  forward :
      code < length N.from → entry N.x code < entry N.cap code → head N code ≡ v → entry key (tail N code) < unreached
      → key_beyond (entry key (tail N code)) (raised_cost N code - head_potential N code) ≤ entry key v → ParentArc N key code v
  backward :
      (e : ℕ) → code ≡ 4096 + e → e < length N.from → 0 < entry N.x e → tail N e ≡ v → entry key (head N e) < unreached
      → key_beyond (entry key (head N e)) (head_potential N e - raised_cost N e) ≤ entry key v → ParentArc N key code v

-- Every vertex that is reached is a root (key 0) or has a parent arc.
abbrev pub ParentTree : ResidualNetwork → List ℕ → List ℕ → Type 0
ParentTree N key par = (v : ℕ) → v < length key → entry key v < unreached → 0 < entry key v → ParentArc N key (entry par v) v

-- What a lowering of keys keeps.
pub record LoweredKeys (N : ResidualNetwork) (key par key' par' : List ℕ) : Type 0 where
  pub key_len : length key' ≡ length key
  pub par_len : length par' ≡ length par
  pub below : (v : ℕ) → entry key' v ≤ entry key v
  pub roots : (v : ℕ) → v < length key → entry key' v ≡ 0 → entry key v ≡ 0
  pub tree : ParentTree N key par → ParentTree N key' par'

-- The arcs below n are relaxed.
abbrev pub AllRelaxed : ResidualNetwork → List ℕ → ℕ → Type 0
AllRelaxed N key n = (e : ℕ) → e < n → RelaxedArc N key e

-- The potentials after a phase that stops at the key d: each rises by the lesser of its distance and that of d.
pub record RaisedPotentials (d : ℕ) (key pi pi' : List ℕ) : Type 0 where
  pub len : length pi' ≡ length pi
  pub by : (v : ℕ) → v < length key → entry pi' v ≡ entry pi v + min (entry key v) d / 256
