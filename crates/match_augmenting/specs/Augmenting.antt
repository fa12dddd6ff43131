-- What follows a search that reached an exposed left vertex: potentials that rise by what a vertex is nearer to the root, and a matching that grows along parent arcs.
use Rattle.std.specs.Prelude.{◌≡◌, List, ◌⊎◌, ◌≢◌, ℕ, ◌+◌, ◌-◌, ◌<◌, ◌≤◌, eqb, leb, ltb, length, set}
use Rattle.prelude.specs.Choice.{pick}
use Rattle.packed_arcs.specs.Entries.{entry}
use Rattle.arc_index.specs.ArcIndex.{no_arc}
use Rattle.match_state.specs.Matching.{Bipartite, Matching, Priced, State}

-- By how much the potential of the vertex v rises, where the search reached the distance d: by what a left vertex is nearer than d, and a right one as much as the one it is matched to; the root by d.
abbrev pub rise_of : ℕ → List ℕ → List ℕ → List ℕ → ℕ → ℕ → ℕ → ℕ
rise_of h T mate dist t d v =
    pick (ltb v h) (d - entry dist v) (pick (eqb v t) d (pick (ltb (entry mate v) no_arc) (d - entry dist (entry T (entry mate v))) 0))

-- Every potential rose.
pub record Raised (h : ℕ) (T mate dist : List ℕ) (t d : ℕ) (pi pi' : List ℕ) : Type 0 where
  pub len : length pi' ≡ length pi
  pub each : (v : ℕ) → v < length pi → entry pi' v ≡ entry pi v + rise_of h T mate dist t d v

-- The potential of the vertex v rises by up.
abbrev pub lifted : ℕ → ℕ → List ℕ → List ℕ
lifted up v pi = set pi v (entry pi v + up)

-- The potentials of the left vertex a and of what it is matched to rise by what a is nearer than d, if it is.
abbrev pub pair_raised : List ℕ → List ℕ → List ℕ → ℕ → ℕ → List ℕ → List ℕ
pair_raised H mate dist d a pi =
    pick (leb d (entry dist a)) pi (lifted (d - entry dist a) (entry H (entry mate a)) (lifted (d - entry dist a) a pi))

-- The vertex a is matched, by one of m arcs, to another, and neither has a potential above what a node number may be.
pub record LowPair (H mate : List ℕ) (m : ℕ) (pi : List ℕ) (a : ℕ) : Type 0 where
  pub listed : a < length mate
  pub arc : entry mate a < m
  pub near : a < length pi
  pub far : entry H (entry mate a) < length pi
  pub apart : entry H (entry mate a) ≢ a
  pub low : entry pi a ≤ 8322818
  pub low_far : entry pi (entry H (entry mate a)) ≤ 8322818

-- The parent arc e of the left vertex c is tight, and leads to the root, or to a vertex matched to one that was taken before c.
pub record Onward (T H W mate pi order : List ℕ) (t c e : ℕ) : Type 0 where
  pub arc : e < length T
  pub tail : entry T e ≡ c
  pub tight : entry pi (entry H e) ≡ entry pi c + entry W e
  pub on :
      (entry H e ≡ t)
      ⊎ ((entry mate (entry H e) < no_arc) × (0 < entry order (entry T (entry mate (entry H e)))) × (entry order (entry T (entry mate (entry H e))) < entry order c))

-- The matching grows from the exposed left vertex a along parent arcs to the exposed root t: what holds when a, alone of the exposed left vertices, may have a potential other than 0.
pub record Alternating (h n : ℕ) (T H W mate pi par order : List ℕ) (t a : ℕ) : Type 0 where
  pub graph : Bipartite h n T H W
  pub pairs : Matching n T H mate
  pub priced : Priced n T H W mate pi
  pub range : (v : ℕ) → v < n → entry pi v ≤ 8322818
  pub exposed : (c : ℕ) → c < h → entry mate c ≡ no_arc → c ≢ a → entry pi c ≡ 0
  pub left : a < h
  pub bare : entry mate a ≡ no_arc
  pub first : 0 < entry order a
  pub right : h ≤ t
  pub below : t < n
  pub open_root : entry mate t ≡ no_arc
  pub par_len : length par ≡ h
  pub order_len : length order ≡ h
  pub path : (c : ℕ) → c < h → 0 < entry order c → entry order c ≤ entry order a → Onward T H W mate pi order t c (entry par c)

-- The root is matched, and every right vertex that was.
pub record Augmented (h n : ℕ) (T H W mate pi : List ℕ) (t : ℕ) (mate' : List ℕ) : Type 0 where
  pub state : State h n T H W mate' pi
  pub root : entry mate' t < no_arc
  pub kept : (b : ℕ) → h ≤ b → b < n → entry mate b < no_arc → entry mate' b < no_arc
