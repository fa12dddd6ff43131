-- What the steps of the search keep: an index of the arcs by head, a path of vertices without a rank, and ranks given one after the other.
use Rattle.std.specs.Prelude.{◌≡◌, ◌≢◌, List, ℕ, ◌+◌, ◌-◌, ◌<◌, ◌≤◌, length, set, Option, MatchOption}
use Rattle.arc_records.specs.Limits.{most_vertices, most_arcs}
use Rattle.packed_arcs.specs.Entries.{entry, zero_list, zero_count}
use Rattle.arc_index.specs.ArcIndex.{no_arc}
use Rattle.arc_index.specs.Chains.{Chains}
use Rattle.order_path.specs.Search.{Ordered, Circulation}
use Rattle.order_path.specs.declared.Found.{Found}
use Rattle.order_path.specs.declared.Found.TheVariants.{Order, Cycle}

-- Few enough arcs between few enough vertices, 0 to n - 1. An arc may lead from a vertex to itself, and two arcs may join the same vertices.
pub record Arcs (n : ℕ) (tails heads : List ℕ) : Type 0 where
  pub vertices : n ≤ most_vertices
  pub few : length tails ≤ most_arcs
  pub heads_len : length heads ≡ length tails
  pub tails_below : (e : ℕ) → e < length tails → entry tails e < n
  pub heads_below : (e : ℕ) → e < length tails → entry heads e < n

-- ---- the index

-- e is an arc into v, or none.
pub record Points (heads : List ℕ) (v e : ℕ) : Type 0 where
  pub within : e < no_arc → e < length heads
  pub here : e < no_arc → entry heads e ≡ v

-- Arcs, and their index by head.
pub record Chained (n : ℕ) (tails heads links : List ℕ) : Type 0 where
  pub arcs : Arcs n tails heads
  pub chains : Chains heads links

-- ---- current arcs that move on

-- Each vertex has a current arc into it, or none, and no arc into it before that one comes from a vertex without a rank.
pub record Watch (tails heads ranks into : List ℕ) : Type 0 where
  pub len : length into ≡ length ranks
  pub points : (v : ℕ) → v < length ranks → Points heads v (entry into v)
  pub all : (e : ℕ) → e < length tails → entry ranks (entry tails e) ≡ 0 → entry into (entry heads e) ≤ e

-- The current arc of v moved on, and no other.
pub record MovedOn (tails heads ranks into : List ℕ) (v : ℕ) (into' : List ℕ) : Type 0 where
  pub watch : Watch tails heads ranks into'
  pub others : (u : ℕ) → u ≢ v → entry into' u ≡ entry into u

-- The current arc of v is now none, or the arc e, which comes from a vertex without a rank.
abbrev pub Current : List ℕ → List ℕ → List ℕ → ℕ → Option ℕ → Type 0
Current tails ranks into v r = MatchOption r (no_arc ≤ entry into v) (λ e. (e ≡ entry into v) × (e < no_arc) × (entry ranks (entry tails e) ≡ 0))

-- The current arc of v moved on to it.
pub record Looked (tails heads ranks into : List ℕ) (v : ℕ) (into' : List ℕ) (r : Option ℕ) : Type 0 where
  pub moved : MovedOn tails heads ranks into v into'
  pub current : Current tails ranks into' v r

-- ---- the path

-- e is an arc from w.
pub record LeadsFrom (tails : List ℕ) (e w : ℕ) : Type 0 where
  pub some : e < no_arc
  pub tail : entry tails e ≡ w

-- A path of len of the n vertices: path[i] is the vertex at i, and spot[v] is i + 1 for it, and 0 for a vertex off the path. The current arc of a
-- vertex on the path leads to it from the vertex after it.
pub record Path (n : ℕ) (tails into path spot : List ℕ) (len : ℕ) : Type 0 where
  pub path_len : length path ≡ n
  pub spot_len : length spot ≡ n
  pub count : len + zero_count spot ≡ n
  pub vertex : (i : ℕ) → i < len → entry path i < n
  pub spots : (i : ℕ) → i < len → entry spot (entry path i) ≡ i + 1
  pub joined : (i : ℕ) → i + 1 < len → LeadsFrom tails (entry into (entry path i)) (entry path (i + 1))
  pub within : (v : ℕ) → entry spot v ≤ len
  pub back : (v : ℕ) → 0 < entry spot v → entry path (entry spot v - 1) ≡ v

-- The current arcs, and a path of vertices without a rank.
pub record Searching (tails heads ranks into path spot : List ℕ) (len : ℕ) : Type 0 where
  pub watch : Watch tails heads ranks into
  pub on_path : Path (length ranks) tails into path spot len
  pub unranked : (i : ℕ) → i < len → entry ranks (entry path i) ≡ 0

-- The vertex v was put at the end of a path of len vertices.
pub record Pushed (v len : ℕ) (path spot path' spot' : List ℕ) (r : ℕ) : Type 0 where
  pub path_set : path' ≡ set path len v
  pub spot_set : spot' ≡ set spot v (len + 1)
  pub longer : r ≡ len + 1

-- The path as it was, or the root on it where it was empty.
pub data Started (root len : ℕ) (path spot path' spot' : List ℕ) (r : ℕ) : Type 0 where
  kept : 0 < len → path' ≡ path → spot' ≡ spot → r ≡ len → Started root len path spot path' spot' r
  started : len ≡ 0 → Pushed root 0 path spot path' spot' r → Started root len path spot path' spot' r

-- The path cannot grow: no arc enters its last vertex from a vertex without a rank, or one does from a vertex on the path.
pub record Climbed (tails heads ranks into path spot : List ℕ) (len : ℕ) : Type 0 where
  pub searching : Searching tails heads ranks into path spot len
  pub some : 0 < len
  pub closes : entry into (entry path (len - 1)) < no_arc → 0 < entry spot (entry tails (entry into (entry path (len - 1))))

-- A path of some of the n vertices whose last vertex is entered from one on the path.
pub record ClosedPath (n : ℕ) (tails heads into path spot : List ℕ) (len : ℕ) : Type 0 where
  pub into_len : length into ≡ n
  pub points : (v : ℕ) → v < n → Points heads v (entry into v)
  pub on_path : Path n tails into path spot len
  pub some : 0 < len
  pub taken : entry into (entry path (len - 1)) < no_arc
  pub closes : 0 < entry spot (entry tails (entry into (entry path (len - 1))))

-- ---- ranks

-- r vertices have a rank, 1 to r, and the rank of the others is 0. The tail of an arc to a vertex with a rank has a lower one.
pub record Ranking (tails heads ranks : List ℕ) (r : ℕ) : Type 0 where
  pub low : (v : ℕ) → entry ranks v ≤ r
  pub ranked : (e : ℕ) → e < length tails → 0 < entry ranks (entry heads e) → 0 < entry ranks (entry tails e)
  pub rises : (e : ℕ) → e < length tails → 0 < entry ranks (entry heads e) → entry ranks (entry tails e) < entry ranks (entry heads e)
  pub count : r + zero_count ranks ≡ length ranks

-- Every vertex below v has a rank.
abbrev pub AllRanked : List ℕ → ℕ → Type 0
AllRanked ranks v = (u : ℕ) → u < v → 0 < entry ranks u

-- The first vertex without a rank, or none where every vertex has one.
abbrev pub FirstUnranked : List ℕ → Option ℕ → Type 0
FirstUnranked ranks r = MatchOption r (AllRanked ranks (length ranks)) (λ v. AllRanked ranks v × (v < length ranks) × (entry ranks v ≡ 0))

-- An order, or the length of a path that closes.
abbrev pub Searched : List ℕ → List ℕ → List ℕ → List ℕ → List ℕ → List ℕ → Option ℕ → Type 0
Searched tails heads ranks into path spot r = MatchOption r (Ordered tails heads ranks) (λ len. ClosedPath (length ranks) tails heads into path spot len)

-- What comes of it: an order, and the marks as they were; or a cycle, and ranks 0.
pub data OrderOrCycle (tails heads ranks marks ranks' marks' : List ℕ) : Found → Type 0 where
  ordered : Ordered tails heads ranks' → marks' ≡ marks → OrderOrCycle tails heads ranks marks ranks' marks' Order
  cyclic : ranks' ≡ zero_list (length ranks) → Circulation tails heads marks' → OrderOrCycle tails heads ranks marks ranks' marks' Cycle
