-- Two of the questions as a flow search is asked them: the columns of a network, lists by vertex, and node numbers read from keys.
use Rattle.std.specs.Prelude.{◌≡◌, Bool, List, map, ℕ, ◌+◌, ◌*◌, ◌/◌, ◌<◌, ◌≤◌, ltb, ℤ, pos, length, replicate}
use Rattle.prelude.specs.Choice.{pick, indicator}
use Rattle.prelude.specs.Lists.{Every}
use Rattle.arc_records.specs.Limits.{most_vertices, most_arcs, most_weight, most_potential}
use Rattle.arc_records.specs.Arcs.{Arc, delta}
use Rattle.network.specs.Question.{Setting, WeightWithin}
use Rattle.packed_arcs.specs.Entries.{entry}
use Rattle.flow_residual.specs.Residual.{unreached}
use Rattle.cert_instances.specs.declared.vertices.NumberKind.{NumberKind}
use Rattle.cert_instances.specs.declared.vertices.NumberKind.TheVariants.{Mark, Distance, Potential}

-- What reading lets through: a network within the limits, whose arcs join vertices below n.
pub record Fits (n : ℕ) (es : List Arc) : Type 0 where
  pub small : n ≤ most_vertices
  pub few : length es ≤ most_arcs
  pub inside : Every (λ e. (e.tail < n) × (e.head < n)) es
  pub light : Every WeightWithin es

-- ---- by arc

-- The tails of the arcs of a network, in order.
abbrev pub tails : List Arc → List ℕ
tails es = map (λ e. e.tail) es

-- The heads of the arcs of a network, in order.
abbrev pub heads : List Arc → List ℕ
heads es = map (λ e. e.head) es

-- Their weights.
abbrev pub weights : List Arc → List ℕ
weights es = map (λ e. e.weight) es

-- The column that holds k for each arc.
abbrev pub constant : List Arc → ℕ → List ℕ
constant es k = replicate (length es) k

-- ---- by vertex

-- The list has an entry for each of n vertices, f v for the vertex v.
pub record VertexList (n : ℕ) (f : ℕ → ℕ) (l : List ℕ) : Type 0 where
  pub len : length l ≡ n
  pub entries : (v : ℕ) → v < n → entry l v ≡ f v

-- a at the vertex k, 0 elsewhere.
abbrev pub single : ℕ → ℕ → ℕ → ℕ
single k a v = a * delta k v

-- More units than all arcs together can carry: what stands at the source of a flow, and is wanted at its sink.
abbrev pub plenty : ℕ
plenty = 1 + most_arcs * most_weight

-- No entry of the second list is above that of the first.
abbrev pub Falls : List ℕ → List ℕ → Type 0
Falls l l' = (v : ℕ) → entry l' v ≤ entry l v

-- Does the key say that the search reached its vertex?
abbrev pub reached : ℕ → Bool
reached k = ltb k unreached

-- The node number written for a vertex, read from k. From its key: a mark, 1 where the search came; or the least length of a walk to it, and as high as a potential goes where none leads there.
-- Or its potential or rank, as it stands.
abbrev pub number_of : NumberKind → ℕ → ℕ
number_of Mark k = indicator (reached k)
number_of Distance k = pick (reached k) (k / 256) most_potential
number_of Potential k = k

-- The distance of the vertex v.
abbrev pub distance_of : List ℕ → ℕ → ℕ
distance_of key v = number_of Distance (entry key v)

-- The same as the node number of a path.
abbrev pub potential_of : List ℕ → ℕ → ℤ
potential_of key v = pos (distance_of key v)

-- The mark of the vertex v.
abbrev pub mark_of : List ℕ → ℕ → ℤ
mark_of key v = pos (number_of Mark (entry key v))

-- The setting with another sink.
abbrev pub toward : Setting → ℕ → Setting
toward st v = record { question = st.question; n = st.n; s = st.s; t = v }
