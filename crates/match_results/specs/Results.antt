-- What is written at the end: amounts of a matching that saturates the right vertices, or marks that show that there is none.
use Rattle.std.specs.Prelude.{◌≡◌, List, ℕ, ◌+◌, ◌-◌, ◌<◌, ◌≤◌, eqb, ltb, leb, length}
use Rattle.prelude.specs.Choice.{pick, indicator}
use Rattle.prelude.specs.Sums.{sum_to}
use Rattle.packed_arcs.specs.Entries.{entry, flow_at}
use Rattle.arc_index.specs.ArcIndex.{no_arc}
use Rattle.vertex_queue.specs.VertexQueue.{waits_not}

-- ---- a saturating matching of least cost

-- One arc carries 1 at every right vertex, from h on, and at most one at a left vertex, which has the potential 0 where there is none; no reduced cost is negative,
-- and an arc that carries something has none.
pub record Saturating (h n : ℕ) (T H W x pi : List ℕ) : Type 0 where
  pub x_len : length x ≡ length T
  pub zero_or_one : (e : ℕ) → entry x e ≤ 1
  pub left_most : (a : ℕ) → a < h → flow_at T x a ≤ 1
  pub left_spare : (a : ℕ) → a < h → flow_at T x a ≡ 0 → entry pi a ≡ 0
  pub right_one : (b : ℕ) → h ≤ b → b < n → flow_at H x b ≡ 1
  pub pi_len : length pi ≡ n
  pub feasible : (e : ℕ) → e < length T → entry pi (entry H e) ≤ entry pi (entry T e) + entry W e
  pub tight : (e : ℕ) → e < length T → 0 < entry x e → entry pi (entry H e) ≡ entry pi (entry T e) + entry W e
  pub range : (v : ℕ) → v < n → entry pi v ≤ 8322818

-- ---- no saturating matching

-- 1 for a left vertex whose distance is that of a vertex that was not reached, else 0.
abbrev pub far_mark : ℕ → ℕ
far_mark d = indicator (leb waits_not d)

-- 0 for a vertex in the tree of the root t, else 1: a left vertex is in it where it was reached, a right one where it is the root or matched to a left vertex that was.
abbrev pub unreached_mark : List ℕ → List ℕ → List ℕ → ℕ → ℕ → ℕ
unreached_mark T mate dist t v =
    pick (ltb v (length dist)) (far_mark (entry dist v))
    (pick (eqb v t) 0
    (pick (leb no_arc (entry mate v)) 1
    (far_mark (entry dist (entry T (entry mate v))))))

-- The marks of n vertices after a search from t.
pub record Marks (n : ℕ) (T mate dist : List ℕ) (t : ℕ) (marks : List ℕ) : Type 0 where
  pub len : length marks ≡ n
  pub by : (v : ℕ) → v < n → entry marks v ≡ unreached_mark T mate dist t v

-- Every arc to a right vertex without a mark comes from a left vertex without one, and there are fewer of those: they cannot all be matched (Hall).
pub record Deficient (h n : ℕ) (T H marks : List ℕ) : Type 0 where
  pub len : length marks ≡ n
  pub zero_or_one : (v : ℕ) → entry marks v ≤ 1
  pub closed : (e : ℕ) → e < length T → entry marks (entry T e) ≡ 1 → entry marks (entry H e) ≡ 1
  pub fewer : sum_to h (λ a. 1 - entry marks a) < sum_to (n - h) (λ i. 1 - entry marks (h + i))
