-- A search for an exposed left vertex, back from an exposed right one, the root: distances by reduced cost, parents, and the order in which left vertices were taken.
use Rattle.std.specs.Prelude.{◌≡◌, Bool, false, List, ◌⊎◌, ◌≢◌, ℕ, ◌+◌, ◌*◌, ◌-◌, ◌/◌, ◌<◌, ◌≤◌, min, eqb, ltb, length, set}
use Rattle.prelude.specs.Choice.{pick}
use Rattle.packed_arcs.specs.Entries.{entry, zero_count}
use Rattle.arc_index.specs.ArcIndex.{no_arc}
use Rattle.vertex_queue.specs.VertexQueue.{waits_not, Kept}
use Rattle.match_state.specs.Rows.{row_number, row_tail, row_weight}

-- The right vertex b is in the tree: the root, at the distance 0, or matched to a left vertex that was taken, and as far as that. j is when that was taken, 0 for the root.
pub data InTree (T mate dist order : List ℕ) (t b D j : ℕ) : Type 0 where
  root : b ≡ t → D ≡ 0 → j ≡ 0 → InTree T mate dist order t b D j
  matched :
      entry mate b < no_arc → 0 < entry order (entry T (entry mate b)) → D ≡ entry dist (entry T (entry mate b)) → j ≡ entry order (entry T (entry mate b))
      → InTree T mate dist order t b D j

-- The parent arc e of the left vertex a leads to a right vertex that was in the tree before a was taken, and makes up the distance of a.
pub record Parent (T H W mate pi dist order : List ℕ) (t a e : ℕ) : Type 0 where
  pub arc : e < length T
  pub tail : entry T e ≡ a
  pub D : ℕ
  pub j : ℕ
  pub in_tree : InTree T mate dist order t (entry H e) D j
  pub earlier : 0 < entry order a → j < entry order a
  pub far : entry dist a + entry pi (entry H e) ≡ D + entry pi a + entry W e

-- The left vertex a was taken, at most at the distance k; nd were taken. It is matched, and its potential is as near to its distance as nd arcs allow.
pub record TakenLeft (mate pi dist order : List ℕ) (t k nd a : ℕ) : Type 0 where
  pub no_farther : entry dist a ≤ k
  pub mated : entry mate a < no_arc
  pub when : entry order a ≤ nd
  pub near : entry dist a + entry pi t ≤ entry pi a + nd * 32767
  pub not_below : entry pi a + 32767 ≤ entry dist a + entry pi t + nd * 32767

-- The search after nd left vertices were taken, the last at the distance k. The arcs to the right vertices in the tree were looked at, but those to cur.
-- No exposed left vertex is nearer than best, and what is no nearer may have been left out.
pub record Tree (h n : ℕ) (T H W mate pi : List ℕ) (t : ℕ) (dist par order keys : List ℕ) (k nd cur best : ℕ) : Type 0 where
  pub dist_len : length dist ≡ h
  pub par_len : length par ≡ h
  pub order_len : length order ≡ h
  pub keys_len : length keys ≡ 256
  pub target : t < n
  pub right : h ≤ t
  pub bare : entry mate t ≡ no_arc
  pub parents : (a : ℕ) → a < h → entry dist a < waits_not → Parent T H W mate pi dist order t a (entry par a)
  pub waits : (a : ℕ) → a < h → entry order a ≡ 0 → entry keys a ≡ entry dist a
  pub gone : (a : ℕ) → a < h → 0 < entry order a → waits_not ≤ entry keys a
  pub nobody : (v : ℕ) → h ≤ v → v < 256 → waits_not ≤ entry keys v
  pub most : (a : ℕ) → a < h → entry dist a ≤ waits_not
  pub taken : (a : ℕ) → a < h → 0 < entry order a → TakenLeft mate pi dist order t k nd a
  pub ahead : (a : ℕ) → a < h → entry order a ≡ 0 → k ≤ entry dist a
  pub looked :
      (e D j : ℕ) → e < length T → InTree T mate dist order t (entry H e) D j → entry H e ≢ cur
      → min (entry dist (entry T e)) best + entry pi (entry H e) ≤ D + entry pi (entry T e) + entry W e
  pub least : (a : ℕ) → a < h → entry mate a ≡ no_arc → best ≤ entry dist a
  pub near : (a : ℕ) → a < h → entry dist a < waits_not → entry dist a + entry pi t ≤ entry pi a + (nd + 1) * 32767
  pub not_below : (a : ℕ) → a < h → entry dist a < waits_not → entry pi a ≤ entry dist a + entry pi t + nd * 32767
  pub count : nd + zero_count order ≡ h

-- How far the exposed left vertex r is; farther than any where r is none, that is, the number of left vertices.
abbrev pub exposed_distance : List ℕ → ℕ → ℕ
exposed_distance dist r = pick (ltb r (length dist)) (entry dist r) waits_not

-- The nearest exposed left vertex that was found is r, at the distance best; or none was found.
pub data NearestExposed (h : ℕ) (mate dist : List ℕ) (r best : ℕ) : Type 0 where
  some : r < h → entry mate r ≡ no_arc → entry dist r ≡ best → best < waits_not → NearestExposed h mate dist r best
  none : r ≡ h → best ≡ waits_not → NearestExposed h mate dist r best

-- The left vertex a came to be at the distance far by the arc e, where that is nearer than it was, and than best; the reply is then whether it is exposed.
pub data Lowered (a e far best : ℕ) (mate dist par keys low dist' par' keys' low' : List ℕ) : Bool → Type 0 where
  nearer :
      far < entry dist a → far < best → dist' ≡ set dist a far → par' ≡ set par a e → keys' ≡ set keys a far
      → low' ≡ set low (a / 16) (min (entry low (a / 16)) far) → {r : Bool} → r ≡ eqb (entry mate a) no_arc → Lowered a e far best mate dist par keys low dist' par' keys' low' r
  kept : min (entry dist a) best ≤ far → dist' ≡ dist → par' ≡ par → keys' ≡ keys → low' ≡ low → Lowered a e far best mate dist par keys low dist' par' keys' low' false

-- What looking at an arc in a row takes for granted: the head of the arc is at the distance k and has the potential price.
pub record Relaxable (arc k price : ℕ) (mate pi dist par : List ℕ) : Type 0 where
  pub number : row_number arc < 4096
  pub tail : row_tail arc < length dist
  pub small : length dist ≤ 255
  pub mates : length dist ≤ length mate
  pub potentials : length dist ≤ length pi
  pub par_len : length par ≡ length dist
  pub near : k ≤ 2000000000
  pub weight : row_weight arc ≤ 32767
  pub potential : entry pi (row_tail arc) ≤ 8322818
  pub not_negative : price ≤ row_weight arc + entry pi (row_tail arc)

-- After the arcs to b, at the distance k, were looked at: all of them, and r is the nearest exposed vertex; or those up to the first that comes from an exposed vertex which is no farther.
pub data ScanEnd (h n : ℕ) (T H W mate pi : List ℕ) (t : ℕ) (dist par order keys : List ℕ) (b k nd r : ℕ) : Type 0 where
  all :
      (best : ℕ) → NearestExposed h mate dist r best → Tree h n T H W mate pi t dist par order keys k nd n best → ScanEnd h n T H W mate pi t dist par order keys b k nd r
  found :
      r < h → entry mate r ≡ no_arc → entry dist r ≡ k → (j : ℕ) → InTree T mate dist order t b k j → Tree h n T H W mate pi t dist par order keys k nd b k
      → ScanEnd h n T H W mate pi t dist par order keys b k nd r

-- What looking at the arcs to b keeps, whatever the root and the order were; r₀ was the nearest exposed vertex.
pub record Scanned (h n : ℕ) (T H W mate pi dist par keys low dist' par' keys' low' : List ℕ) (b k r₀ r : ℕ) : Type 0 where
  pub dist_len : length dist' ≡ length dist
  pub par_len : length par' ≡ length par
  pub grows :
      (t nd j best : ℕ) (order : List ℕ) → InTree T mate dist order t b k j → Kept keys low → NearestExposed h mate dist r₀ best
      → Tree h n T H W mate pi t dist par order keys k nd b best → Kept keys' low' × ScanEnd h n T H W mate pi t dist' par' order keys' b k nd r

-- What is known where the exposed left vertex r was reached: potentials may rise by what vertices are nearer than r, and parent arcs lead from r to the root.
pub record Reached (h n : ℕ) (T H W mate pi : List ℕ) (t : ℕ) (dist par order : List ℕ) (r : ℕ) : Type 0 where
  pub dist_len : length dist ≡ h
  pub par_len : length par ≡ h
  pub order_len : length order ≡ h
  pub target : t < n
  pub right : h ≤ t
  pub open_root : entry mate t ≡ no_arc
  pub left : r < h
  pub bare : entry mate r ≡ no_arc
  pub exposed : (a : ℕ) → a < h → entry mate a ≡ no_arc → entry dist r ≤ entry dist a
  pub to_root : (e : ℕ) → e < length T → entry H e ≡ t → min (entry dist (entry T e)) (entry dist r) + entry pi t ≤ entry pi (entry T e) + entry W e
  pub to_matched :
      (e : ℕ) → e < length T → entry mate (entry H e) < no_arc
      → min (entry dist (entry T e)) (entry dist r) + entry pi (entry H e) ≤ entry dist (entry T (entry mate (entry H e))) + entry pi (entry T e) + entry W e
  pub range_root : entry dist r + entry pi t ≤ 8322818
  pub range : (a : ℕ) → a < h → entry mate a < no_arc → entry dist a < entry dist r → entry pi a + (entry dist r - entry dist a) ≤ 8290051
  pub taken : (a : ℕ) → a < h → 0 < entry order a → (entry mate a < no_arc) × (entry dist a ≤ entry dist r) × (entry order a ≤ 254)
  pub parents : (c : ℕ) → c < h → (0 < entry order c) ⊎ (c ≡ r) → Parent T H W mate pi dist order t c (entry par c)

-- What the search came to: an exposed vertex r; or none, and nobody waits.
pub data SearchedBack (h n : ℕ) (T H W mate pi : List ℕ) (t : ℕ) (dist par order : List ℕ) (r : ℕ) : Type 0 where
  reached : Reached h n T H W mate pi t dist par order r → SearchedBack h n T H W mate pi t dist par order r
  stuck :
      r ≡ h → (keys : List ℕ) (k nd : ℕ) → Tree h n T H W mate pi t dist par order keys k nd n waits_not
      → ((a : ℕ) → a < h → entry order a ≡ 0 → waits_not ≤ entry dist a) → SearchedBack h n T H W mate pi t dist par order r
