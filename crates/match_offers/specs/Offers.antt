-- Bids: the cheapest arcs to a right vertex, and what changes where one of them is taken.
use Rattle.std.specs.Prelude.{◌≡◌, List, ◌≢◌, ℕ, ◌+◌, ◌-◌, ◌<◌, ◌≤◌, eqb, leb, ltb, length, set}
use Rattle.prelude.specs.Choice.{pick}
use Rattle.packed_arcs.specs.Entries.{entry}
use Rattle.arc_index.specs.ArcIndex.{no_arc}
use Rattle.match_offers.specs.declared.TwoArcs.{TwoArcs}

-- More than any arc costs.
abbrev pub too_much : ℕ
too_much = 4294967295

-- What the arc e costs at its head: its weight, and the potential of its tail.
abbrev pub bid_cost : List ℕ → List ℕ → List ℕ → ℕ → ℕ
bid_cost T W pi e = entry W e + entry pi (entry T e)

-- The same, and too much for an arc from the vertex `except`.
abbrev pub cost_unless : List ℕ → List ℕ → List ℕ → ℕ → ℕ → ℕ
cost_unless T W pi except e = pick (eqb (entry T e) except) too_much (bid_cost T W pi e)

-- Every arc costs something that can be added up.
abbrev pub Affordable : List ℕ → List ℕ → List ℕ → Type 0
Affordable T W pi = (e : ℕ) → e < length T → (entry T e < length pi) × (bid_cost T W pi e ≤ 8355585)

-- r is no arc, or among the arcs to t that do not come from `except` none is cheaper.
pub record Cheapest (T H W pi : List ℕ) (t except r : ℕ) : Type 0 where
  pub arc : r < no_arc → r < length T
  pub head : r < no_arc → entry H r ≡ t
  pub tail : r < no_arc → entry T r ≢ except
  pub least : r < no_arc → (e : ℕ) → e < length T → entry H e ≡ t → entry T e ≢ except → bid_cost T W pi r ≤ bid_cost T W pi e

-- e1 is no arc, or the cheapest to t, and e2 is no arc, or the cheapest from another vertex; 256 is no vertex.
pub record TwoCheapest (T H W pi : List ℕ) (t e1 e2 : ℕ) : Type 0 where
  pub first : Cheapest T H W pi t 256 e1
  pub second : e1 < no_arc → Cheapest T H W pi t (entry T e1) e2

-- The arc e at this cost, from the same vertex as the cheapest, is looked at too.
abbrev pub with_same_tail : TwoArcs → ℕ → ℕ → TwoArcs
with_same_tail two e cost =
    pick (ltb cost two.least) (record { tail = two.tail; first = e; least = cost; second = two.second; next = two.next }) two

-- The arc e at this cost, from the vertex a, is looked at too.
abbrev pub with_arc : TwoArcs → ℕ → ℕ → ℕ → TwoArcs
with_arc two a e cost =
    pick (leb two.next cost) two
    (pick (eqb two.tail a) (with_same_tail two e cost)
    (pick (ltb cost two.least) (record { tail = a; first = e; least = cost; second = two.first; next = two.least })
    (record { tail = two.tail; first = two.first; least = two.least; second = e; next = cost })))

-- The arc e to t may be taken for u: u covers its cost, no arc to t from another vertex costs less than u, and none from the same vertex weighs less.
pub record Offer (T H W pi : List ℕ) (t e u : ℕ) : Type 0 where
  pub arc : e < length T
  pub head : entry H e ≡ t
  pub covers : bid_cost T W pi e ≤ u
  pub most : u ≤ 8322818
  pub others : (j : ℕ) → j < length T → entry H j ≡ t → entry T j ≢ entry T e → u ≤ bid_cost T W pi j
  pub same : (j : ℕ) → j < length T → entry H j ≡ t → entry T j ≡ entry T e → entry W e ≤ entry W j

-- Indices within the lists, where the arc e to t is taken for u.
pub record Room (T H W mate pi : List ℕ) (t e u : ℕ) : Type 0 where
  pub few : length T ≤ no_arc
  pub arc : e < length T
  pub tail : entry T e < length mate
  pub right : t < length mate
  pub same_len : length pi ≡ length mate
  pub covers : entry W e ≤ u
  pub matched : entry mate (entry T e) < no_arc → (entry mate (entry T e) < length T) × (entry H (entry mate (entry T e)) < length mate)

-- The head of the arc that is matched at a, if there is one, becomes exposed.
abbrev pub freed : List ℕ → List ℕ → ℕ → List ℕ
freed H mate a = pick (leb no_arc (entry mate a)) mate (set mate (entry H (entry mate a)) no_arc)

-- The arc e from a to t is matched in place of the arc that was matched at a.
abbrev pub assigned_mates : List ℕ → List ℕ → ℕ → ℕ → ℕ → List ℕ
assigned_mates H mate a t e = set (set (freed H mate a) a e) t e

-- t gets the potential u, and a that with which an arc of weight w between them has no reduced cost.
abbrev pub assigned_potentials : List ℕ → ℕ → ℕ → ℕ → ℕ → List ℕ
assigned_potentials pi a t u w = set (set pi t u) a (u - w)
