-- A network as a list of arcs, amounts on its arcs, and what is summed over them.
use Rattle.std.specs.Prelude.{◌≡◌, Bool, not, ◌&&◌, List, [], ◌∷◌, map, ℕ, ◌+◌, ◌*◌, eqb, ℤ, pos, ◌-ℤ◌}
use Rattle.prelude.specs.Choice.{pick, indicator}
use Rattle.arc_records.specs.declared.Record.{Record}
use Rattle.arc_records.specs.Arcs.{Arc, arc_of, arc_held, word_arc, delta}

-- A self-loop, an arc from a vertex to itself (PANEL 2): at the gate a storage basin.
abbrev pub SelfLoop : Arc → Type 0
SelfLoop e = e.tail ≡ e.head

-- The network without its self-loops: all other arcs, in order.
unfoldable pub without_self_loops : List Arc → List Arc
without_self_loops [] = []
without_self_loops (e ∷ net) = pick (eqb e.tail e.head) (without_self_loops net) (e ∷ without_self_loops net)

-- The key of an arc (PANEL 4): its three numbers side by side, in 8, 8 and 15 bits.
abbrev pub key : Arc → ℕ
key e = e.tail * 8388608 + e.head * 32768 + e.weight

-- A repeated channel (PANEL 5): an arc with its amount.
pub record Load : Type 0 where
  pub arc : Arc
  pub amount : ℕ

-- The arc from a to b with the number w and the amount x.
abbrev pub load_of : ℕ → ℕ → ℕ → ℕ → Load
load_of a b w x = record { arc = arc_of a b w; amount = x }

-- The load of a record as the code holds it, with the amount x.
abbrev pub load_held : Record → ℕ → Load
load_held r x = record { arc = arc_held r; amount = x }

-- The load of a number that holds an arc, with the amount x.
abbrev pub word_load : ℕ → ℕ → Load
word_load k x = record { arc = word_arc k; amount = x }

-- The arcs of a list of loads, in order.
abbrev pub arcs : List Load → List Arc
arcs f = map (λ l. l.arc) f

-- The arcs with their amounts, in order: an arc that has none carries 0.
unfoldable pub loads_of : List Arc → List ℕ → List Load
loads_of [] xs = []
loads_of (e ∷ net) [] = record { arc = e; amount = 0 } ∷ loads_of net []
loads_of (e ∷ net) (x ∷ xs) = record { arc = e; amount = x } ∷ loads_of net xs

-- The sum of amount × g over the loads.
unfoldable pub sum_of : (Arc → ℕ) → List Load → ℕ
sum_of g [] = 0
sum_of g (l ∷ f) = l.amount * g l.arc + sum_of g f

-- The sum of the amounts that leave the vertex v.
abbrev pub leaving : ℕ → List Load → ℕ
leaving v f = sum_of (λ e. delta e.tail v) f

-- The sum of the amounts that enter the vertex v.
abbrev pub entering : ℕ → List Load → ℕ
entering v f = sum_of (λ e. delta e.head v) f

-- The balance of the vertex v (PANEL 5): what leaves it less what enters it.
abbrev pub balance : ℕ → List Load → ℤ
balance v f = pos (leaving v f) -ℤ pos (entering v f)

-- How often the loads touch the vertex v, where the amounts are 0 or 1 and say which arcs are chosen.
abbrev pub degree : ℕ → List Load → ℕ
degree v f = leaving v f + entering v f

-- The sum of weight × amount.
abbrev pub cost : List Load → ℕ
cost f = sum_of (λ e. e.weight) f

-- The total weight of a list of arcs.
unfoldable pub total : List Arc → ℕ
total [] = 0
total (e ∷ es) = e.weight + total es

-- The arc leads from a vertex inside the set to one outside it.
abbrev pub crosses : (ℕ → Bool) → Arc → Bool
crosses inside e = inside e.tail && not (inside e.head)

-- The sum of g over the arcs that lead out of the set.
unfoldable pub sum_across : (Arc → ℕ) → (ℕ → Bool) → List Arc → ℕ
sum_across g inside [] = 0
sum_across g inside (e ∷ net) = g e * indicator (crosses inside e) + sum_across g inside net

-- The capacity of a cut, where weights are capacities.
abbrev pub cut : (ℕ → Bool) → List Arc → ℕ
cut inside net = sum_across (λ e. e.weight) inside net
