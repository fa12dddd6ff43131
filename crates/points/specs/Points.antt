-- The pair of points of a session and the fingerprint of arcs at it (PANEL 4). Everything that depends on how many points there are is here.
use Rattle.std.specs.Prelude.{Bool, ◌&&◌, List, map, ℕ, ◌+◌, ◌*◌, ◌<◌, eqb, ltb}
use Rattle.prelude.specs.Sums.{count_pairs}
use Rattle.field.specs.Field.{p, fingerprint, extended}
use Rattle.field.specs.Promises.{misleading}
use Rattle.arc_records.specs.Arcs.{Arc}
use Rattle.network.specs.Network.{key}
use Rattle.points.specs.declared.Point.{Point}
use Rattle.points.specs.declared.Print.{Print}
use Rattle.points.specs.declared.Stream.{Stream}

-- The pair of two numbers, the first before the second.
abbrev pub pair : ℕ → ℕ → Point
pair r q = record { first = r; second = q }

-- Both points of the pair are numbers below p; they may be equal (PANEL 4).
abbrev pub IsPoint : Point → Type 0
IsPoint x = (x.first < p) × (x.second < p)

-- The pair that a session holds while it is void: nothing is done at it.
abbrev pub no_point : Point
no_point = pair 0 0

-- Are both below p? (PANEL 6, check 4)
abbrev pub point_ok : Point → Bool
point_ok x = ltb x.first p && ltb x.second p

-- The fingerprint that a list of arcs has at a pair: its product at each of the two points (PANEL 4).
abbrev pub print_of : Point → List Arc → Print
print_of x es = record { first = fingerprint x.first (map key es); second = fingerprint x.second (map key es) }

-- The fingerprint of no arc.
abbrev pub empty_print : Print
empty_print = record { first = 1; second = 1 }

-- A fingerprint with one arc more.
abbrev pub extend_print : Point → Print → Arc → Print
extend_print x f e = record { first = extended x.first f.first (key e); second = extended x.second f.second (key e) }

-- Do two fingerprints agree, in both products? (PANEL 6, check 14)
abbrev pub same_print : Print → Print → Bool
same_print f g = eqb f.first g.first && eqb f.second g.second

-- A list of arcs as the panel keeps it, its length and its fingerprint: the empty list.
abbrev pub empty_stream : Stream
empty_stream = record { count = 0; print = empty_print }

-- A list with one arc more.
abbrev pub extend_stream : Point → Stream → Arc → Stream
extend_stream x m e = record { count = m.count + 1; print = extend_print x m.print e }

-- At how many of the p × p pairs a test holds, pairs of equal points among them (PANEL 12).
abbrev pub count_points : (Point → Bool) → ℕ
count_points test = count_pairs (λ r q. test (pair r q)) p

-- How many pairs may mislead, where m arcs are read: (m - 1) × (m - 1), and none for m 0 or 1 (PANEL 12).
abbrev pub misleading_points : ℕ → ℕ
misleading_points m = misleading m * misleading m
