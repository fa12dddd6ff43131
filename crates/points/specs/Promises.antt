-- What is promised of fingerprints of arcs at pairs of points (PANEL 4); proofs/Promises.antt keeps it.
use Rattle.std.specs.Prelude.{◌≡◌, ◌↔◌, List, map, ◌≤◌, length}
use Rattle.prelude.specs.Lists.{Every, Perm, AtMost}
use Rattle.field.specs.Field.{Agree}
use Rattle.arc_records.specs.Arcs.{Arc}
use Rattle.network.specs.Network.{key}
use Rattle.network.specs.Question.{Setting, Opened, Allowed}
use Rattle.points.specs.Points.{IsPoint, print_of, same_print, count_points, misleading_points}
use Rattle.points.specs.declared.Point.{Point}

-- Two lists of m arcs that reading accepts and that are no permutations of one another have equal fingerprints at (m - 1) × (m - 1) pairs at most.
abbrev pub FewMislead : Type 0
FewMislead =
    (st : Setting) (net new : List Arc) → Opened st → Every (Allowed st) net → Every (Allowed st) new → length net ≡ length new → ¬ (Perm net new)
    → AtMost (misleading_points (length net)) (λ (x : Point). IsPoint x × (print_of x net ≡ print_of x new))

-- The same as a count over all p × p pairs.
abbrev pub FewMisleadCounted : Type 0
FewMisleadCounted =
    (st : Setting) (net new : List Arc) → Opened st → Every (Allowed st) net → Every (Allowed st) new → length net ≡ length new → ¬ (Perm net new)
    → count_points (λ x. same_print (print_of x net) (print_of x new)) ≤ misleading_points (length net)

-- The fingerprints of two lists agree at a pair exactly where they agree at its first point and at its second: one that tells the lists apart is enough.
abbrev pub BothMislead : Type 0
BothMislead =
    (net new : List Arc) (x : Point)
    → (IsPoint x × (print_of x net ≡ print_of x new)) ↔ (Agree (map key net) (map key new) x.first × Agree (map key net) (map key new) x.second)

-- Permutations have equal fingerprints at every point.
abbrev pub SameEverywhere : Type 0
SameEverywhere = (net new : List Arc) → Perm net new → (x : Point) → print_of x net ≡ print_of x new
