-- How a session holds what it has accepted at its pair of points: of the lists of arcs their lengths and fingerprints, of the node numbers an array and words of marks, of the repeated arcs
-- balances and sums (PANEL 6).
use Rattle.std.specs.Prelude.{List, [], ◌∷◌, ℕ, suc, ℤ, pos, length, replicate}
use Rattle.prelude.specs.Lists.{list_to, at}
use Rattle.arc_records.specs.Limits.{most_vertices}
use Rattle.arc_records.specs.Arcs.{Arc}
use Rattle.network.specs.Network.{Load, arcs, balance, sum_of, sum_across}
use Rattle.network.specs.Question.{Setting, asks, unit_cost, units_most}
use Rattle.network.specs.Certificate.{marked}
use Rattle.points.specs.Points.{print_of}
use Rattle.points.specs.declared.Point.{Point}
use Rattle.points.specs.declared.Stream.{Stream}
use Rattle.session_groups.specs.Groups.{phase_reading, phase_read, phase_claimed, marks_after}
use Rattle.state.specs.State.{state_of, held}
use Rattle.session.specs.Session.{arrays_of, joined, holding, void}
use Rattle.session.specs.declared.Arrays.{Arrays}
use Rattle.session.specs.declared.Session.{Session}
use Rattle.runs.specs.AcceptedLists.{AcceptedLists, over, reading, has_read, claimed}

-- A list of arcs: its length and its fingerprint.
abbrev pub stream_of : Point → List Arc → Stream
stream_of r l = record { count = length l; print = print_of r l }

-- The words of marks, where those of the vertices from i on are set by the node numbers.
abbrev pub marks_from : ℕ → List ℕ → List ℤ → List ℕ
marks_from i ms [] = ms
marks_from i ms (z ∷ zs) = marks_from (suc i) (marks_after ms i z) zs

-- The words of marks of a list of node numbers.
abbrev pub marks_of : List ℤ → List ℕ
marks_of ys = marks_from 0 (replicate 4 0) ys

-- The arrays of node numbers and of repeated arcs: the number and the balance of each vertex.
abbrev pub arrays_at : List ℤ → List Load → Arrays
arrays_at ys f = arrays_of (list_to most_vertices (at ys)) (list_to most_vertices (λ v. balance v f))

-- The session that holds what is accepted in a setting at a pair of points.
abbrev pub session_of : Setting → Point → AcceptedLists → Session
session_of st r over = void
session_of st r (reading l) = holding phase_reading (held st) r (stream_of r l)
session_of st r (has_read l) = holding phase_read (held st) r (stream_of r l)
session_of st r (claimed l k ys f) = joined (arrays_at ys f)
    (state_of phase_claimed (record { setting = held st; point = r; list = stream_of r l })
    (record { claim = k; given = length ys; marks = marks_of ys })
    (record {
      list = stream_of r (arcs f);
      cost = pos (sum_of (unit_cost (asks st)) f);
      cut = pos (sum_across (units_most (asks st)) (marked (at ys)) (arcs f));
    }))
