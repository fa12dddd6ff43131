-- The network of a minute: what is left of each arc, open or closed (PANEL 14).
use Rattle.std.specs.Prelude.{Bool, List, [], ◌∷◌, ◌++◌, ℕ, suc}
use Rattle.prelude.specs.Choice.{pick}
use Rattle.arc_records.specs.Arcs.{Arc, arc_of}
use Rattle.network.specs.Question.{Question, shortest_path, maximum_flow, assignment, acyclicity, unasked, asks}
use Rattle.format.specs.Files.{setting_in, arcs_in}
use Rattle.tide_windows.specs.Windows.{Window, is_open}

-- The arc with the capacity 0.
abbrev pub emptied : Arc → Arc
emptied e = arc_of e.tail e.head 0

-- What is left of a closed arc (PANEL 14): for a discharge the arc with the capacity 0, for the other questions nothing.
abbrev pub closed_for : Question → Arc → List Arc
closed_for shortest_path e = []
closed_for maximum_flow e = emptied e ∷ []
closed_for assignment e = []
closed_for acyclicity e = []
closed_for unasked e = []

-- What is left of an arc that is open or closed.
abbrev pub left_for : Question → Bool → Arc → List Arc
left_for q opened e = pick opened (e ∷ []) (closed_for q e)

-- What is left of each arc, in their order, where the first has the position k.
unfoldable pub left_from : Question → (ℕ → Bool) → ℕ → List Arc → List Arc
left_from q opened k [] = []
left_from q opened k (e ∷ net) = left_for q (opened k) e ++ left_from q opened (suc k) net

-- The network of the minute t (PANEL 14).
abbrev pub scheduled : Question → List Window → ℕ → List Arc → List Arc
scheduled q ws t net = left_from q (is_open ws t) 0 net

-- The open arcs alone, in their order, where the first has the position k.
unfoldable pub open_from : (ℕ → Bool) → ℕ → List Arc → List Arc
open_from opened k [] = []
open_from opened k (e ∷ net) = pick (opened k) (e ∷ open_from opened (suc k) net) (open_from opened (suc k) net)

-- The arcs that are open at the minute t, with nothing of the closed ones.
abbrev pub open_alone : List Window → ℕ → List Arc → List Arc
open_alone ws t net = open_from (is_open ws t) 0 net

-- The network of the minute t for a network file.
abbrev pub arcs_at : List ℕ → List Window → ℕ → List Arc
arcs_at net ws t = scheduled (asks (setting_in net)) ws t (arcs_in net)
