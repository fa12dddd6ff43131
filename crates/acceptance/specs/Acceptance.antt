-- The network files that the panel accepts (PANEL 8).
use Rattle.std.specs.Prelude.{List, ◌++◌, ℕ}
use Rattle.prelude.specs.Checks.{Check, Hold}
use Rattle.network.specs.Tests.{opening_checks, reading_all}
use Rattle.format.specs.Files.{setting_in, arcs_in, network_layout}

-- The checks of a network file that need no point (PANEL 9): of its layout 17 to 19, of its header 1 to 3, and of each record in turn 6 to 8.
abbrev pub acceptance_checks : List ℕ → List Check
acceptance_checks net = network_layout net ++ (opening_checks (setting_in net) ++ reading_all (setting_in net) 0 (arcs_in net))

-- The panel accepts the file (PANEL 8): all of these checks hold.
abbrev pub AcceptedFile : List ℕ → Type 0
AcceptedFile net = Hold (acceptance_checks net)
