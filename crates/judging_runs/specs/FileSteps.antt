-- The steps that the two files hold, in file order (PANEL 8).
use Rattle.std.specs.Prelude.{List, [], ◌∷◌, ◌++◌, map, ℕ}
use Rattle.format.specs.Files.{arcs_in, claim_in, numbers_in, loads_in}
use Rattle.runs.specs.Run.{Step, read, end, claim, number, repeat, finish}

-- The steps of a network file after opening: its records are read in file order.
abbrev pub steps_of_network : List ℕ → List Step
steps_of_network net = map read (arcs_in net)

-- The steps of an annotation file with n node numbers, from the end of reading to finishing, in file order.
abbrev pub steps_in : ℕ → List ℕ → List Step
steps_in n ann = end ∷ claim (claim_in ann) ∷ (map number (numbers_in n ann) ++ (map repeat (loads_in n ann) ++ (finish ∷ [])))
