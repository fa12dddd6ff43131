-- What the helper asks of a network file and of the buffer before it writes (PANEL 9).
use Rattle.std.specs.Prelude.{List, [], ◌∷◌, ◌++◌, ℕ, leb}
use Rattle.prelude.specs.Checks.{Check, ◌unless◌}
use Rattle.format.specs.Files.{n_in, count_in, annotation_size}
use Rattle.acceptance.specs.Acceptance.{acceptance_checks}

-- The length of the annotation of a network file (PANEL 7).
abbrev pub size_for : List ℕ → ℕ
size_for net = annotation_size (n_in net) (count_in net)

-- The checks by which the panel accepts the file, then 20 (PANEL 9): is there room for the annotation?
abbrev pub annotate_checks : List ℕ → ℕ → List Check
annotate_checks net room = acceptance_checks net ++ (20 unless leb (size_for net) room ∷ [])
