-- Judging two files at a pair of points: by the checks in their order, and by the steps of a session (PANEL 8).
use Rattle.std.specs.Prelude.{List, ◌∷◌, ◌++◌, ℕ, ℤ, length}
use Rattle.prelude.specs.Checks.{Check, settle}
use Rattle.network.specs.Network.{Load}
use Rattle.network.specs.Tests.{reading_all, claim_of, answer_of}
use Rattle.points.specs.Points.{IsPoint}
use Rattle.points.specs.declared.Point.{Point}
use Rattle.format.specs.Files.{setting_in, n_in, arcs_in, claim_in, numbers_in, loads_in, network_layout, annotation_layout}
use Rattle.state.specs.Answers.{Said, accepted, gives, refused, said}
use Rattle.state.specs.State.{open_checks}
use Rattle.session.specs.Steps.{opening}
use Rattle.runs.specs.Run.{run, session_after, Wrong}
use Rattle.runs.specs.AcceptedLists.{sums_at}
use Rattle.runs.specs.Exchange.{outcome, annotation_rules, final_rules}
use Rattle.judging_runs.specs.FileSteps.{steps_of_network, steps_in}

-- ---- by the checks

-- The node numbers and the repeated arcs of an annotation file: the network file says how many node numbers there are.
abbrev pub numbers_for : List ℕ → List ℕ → List ℤ
numbers_for net ann = numbers_in (n_in net) ann

abbrev pub loads_for : List ℕ → List ℕ → List Load
loads_for net ann = loads_in (n_in net) ann

-- The network file comes first: its layout, checks 17, 18, 19; opening with its header at the points, checks 1 to 4; its records in file order, checks 6, 7, 8 for each.
abbrev pub network_checks : List ℕ → Point → List Check
network_checks net r =
    network_layout net
    ++ (open_checks (setting_in net) r
    ++ reading_all (setting_in net) 0 (arcs_in net))

-- Then the annotation file: its layout, checks 17, 18, 19; in file order its claim, check 9, its node numbers, 5 and 10 for each, its repeated records, 5 to 8, 11 and 12 for each; finishing, 5 and 13 to 16.
abbrev pub annotation_checks : List ℕ → List ℕ → Point → List Check
annotation_checks net ann r =
    annotation_layout (n_in net) ann
    ++ (annotation_rules (setting_in net) (length (arcs_in net)) (claim_in ann) (numbers_for net ann) (loads_for net ann)
    ++ final_rules (setting_in net) r (arcs_in net) (claim_in ann) (numbers_for net ann) (loads_for net ann))

-- The first check that refuses decides, and nothing after it counts; where none refuses, the answer is that of finishing.
abbrev pub judged : List ℕ → List ℕ → Point → Said
judged net ann r =
    settle refused (network_checks net r ++ annotation_checks net ann r)
    (gives (answer_of (setting_in net) (claim_of (claim_in ann)) (sums_at (setting_in net) (numbers_for net ann) (loads_for net ann))))

-- ---- by the steps of a session

-- One after the other: an acceptance leaves it to what comes after, an answer and a refusal stand.
abbrev pub and_then : Said → Said → Said
and_then accepted b = b
and_then (gives a) b = gives a
and_then (refused k) b = refused k

-- The two files through a session: the layout of the network file; opening at the points, and the records read; the layout of the annotation file; its steps. The first refusal is given.
abbrev pub judged_by_steps : List ℕ → List ℕ → Point → Said
judged_by_steps net ann r =
    let o = opening (setting_in net) r in
    settle refused (network_layout net)
    (and_then (outcome (said o.answer ∷ run o.session (steps_of_network net)))
    (settle refused (annotation_layout (n_in net) ann)
    (outcome (run (session_after o.session (steps_of_network net)) (steps_in (n_in net) ann)))))

-- ---- what demand 3 counts

-- A pair of points counts where judging gives an answer there that is not the true one of the network file (PANEL 12, demand 3).
abbrev pub JudgedWrong : List ℕ → List ℕ → Point → Type 0
JudgedWrong net ann r = IsPoint r × Wrong (setting_in net) (arcs_in net) (judged net ann r)
