-- The promise of specs/Promises.antt, kept.
use mathlib.Core.Path.{refl}
use mathlib.Core.List.{flat_map}
use Rattle.prelude.specs.Lists.{list_to}
use Rattle.prelude.specs.Sums.{sum_to, sum_to_ℤ, all_to}
use Rattle.field.specs.Field.{product}
use Rattle.arc_records.specs.Arcs.{delta}
use Rattle.network.specs.Network.{sum_of, sum_across, loads_of}
use Rattle.network.specs.Tests.{reading_all}
use Rattle.format.specs.Files.{network_file}
use Rattle.worked_examples.specs.Table.{R1, R2, R3, R4, R5, R6, L1, L2, P1, P2, T1}
use Rattle.worked_examples.specs.Promises.{WorkedExamples}
use Rattle.worked_examples.proofs.Routes.{r1_lengths, r4_lengths, t1_lengths}
use Rattle.worked_examples.proofs.Plans.{plan_yields}
use Rattle.worked_examples.proofs.Meetings.{r8_yields, r9_yields}
use Rattle.worked_examples.proofs.Forgeries.{t1_yields}

infixr 5 ◌and◌
◌and◌ : {A B : Type 0} → A → B → A × B
◌and◌ a b = (a, b)

-- the tests of the plans, the keys and the fingerprints of one arc are computed
pub worked_examples_lem : WorkedExamples
unfolding network_file flat_map list_to reading_all loads_of delta sum_of sum_across all_to sum_to sum_to_ℤ product
worked_examples_lem =
    plan_yields R1 refl refl refl refl refl refl tt tt r1_lengths
    and plan_yields R2 refl refl refl refl refl refl tt tt tt
    and plan_yields R3 refl refl refl refl refl refl tt tt tt
    and plan_yields R4 refl refl refl refl refl refl tt tt r4_lengths
    and plan_yields R5 refl refl refl refl refl refl tt tt tt
    and plan_yields R6 refl refl refl refl refl refl tt tt tt
    and record { keyed = refl; taken = (refl, (refl, tt)) }
    and r8_yields
    and r9_yields
    and record { keyed = refl; taken = tt }
    and plan_yields L1 refl refl refl refl refl refl tt tt tt
    and plan_yields L2 refl refl refl refl refl refl tt tt tt
    and plan_yields P1 refl refl refl refl refl refl tt tt tt
    and plan_yields P2 refl refl refl refl refl refl tt tt tt
    and t1_yields (plan_yields T1.plan refl refl refl refl refl refl tt tt t1_lengths)
    and tt
