use mathlib.Core.Path.{refl, ◌∙◌}
use mathlib.Core.List.{[], ◌∷◌}
use Rattle.prelude.specs.Checks.{◌unless◌}
use Rattle.network.specs.Tests.{opening_checks}
use Rattle.refusals.specs.Refusals.{number, why}
use Rattle.refusals.proofs.Exits.{exit_as, number_not_0}
use Rattle.points.specs.Points.{point_ok}
use Rattle.checks.specs.Held.{handed}
use Rattle.session_groups.proofs.GroupLaws.{broken_first}
use Rattle.session_groups.proofs.step_checks.open_check.Goals as goal

pub returns-in_err-opening_check : goal.returns-in_err-opening_check
returns-in_err-opening_check c =
    exit_as why _ _ c.from_residual.ensures.1
    ∙ broken_first (opening_checks (handed c.args.o)) (4 unless point_ok c.args.point ∷ []) (refl, (refl, (refl, tt))) (number c.in_err-opening_check.field-0.0) c.in_err-opening_check.ensures (number_not_0 _)
