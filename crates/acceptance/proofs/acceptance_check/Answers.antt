use mathlib.Core.Path.{refl, ◌∙◌, ap}
use Rattle.prelude.specs.Checks.{first_broken}
use Rattle.refusals.specs.Refusals.{why}
use Rattle.refusals.proofs.Exits.{exit_as, number_not_0}
use Rattle.network.specs.Question.{Setting}
use Rattle.network.specs.Tests.{opening_checks, reading_all}
use Rattle.format.specs.Files.{arcs_in}
use Rattle.acceptance.proofs.AcceptedFiles.{at_layout, at_opening, at_reading}
use Rattle.acceptance.proofs.acceptance_check.Goals as goal

pub returns-in_err-opening_check : goal.returns-in_err-opening_check
returns-in_err-opening_check c =
    exit_as why _ _ c.from_residual-in_err-opening_check.ensures.1
    ∙ at_opening c.args.net.now 0 c.in_ok-network_check.ensures refl _
    (c.in_err-opening_check.ensures ∙ ap (λ (st : Setting). first_broken (opening_checks st)) (c.from.ensures ∙ c.setting-st.ensures)) (number_not_0 _)

pub returns : goal.returns
returns c =
    let net = c.args.net.now in
    at_reading net 0 c.in_ok-network_check.ensures refl 0
    (c.in_ok-opening_check.ensures ∙ ap (λ (st : Setting). first_broken (opening_checks st)) (c.from.ensures ∙ c.setting-st.ensures)) refl
    _ (c.records_check.ensures ∙ ap (λ (st : Setting). first_broken (reading_all st 0 (arcs_in net))) c.setting-st.ensures)

pub returns-in_err-network_check : goal.returns-in_err-network_check
returns-in_err-network_check c =
    exit_as why _ _ c.from_residual.ensures.1 ∙ at_layout c.args.net.now _ c.in_err-network_check.ensures (number_not_0 _)
