-- At each place where it ends, what it gives is what the definition gives.
use mathlib.Core.Path.{refl, ◌∙◌}
use Rattle.refusals.specs.Refusals.{number}
use Rattle.refusals.proofs.Exits.{exit_as, number_not_0}
use Rattle.state.specs.State.{idle}
use Rattle.state.specs.Results.{verdict}
use Rattle.state.proofs.Laws.{stays, goes}
use Rattle.judging.proofs.JudgeReturns.{at_layout, at_opening, at_reading, at_annotation, at_steps}
use Rattle.judging.proofs.judge.Goals as goal

pub returns-in_err-network_check : goal.returns-in_err-network_check
returns-in_err-network_check c =
    exit_as verdict _ _ c.from_residual.ensures.1
    ∙ at_layout c.args.net.now c.args.ann.now c.args.point _ c.in_err-network_check.ensures (number_not_0 _)

pub returns-in_err-opened : goal.returns-in_err-opened
returns-in_err-opened c =
    exit_as verdict _ _ c.from_residual-in_err-opened.ensures.1
    ∙ at_opening c.args.net.now c.args.ann.now c.args.point 0 c.in_ok-network_check.ensures refl c.from.result (c.from.ensures ∙ c.setting.ensures)
    (stays idle (number c.in_err-opened.field-0.0)) c.in_err-opened.ensures (number_not_0 _)

pub returns-in_err-read : goal.returns-in_err-read
returns-in_err-read c =
    exit_as verdict _ _ c.from_residual-in_err-read.ensures.1
    ∙ at_reading c.args.net.now c.args.ann.now c.args.point 0 c.in_ok-network_check.ensures refl c.from.result (c.from.ensures ∙ c.setting.ensures) (goes c.in_ok-opened.opened) c.in_ok-opened.ensures refl
    _ _ c.in_err-read.ensures (number_not_0 _)

pub returns-in_err-annotation_check : goal.returns-in_err-annotation_check
returns-in_err-annotation_check c =
    exit_as verdict _ _ c.from_residual-in_err-annotation_check.ensures.1
    ∙ at_annotation c.args.net.now c.args.ann.now c.args.point 0 c.in_ok-network_check.ensures refl c.from.result (c.from.ensures ∙ c.setting.ensures) (goes c.in_ok-opened.opened) c.in_ok-opened.ensures refl 0 _ c.in_ok-read.ensures refl
    _ c.vertices-n.result c.vertices-n.ensures c.in_err-annotation_check.ensures (number_not_0 _)

pub returns : goal.returns
returns c =
    at_steps c.args.net.now c.args.ann.now c.args.point 0 c.in_ok-network_check.ensures refl c.from.result (c.from.ensures ∙ c.setting.ensures) (goes c.in_ok-opened.opened) c.in_ok-opened.ensures refl 0 _ c.in_ok-read.ensures refl
    0 c.vertices-n.result c.vertices-n.ensures c.in_ok-annotation_check.ensures refl _ c.annotation_steps.ensures
