-- The loop's invariant: the records below e pass.
use mathlib.Core.Path.{refl, ◌∙◌, ap}
use native.Mathlib.Omega.{arith}
use Rattle.prelude.specs.Checks.{first_broken}
use Rattle.refusals.specs.Refusals.{why}
use Rattle.refusals.proofs.Exits.{exit_as, number_not_0}
use Rattle.arc_records.specs.Arcs.{Arc}
use Rattle.network.specs.Tests.{reading_checks}
use Rattle.checks.specs.Held.{asked}
use Rattle.format.specs.Files.{count_in, arc_in}
use Rattle.acceptance.proofs.RecordsChecked.{none_checked, one_passes, one_refused, all_pass}
use Rattle.acceptance.proofs.records_check.Goals as goal

pub returns-in_err-reading_check : goal.returns-in_err-reading_check
returns-in_err-reading_check c =
    exit_as why _ _ c.from_residual.ensures.1
    ∙ one_refused (asked c.args.st) (arc_in c.args.net.now) (count_in c.args.net.now) c.loop-e.e _ (omega (arith, c.count-m.ensures))
    (c.in_err-reading_check.ensures ∙ ap (λ (x : Arc). first_broken (reading_checks (asked c.args.st) c.loop-e.e x)) c.arc-arc.ensures) c.loop-e.invariant (number_not_0 _)

pub loop-e-preserved : goal.loop-e-preserved
loop-e-preserved c =
    one_passes (asked c.args.st) (arc_in c.args.net.now) (count_in c.args.net.now) c.loop-e.e 0 (omega (arith, c.count-m.ensures))
    (c.in_ok-reading_check.ensures ∙ ap (λ (x : Arc). first_broken (reading_checks (asked c.args.st) c.loop-e.e x)) c.arc-arc.ensures) c.loop-e.invariant refl

pub returns : goal.returns
returns c =
    all_pass (asked c.args.st) (arc_in c.args.net.now) (count_in c.args.net.now) c.loop-e.e (omega (arith, c.count-m.ensures)) c.loop-e.invariant

pub loop-e-init : goal.loop-e-init
loop-e-init c = none_checked _ _ _
