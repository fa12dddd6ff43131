use mathlib.Core.Path.{refl, ◌∙◌, ap}
use Prim.Native.Nat.{ℕ}
use Rattle.prelude.specs.Checks.{first_broken}
use Rattle.prelude.proofs.Settle.{part_refused, part_passed}
use Rattle.refusals.specs.Refusals.{why}
use Rattle.refusals.proofs.Exits.{exit_as, number_not_0}
use Rattle.format.specs.Files.{count_in}
use Rattle.acceptance.specs.Acceptance.{acceptance_checks}
use Rattle.acceptance.proofs.AcceptedFiles.{acceptance_numbered}
use Rattle.tide_windows.specs.Windows.{windows_in, windows_checks}
use Rattle.calendar.proofs.request_check.Goals as goal

pub returns-in_err-acceptance_check : goal.returns-in_err-acceptance_check
returns-in_err-acceptance_check c =
    exit_as why _ _ c.from_residual.ensures.1
    ∙ part_refused (λ k. k) (acceptance_checks c.args.net.now) (windows_checks (count_in c.args.net.now) (windows_in c.args.windows.now) c.args.minute) 0 (acceptance_numbered c.args.net.now) _ c.in_err-acceptance_check.ensures (number_not_0 _)

pub returns : goal.returns
returns c =
    part_passed (λ k. k) (acceptance_checks c.args.net.now) (windows_checks (count_in c.args.net.now) (windows_in c.args.windows.now) c.args.minute) 0 (acceptance_numbered c.args.net.now) 0 c.in_ok-acceptance_check.ensures refl
    _
    (c.windows_check.ensures ∙ ap (λ (m : ℕ). first_broken (windows_checks m (windows_in c.args.windows.now) c.args.minute)) c.count.ensures)
