use mathlib.Core.Path.{ap, ◌∙◌}
use Prim.Native.Nat.{ℕ}
use lib.Dec.{eqb}
use Rattle.prelude.specs.Checks.{first_broken}
use Rattle.arc_records.specs.Arcs.{Arc}
use Rattle.network.specs.Tests.{arc_checks}
use Rattle.refusals.proofs.Exits.{ok_number}
use Rattle.checks.specs.Held.{asked}
use Rattle.cert_instances.proofs.records.record_ok.Goals as goal

pub returns : goal.returns
returns c =
    let st = asked c.args.st in
    c.is_ok.ensures.value ∙ ok_number _ ∙ ap (λ (k : ℕ). eqb k 0) (c.arc_check.ensures ∙ ap (λ (e : Arc). first_broken (arc_checks st e)) c.arc_in.ensures)
