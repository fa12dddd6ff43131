-- The loop's invariant: the arcs below e were accepted and left y.
use mathlib.Core.Path.{refl, ◌∙◌, ap, subst}
use mathlib.Core.List.{map}
use Prim.Native.Nat.{ℕ}
use native.Mathlib.Omega.{arith}
use Rattle.refusals.specs.Refusals.{number as number_of}
use Rattle.refusals.proofs.Exits.{number_not_0}
use Rattle.session.specs.Session.{fresh}
use Rattle.state.specs.Turns.{read_turn}
use Rattle.state.proofs.Laws.{stays, goes}
use Rattle.session.proofs.TurnsToSteps.{read_replies}
use Rattle.runs.specs.Run.{read}
use Rattle.prelude.specs.Lists.{list_to}
use Rattle.format.specs.Files.{arc_in}
use Rattle.judging_runs.specs.RunsTo.{RunsTo}
use Rattle.judging_runs.proofs.StepLoops.{exit_runs, none_yet, one_accepted, one_refused}
use Rattle.judging_runs.proofs.read_all.Goals as goal

pub loop-e-init : goal.loop-e-init
loop-e-init c =
    none_yet read (arc_in c.args.file.now) (fresh c.args.x) c.count-m.result

pub returns-in_err-y : goal.returns-in_err-y
returns-in_err-y c =
    let y = fresh c.loop-e.y in
    let k = number_of c.in_err-y.field-0.0 in
    exit_runs fresh c.args.x _ _ c.from_residual.ensures.1
    (subst (λ (m : ℕ). RunsTo (fresh c.args.x) (map read (list_to m (arc_in c.args.file.now))) k (fresh c.args.x)) c.count-m.ensures
    (one_refused read (arc_in c.args.file.now) (fresh c.args.x) c.count-m.result y c.loop-e.e c.loop-e.invariant c.loop-e-test.true k _
    ((read_replies y (arc_in c.args.file.now c.loop-e.e) (stays c.loop-e.y k) (c.in_err-y.ensures ∙ ap (read_turn c.loop-e.y) c.arc-arc.ensures)).refused (number_not_0 _)) (number_not_0 _)))

pub loop-e-preserved : goal.loop-e-preserved
loop-e-preserved c =
    let y = fresh c.loop-e.y in
    one_accepted read (arc_in c.args.file.now) (fresh c.args.x) c.count-m.result y c.loop-e.e c.loop-e.invariant c.loop-e-test.true _
    ((read_replies y (arc_in c.args.file.now c.loop-e.e) (goes c.in_ok-y.y) (c.in_ok-y.ensures ∙ ap (read_turn c.loop-e.y) c.arc-arc.ensures)).accepted refl)
