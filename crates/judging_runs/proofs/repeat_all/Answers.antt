-- The loop's invariant: the loads below e were accepted and left the balances and y.
use mathlib.Core.Path.{◌≡◌, refl, ◌∙◌, ap, subst}
use mathlib.Core.List.{List, map}
use Prim.Native.Nat.{ℕ}
use native.Mathlib.Omega.{arith}
use lib.IntN.{ℤ}
use Rattle.prelude.specs.Lists.{at}
use Rattle.refusals.specs.Refusals.{number as number_of}
use Rattle.refusals.proofs.Exits.{number_not_0}
use Rattle.network.specs.Network.{Load}
use Rattle.session.specs.Session.{arrays_of, joined, accept}
use Rattle.session.specs.declared.Session.{Session}
use Rattle.vertex_arrays.specs.Arrays.{moved}
use Rattle.state.specs.Turns.{Turn, repeat_turn}
use Rattle.state.specs.declared.State.{State}
use Rattle.state.proofs.Laws.{stays, goes}
use Rattle.session.proofs.TurnsToSteps.{repeat_replies}
use Rattle.runs.specs.Run.{repeat}
use Rattle.prelude.specs.Lists.{list_to}
use Rattle.format.specs.Files.{load_in}
use Rattle.judging_runs.specs.RunsTo.{RunsTo}
use Rattle.judging_runs.proofs.StepLoops.{exit_runs, none_yet, one_accepted, one_refused}
use Rattle.judging_runs.proofs.repeat_all.Goals as goal

-- the session of node numbers, balances and a state
abbrev held : List ℤ → List ℤ → State → Session
held ys bs x = joined (arrays_of ys bs) x

-- the turn of a load is that of an equal one
same_turn : (x : State) (y : ℕ → ℤ) {u : Turn} {k l : Load} → u ≡ repeat_turn x y k → k ≡ l → u ≡ repeat_turn x y l
same_turn x y e f = e ∙ ap (repeat_turn x y) f

pub loop-e-init : goal.loop-e-init
loop-e-init c =
    none_yet repeat (load_in c.args.n c.args.file.now) (held c.args.potentials.now c.args.balances.now c.args.x) c.count-m.result

pub returns-in_err-y : goal.returns-in_err-y
returns-in_err-y c =
    let ys = c.args.potentials.now in
    let x = held ys c.args.balances.now c.args.x in
    let y = held ys c.loop-e.balances c.loop-e.y in
    let k = number_of c.in_err-y.field-0.0 in
    exit_runs (held ys c.loop-e.balances) c.args.x _ _ c.from_residual.ensures.1
    (subst (λ (m : ℕ). RunsTo x (map repeat (list_to m (load_in c.args.n c.args.file.now))) k (held ys c.loop-e.balances c.args.x)) c.count-m.ensures
    (one_refused repeat (load_in c.args.n c.args.file.now) x c.count-m.result y c.loop-e.e c.loop-e.invariant c.loop-e-test.true k _
    ((repeat_replies y (load_in c.args.n c.args.file.now c.loop-e.e) (stays c.loop-e.y k) (same_turn c.loop-e.y (at ys) c.in_err-y.ensures c.load-l.ensures)).refused (number_not_0 _)) (number_not_0 _)))

pub loop-e-preserved : goal.loop-e-preserved
loop-e-preserved c =
    let ys = c.args.potentials.now in
    let y = held ys c.loop-e.balances c.loop-e.y in
    one_accepted repeat (load_in c.args.n c.args.file.now) (held ys c.args.balances.now c.args.x) c.count-m.result y c.loop-e.e c.loop-e.invariant c.loop-e-test.true _
    (ap (λ (bs : List ℤ). accept (held ys bs c.in_ok-y.y))
    (c.move_amount.ensures ∙ ap (λ (b : Load). moved c.loop-e.balances b.arc.tail b.arc.head b.amount) c.load-l.ensures)
    ∙ (repeat_replies y (load_in c.args.n c.args.file.now c.loop-e.e) (goes c.in_ok-y.y) (same_turn c.loop-e.y (at ys) c.in_ok-y.ensures c.load-l.ensures)).accepted refl)
