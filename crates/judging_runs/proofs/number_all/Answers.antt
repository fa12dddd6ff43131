-- The loop's invariant: the numbers below v were accepted and left the potentials and y.
use mathlib.Core.Path.{refl, ◌∙◌, ap}
use mathlib.Core.List.{List}
use native.Mathlib.Omega.{arith}
use lib.IntN.{ℤ}
use lib.ListN.{set}
use mir.Syntax.{w32}
use Rattle.words.proofs.Signs.{back}
use Rattle.refusals.specs.Refusals.{number as number_of}
use Rattle.refusals.proofs.Exits.{number_not_0}
use Rattle.session.specs.Session.{with_potentials, zero_arrays, joined, accept}
use Rattle.session.specs.declared.Session.{Session}
use Rattle.state.specs.Turns.{number_turn}
use Rattle.state.specs.declared.State.{State}
use Rattle.state.proofs.Laws.{stays, goes}
use Rattle.session.proofs.TurnsToSteps.{number_replies}
use Rattle.runs.specs.Run.{number}
use Rattle.format.specs.Files.{number_in}
use Rattle.judging_runs.proofs.StepLoops.{exit_runs, none_yet, one_accepted, one_refused}
use Rattle.judging_runs.proofs.number_all.Goals as goal

-- the session of node numbers and a state, with nothing repeated
abbrev numbered : List ℤ → State → Session
numbered ys x = joined (with_potentials zero_arrays ys) x

pub loop-v-init : goal.loop-v-init
loop-v-init c =
    none_yet number (number_in c.args.file.now) (numbered c.args.potentials.now c.args.x) c.args.n

pub returns-in_err-next : goal.returns-in_err-next
returns-in_err-next c =
    let y = numbered c.loop-v.potentials c.loop-v.y in
    let k = number_of c.in_err-next.field-0.0 in
    let same = back w32 c.number-z.result c.number-z.type_inv ∙ c.number-z.ensures in
    exit_runs (numbered c.loop-v.potentials) c.args.x _ _ c.from_residual.ensures.1
    (one_refused number (number_in c.args.file.now) (numbered c.args.potentials.now c.args.x) c.args.n y c.loop-v.v c.loop-v.invariant c.loop-v-test.true k _
    ((number_replies y (number_in c.args.file.now c.loop-v.v) (stays c.loop-v.y k) (c.in_err-next.ensures ∙ ap (number_turn c.loop-v.y) same)).refused (number_not_0 _)) (number_not_0 _))

pub loop-v-preserved : goal.loop-v-preserved
loop-v-preserved c =
    let y = numbered c.loop-v.potentials c.loop-v.y in
    let same = back w32 c.number-z.result c.number-z.type_inv ∙ c.number-z.ensures in
    one_accepted number (number_in c.args.file.now) (numbered c.args.potentials.now c.args.x) c.args.n y c.loop-v.v c.loop-v.invariant c.loop-v-test.true _
    (ap (λ (ys : List ℤ). accept (numbered ys c.in_ok-next.next)) (c.store_number.ensures ∙ ap (λ (z : ℤ). set c.loop-v.potentials c.loop-v.y.numbering.given z) same)
    ∙ (number_replies y (number_in c.args.file.now c.loop-v.v) (goes c.in_ok-next.next) (c.in_ok-next.ensures ∙ ap (number_turn c.loop-v.y) same)).accepted refl)
