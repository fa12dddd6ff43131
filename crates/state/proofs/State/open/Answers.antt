use mathlib.Core.Path.{◌≡◌, refl, ◌∙◌, ap}
use Prim.Native.Nat.{◌≤◌}
use native.Mathlib.Omega.{arith}
use Rattle.checks.specs.Held.{handed}
use Rattle.state.specs.State.{idle, open_checks, opened}
use Rattle.state.specs.Turns.{turn_of, open_turn}
use Rattle.refusals.proofs.Exits.{exit_as, number_not_0}
use Rattle.state.proofs.Laws.{turn_refused, turn_accepted, open_small}
use Rattle.state.proofs.State.open.Goals as goal
use Rattle.state.proofs.State.open.Goals.{In_ok-open_check}

-- what opening lets pass fits a byte each
small : (c : In_ok-open_check) → let st = handed c.args.o in (st.question ≤ 255) × (st.n ≤ 255) × (st.s ≤ 255) × (st.t ≤ 255)
small c = open_small (handed c.args.o) c.args.point 0 c.in_ok-open_check.ensures refl

pub returns-in_err-open_check : goal.returns-in_err-open_check
unfolding open_turn
returns-in_err-open_check c =
    exit_as (turn_of idle) _ _ c.from_residual.ensures.1
    ∙ turn_refused idle (opened (handed c.args.o) c.args.point) (open_checks (handed c.args.o) c.args.point) (refl, (refl, (refl, (refl, tt)))) _ c.in_err-open_check.ensures (number_not_0 _)

pub overflow_cast-setting : goal.overflow_cast-setting
overflow_cast-setting c = omega (arith, (small (goal.at.overflow_cast-setting c).In_ok-open_check).0)

pub overflow_cast-setting-2 : goal.overflow_cast-setting-2
overflow_cast-setting-2 c = omega (arith, (small (goal.at.overflow_cast-setting-2 c).In_ok-open_check).1)

pub overflow_cast-setting-3 : goal.overflow_cast-setting-3
overflow_cast-setting-3 c = omega (arith, (small (goal.at.overflow_cast-setting-3 c).In_ok-open_check).2)

pub overflow_cast-setting-4 : goal.overflow_cast-setting-4
overflow_cast-setting-4 c = omega (arith, (small (goal.at.overflow_cast-setting-4 c).In_ok-open_check).3)

pub returns : goal.returns
unfolding open_turn
returns c =
    turn_accepted idle (opened (handed c.args.o) c.args.point) (open_checks (handed c.args.o) c.args.point) (refl, (refl, (refl, (refl, tt)))) 0 c.in_ok-open_check.ensures refl
    c.begun.result c.begun.ensures
