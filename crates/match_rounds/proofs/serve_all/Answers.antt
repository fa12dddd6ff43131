use mathlib.Core.Path.{refl, ◌∙◌}
use native.Mathlib.Omega.{arith}
use Rattle.match_rounds.proofs.Serving.{state_at, next_step, passes_start, passes_on, passes_end, pass_failed, pass_at}
use Rattle.match_rounds.proofs.serve_all.Goals as goal

pub loop-step-init : goal.loop-step-init
loop-step-init c = (passes_start refl c.requires.state, refl, refl, refl, c.requires.rows.0)

pub pass-requires : goal.pass-requires
pass-requires c =
    let P = c.loop-step.invariant.0 in
    let N = next_step P.step c.loop-step-test.true in
    record {
      state = state_at P.dist_len P.state.priced.len P.state;
      rows = (c.loop-step.invariant.4, c.requires.rows.1, omega (arith, c.requires.rows.2, P.dist_len));
      step_nonzero = (N.1, N.2, omega (arith, c.loop-step.invariant.2, c.requires.par_len.0, P.dist_len), omega (arith, c.loop-step.invariant.3, c.requires.par_len.1, P.dist_len));
    }

-- the lengths of rows, mate, pi, dist, par and order stay
pub shape_of-rows-in-Some : goal.shape_of-rows-in-Some
shape_of-rows-in-Some c =
    omega (
      arith,
      c.in-Some.ensures.rows_2.len,
      c.requires.rows.0.len,
    )

pub shape_of-mate-in-Some : goal.shape_of-mate-in-Some
shape_of-mate-in-Some c =
    c.pass.auto.mate ∙ c.loop-step.invariant.1

pub shape_of-pi-in-Some : goal.shape_of-pi-in-Some
shape_of-pi-in-Some c =
    c.pass.auto.pi ∙ c.loop-step.invariant.0.state.priced.len

pub shape_of-dist-in-Some : goal.shape_of-dist-in-Some
shape_of-dist-in-Some c =
    c.pass.auto.dist ∙ c.loop-step.invariant.0.dist_len

pub shape_of-par-in-Some : goal.shape_of-par-in-Some
shape_of-par-in-Some c =
    c.pass.auto.par ∙ c.loop-step.invariant.2

pub shape_of-order-in-Some : goal.shape_of-order-in-Some
shape_of-order-in-Some c =
    c.pass.auto.order ∙ c.loop-step.invariant.3

pub returns-in-Some : goal.returns-in-Some
returns-in-Some c =
    let P = c.loop-step.invariant.0 in
    let O = pass_at P.dist_len P.state.priced.len c.in-Some.ensures.pass_outcome in
    record {
      pass_outcome = pass_failed O (omega (arith, c.in-Some.ensures.in_mate, P.state.pairs.len));
      in_mate = omega (arith, c.in-Some.ensures.in_mate, c.loop-step.invariant.1);
      rows_2 = c.in-Some.ensures.rows_2;
    }

pub loop-step-smaller : goal.loop-step-smaller
loop-step-smaller c = omega (arith, c.loop-step-test.true)

pub loop-step-preserved : goal.loop-step-preserved
loop-step-preserved c =
    let P = c.loop-step.invariant.0 in
    let O = pass_at P.dist_len P.state.priced.len c.in_default.ensures.pass_outcome in
    let N = next_step P.step c.loop-step-test.true in (
      passes_on N.0 O (omega (arith, P.state.priced.len)),
      c.pass.auto.mate ∙ c.loop-step.invariant.1,
      c.pass.auto.par ∙ c.loop-step.invariant.2,
      c.pass.auto.order ∙ c.loop-step.invariant.3,
      c.in_default.ensures.rows_2,
    )

pub returns : goal.returns
returns c =
    let P = c.loop-step.invariant.0 in
    record { pass_outcome = passes_end P (omega (arith, c.loop-step-test.false)); in_mate = tt; rows_2 = c.loop-step.invariant.4 }

pub shape_of-rows : goal.shape_of-rows
shape_of-rows c = omega (arith, c.loop-step.invariant.4.len, c.requires.rows.0.len)

pub shape_of-mate : goal.shape_of-mate
shape_of-mate c = c.loop-step.invariant.1

pub shape_of-pi : goal.shape_of-pi
shape_of-pi c = c.loop-step.invariant.0.state.priced.len

pub shape_of-dist : goal.shape_of-dist
shape_of-dist c = c.loop-step.invariant.0.dist_len

pub shape_of-par : goal.shape_of-par
shape_of-par c = c.loop-step.invariant.2

pub shape_of-order : goal.shape_of-order
shape_of-order c = c.loop-step.invariant.3
