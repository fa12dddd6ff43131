use mathlib.Core.Path.{refl, sym, subst, ◌∙◌}
use native.Mathlib.Omega.{arith}
use Rattle.match_rounds.specs.Serving.{Served}
use Rattle.match_rounds.proofs.Serving.{state_at, pass_start, pass_on, pass_stuck, pass_end}
use Rattle.match_rounds.proofs.pass.Goals as goal

pub loop-t-init : goal.loop-t-init
loop-t-init c = (pass_start refl c.requires.state, refl, refl, c.requires.step_nonzero.2, c.requires.step_nonzero.3, c.requires.rows.0)

pub serve_exposed-requires : goal.serve_exposed-requires
serve_exposed-requires c =
    let P = c.loop-t.invariant.0 in
    record {
      state = state_at P.dist_len P.state.priced.len P.state;
      rows = (c.loop-t.invariant.5, c.requires.rows.1, omega (arith, c.requires.rows.2, P.dist_len));
      dist_len_bound = (
        omega (arith, P.from, P.dist_len),
        omega (arith, c.loop-t-test.true, P.state.priced.len, P.state.pairs.len),
        omega (arith, c.loop-t.invariant.3, P.dist_len),
        omega (arith, c.loop-t.invariant.4, P.dist_len),
      );
    }

-- the lengths of rows, mate, pi, dist, par and order stay
pub shape_of-rows-then-not-serve_exposed : goal.shape_of-rows-then-not-serve_exposed
shape_of-rows-then-not-serve_exposed c =
    omega (
      arith,
      c.serve_exposed.ensures.rows_2.len,
      c.requires.rows.0.len,
    )

pub shape_of-mate-then-not-serve_exposed : goal.shape_of-mate-then-not-serve_exposed
shape_of-mate-then-not-serve_exposed c =
    c.serve_exposed.auto.mate ∙ c.loop-t.invariant.1

pub shape_of-pi-then-not-serve_exposed : goal.shape_of-pi-then-not-serve_exposed
shape_of-pi-then-not-serve_exposed c =
    c.serve_exposed.auto.pi ∙ c.loop-t.invariant.2

pub shape_of-dist-then-not-serve_exposed : goal.shape_of-dist-then-not-serve_exposed
shape_of-dist-then-not-serve_exposed c =
    c.serve_exposed.auto.dist ∙ c.loop-t.invariant.0.dist_len

pub shape_of-par-then-not-serve_exposed : goal.shape_of-par-then-not-serve_exposed
shape_of-par-then-not-serve_exposed c =
    c.serve_exposed.auto.par ∙ c.loop-t.invariant.3 ∙ sym c.requires.step_nonzero.2

pub shape_of-order-then-not-serve_exposed : goal.shape_of-order-then-not-serve_exposed
shape_of-order-then-not-serve_exposed c =
    c.serve_exposed.auto.order ∙ c.loop-t.invariant.4 ∙ sym c.requires.step_nonzero.3

pub returns-then-not-serve_exposed : goal.returns-then-not-serve_exposed
returns-then-not-serve_exposed c =
    let P = c.loop-t.invariant.0 in
    record {
      pass_outcome = pass_stuck P.dist_len P.state.priced.len P (omega (arith, c.loop-t-test.true, P.state.pairs.len))
          (subst (Served _ _ _ _ _ _ _ _ _ _) c.if-not-serve_exposed.true c.serve_exposed.ensures.served);
      in_mate = omega (arith, c.loop-t-test.true, c.loop-t.invariant.1);
      rows_2 = c.serve_exposed.ensures.rows_2;
    }

pub overflow_add-t : goal.overflow_add-t
overflow_add-t c =
    let S = c.loop-t.invariant.0.state in
    record { fits = omega (arith, c.loop-t-test.true, S.pairs.len, S.graph.small, c.requires.step_nonzero.1) }

pub loop-t-smaller : goal.loop-t-smaller
loop-t-smaller c =
    omega (arith, c.loop-t-test.true, c.loop-t.invariant.0.state.pairs.len, c.requires.step_nonzero.0)

pub loop-t-preserved : goal.loop-t-preserved
loop-t-preserved c =
    let P = c.loop-t.invariant.0 in (
      pass_on P.dist_len P.state.priced.len P (omega (arith, c.loop-t-test.true, P.state.pairs.len)) c.requires.step_nonzero.1
          (subst (Served _ _ _ _ _ _ _ _ _ _) c.if-not-serve_exposed.false c.serve_exposed.ensures.served),
      c.serve_exposed.auto.mate ∙ c.loop-t.invariant.1,
      c.serve_exposed.auto.pi ∙ c.loop-t.invariant.2,
      c.serve_exposed.auto.par ∙ c.loop-t.invariant.3,
      c.serve_exposed.auto.order ∙ c.loop-t.invariant.4,
      c.serve_exposed.ensures.rows_2,
    )

pub returns : goal.returns
returns c =
    let P = c.loop-t.invariant.0 in
    record { pass_outcome = pass_end P (omega (arith, c.loop-t-test.false, P.state.pairs.len)); in_mate = tt; rows_2 = c.loop-t.invariant.5 }

pub shape_of-rows : goal.shape_of-rows
shape_of-rows c = omega (arith, c.loop-t.invariant.5.len, c.requires.rows.0.len)

pub shape_of-mate : goal.shape_of-mate
shape_of-mate c = c.loop-t.invariant.1

pub shape_of-pi : goal.shape_of-pi
shape_of-pi c = c.loop-t.invariant.2

pub shape_of-dist : goal.shape_of-dist
shape_of-dist c = c.loop-t.invariant.0.dist_len

pub shape_of-par : goal.shape_of-par
shape_of-par c = c.loop-t.invariant.3 ∙ sym c.requires.step_nonzero.2

pub shape_of-order : goal.shape_of-order
shape_of-order c = c.loop-t.invariant.4 ∙ sym c.requires.step_nonzero.3
