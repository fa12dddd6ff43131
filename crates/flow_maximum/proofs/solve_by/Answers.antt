use mathlib.Core.Path.{◌≡◌, sym}
use mathlib.Core.Bool.{false}
use Rattle.std.proofs.Common.{rules}
use Rattle.std.specs.Prelude.{is_ok}
use Rattle.flow_maximum.proofs.CallOutcomes.{Went, went, solve_refused, solve_ready, solve_ends}
use Rattle.flow_maximum.proofs.solve_by.Goals as goal
use Rattle.flow_maximum.proofs.solve_by.Goals.{In_ok-preflow}

moved : (c : In_ok-preflow) → Went c.args.arcs.now c.args.s c.args.t c.args.supply c.args.x.now c.args.key.now c.preflow.new.x c.preflow.new.left c.preflow.new.out c.preflow.new.into
moved c = went _ _ _ _ _ _ _ _ _ c.requires.0 c.requires.1 c.requires.2 c.in_ok-preflow.ensures

pub returns-in_err-preflow : goal.returns-in_err-preflow
returns-in_err-preflow c =
    let failed : is_ok c.from_residual.result ≡ false = search rules in
    rw failed (solve_refused _ _ _ _ _ _ _ _ _ c.requires.0 c.requires.1 c.requires.2 c.in_err-preflow.ensures)

pub finish-requires-clause-solve_ready : goal.finish-requires-clause-solve_ready
finish-requires-clause-solve_ready c = solve_ready (moved (goal.at.finish-requires-clause-solve_ready c).In_ok-preflow)

pub finish-requires-clause-chains : goal.finish-requires-clause-chains
finish-requires-clause-chains c =
    let w = moved (goal.at.finish-requires-clause-chains c).In_ok-preflow in (w.by_tail, w.by_head, sym w.left_len)

pub returns : goal.returns
returns c = solve_ends (moved (goal.at.returns c).In_ok-preflow) c.finish.ensures
