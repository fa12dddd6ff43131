use native.Mathlib.Omega.{arith}
use Rattle.prelude.proofs.Tested.{not_on, not_off}
use Rattle.flow_moves.proofs.Conserving.{out_links, into_links}
use Rattle.flow_preflow.proofs.Outcomes.{Passed, preflow_refused, preflow_passed, preflow_facts, by_tail, by_head, supplied_len, supplied, preflow_moved}
use Rattle.flow_preflow.proofs.preflow.Goals as goal
use Rattle.flow_preflow.proofs.preflow.Goals.{Else-not-is_preflowable}

passed : (c : Else-not-is_preflowable) → Passed c.args.arcs.now c.args.s c.args.t c.args.supply c.args.x.now c.args.left.now c.args.out.now c.args.into.now
passed c =
    preflow_passed c.args.arcs.now c.args.s c.args.t c.args.supply c.args.x.now c.args.left.now c.args.out.now c.args.into.now _
    c.is_preflowable.ensures (not_on _ c.if-not-is_preflowable.false)

pub returns-then-not-is_preflowable : goal.returns-then-not-is_preflowable
returns-then-not-is_preflowable c =
    preflow_refused c.args.arcs.now c.args.s c.args.t c.args.supply c.args.x.now c.args.left.now c.args.out.now c.args.into.now _
    c.is_preflowable.ensures (not_off _ c.if-not-is_preflowable.true)

pub stand_at-requires : goal.stand_at-requires
stand_at-requires c = (preflow_facts (passed (goal.at.stand_at-requires c).Else-not-is_preflowable)).source

pub invariant_of-push_all : goal.invariant_of-push_all
invariant_of-push_all c =
    let P = passed (goal.at.invariant_of-push_all c).Else-not-is_preflowable in record {
      out_links = out_links (by_tail P c.index_packed.ensures.1);
      into_links = into_links (by_head P c.index_packed-2.ensures.1);
    }

pub push_all-requires : goal.push_all-requires
push_all-requires c =
    let P = passed (goal.at.push_all-requires c).Else-not-is_preflowable in
    let f = preflow_facts P in
    let len = supplied_len P c.stand_at.ensures in record {
      s_in_bounds = (omega (arith, len, f.source), omega (arith, len, f.sink));
      ready = supplied P c.stand_at.ensures;
    }

pub returns : goal.returns
returns c =
    preflow_moved (passed (goal.at.returns c).Else-not-is_preflowable) c.stand_at.ensures c.index_packed.ensures.1
    c.index_packed-2.ensures.1 c.push_all.ensures
