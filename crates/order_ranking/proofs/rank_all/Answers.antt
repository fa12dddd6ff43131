-- The loop's invariant: r vertices have a rank, and those on the path have none. Each turn gives one.
use mathlib.Core.Path.{refl}
use native.Mathlib.Omega.{arith}
use Rattle.order_path.proofs.Rankings.{arcs_as, searching_none, ranking_none, one_left, progress_more}
use Rattle.order_ranking.proofs.rank_all.Goals as goal

pub loop-first-init : goal.loop-first-init
loop-first-init c =
    record {
      size = refl;
      searching = searching_none c.requires.chained.0 c.requires.chained.1 c.requires.ranks_value.1 c.requires.ranks_value.2;
      ranking = ranking_none c.args.ranks.now c.requires.ranks_value.0;
      passed = λ u h. absurd (omega arith);
    }

pub loop-first-smaller : goal.loop-first-smaller
loop-first-smaller c =
    let arcs = arcs_as c.loop-first.invariant.size c.requires.chained.0.arcs in
    omega (arith, one_left arcs c.climb-len.ensures c.loop-first.invariant.ranking _ refl c.if-into-v-lt-NO_ARC.false, c.loop-first.invariant.size)

pub loop-first-preserved : goal.loop-first-preserved
loop-first-preserved c =
    let arcs = arcs_as c.loop-first.invariant.size c.requires.chained.0.arcs in
    progress_more arcs c.climb-len.ensures c.loop-first.invariant.ranking _ refl c.if-into-v-lt-NO_ARC.false c.loop-first.invariant.size c.in-Some.ensures.0
