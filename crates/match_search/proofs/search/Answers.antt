use mathlib.Core.Path.{sym, ap, subst, ◌∙◌}
use Prim.Native.Nat.{ℕ, ◌<◌}
use native.Mathlib.Omega.{arith}
use lib.ListN.{length, replicate}
use Rattle.std.specs.Prelude.{IfSome}
use Rattle.packed_arcs.specs.Entries.{entry}
use Rattle.arc_index.specs.Columns.{record_tails}
use Rattle.arc_index.proofs.Columns.{tails_len}
use Rattle.match_search.proofs.SearchSteps.{growing_start, ended, left, matched_arc, growing_on, rescanned, redistanced}
use Rattle.match_search.proofs.search.Goals as goal
use Rattle.match_search.proofs.search.Goals.{After-take_from-a, After-scan-nearest}

-- the vertex that is taken is a left one, and matched
taken : (c : After-take_from-a)
    → (c.take_from-a.result < length c.args.dist.now) × (entry c.args.mate.now c.take_from-a.result < length (record_tails c.args.records.now))
taken c =
    let least-is = c.least_block-block.ensures.2 in
    let G = c.loop-queue.invariant.0 in
    rw c.take_from-a.ensures.0 (
      left c.requires.state G G.tree.dist_len (rescanned c.loop-queue.nearest c.scan-nearest.result G.tree.dist_len c.scan-nearest.ensures.scanned) (omega (
        arith,
        c.is_near.ensures.1 c.if-is_near.false,
        (redistanced c.scan-nearest.new.dist c.scan-nearest.result (c.scan-nearest.ensures.scanned.dist_len ∙ G.tree.dist_len) c.exposed_distance-best.ensures),
        least-is,
      )),
      matched_arc c.requires.state G G.tree.dist_len (rescanned c.loop-queue.nearest c.scan-nearest.result G.tree.dist_len c.scan-nearest.ensures.scanned) (omega (
        arith,
        c.is_near.ensures.1 c.if-is_near.false,
        (redistanced c.scan-nearest.new.dist c.scan-nearest.result (c.scan-nearest.ensures.scanned.dist_len ∙ G.tree.dist_len) c.exposed_distance-best.ensures),
        least-is,
      )),
    )

-- who was found is a left vertex
found : (c : After-scan-nearest) → IfSome c.scan-nearest.result (λ r. r < length c.args.dist.now)
found c =
    let q = c.loop-queue.invariant.0.tree.dist_len in
    subst (λ (n : ℕ). IfSome c.scan-nearest.result (λ r. r < n)) q (c.scan-nearest.ensures.in_dist (subst (λ (n : ℕ). IfSome c.loop-queue.nearest (λ r. r < n)) (sym q) c.loop-queue.invariant.3))

pub loop-queue-init : goal.loop-queue-init
loop-queue-init c = (
  growing_start c.requires.state c.args.t c.requires.dist_len_bound.0 c.requires.dist_len_bound.1 c.requires.dist_len_bound.2 c.requires.dist_len_bound.3 (c.fill.ensures.after (λ y e. e)) (c.fill-2.ensures.after (λ y e. e) ∙ ap (λ (n : ℕ). replicate n 0) c.requires.dist_len_bound.4) c.new-queue.ensures,
  c.requires.rows.0,
  record { most = omega arith; dearer = λ l. absurd (omega arith); small = λ l. absurd (omega arith) },
  tt,
)

pub returns-then-is_near : goal.returns-then-is_near
returns-then-is_near c =
    let least-is = c.least_block-block.ensures.2 in
    let G = c.loop-queue.invariant.0 in
    record {
      searched_back = ended c.requires.state G G.tree.dist_len (rescanned c.loop-queue.nearest c.scan-nearest.result G.tree.dist_len c.scan-nearest.ensures.scanned) c.requires.rows.2 c.requires.rows.1 c.slack_after-slack.ensures
          (redistanced c.scan-nearest.new.dist c.scan-nearest.result (c.scan-nearest.ensures.scanned.dist_len ∙ G.tree.dist_len) c.exposed_distance-best.ensures) (least-is)
          (c.is_near.ensures.0 c.if-is_near.true)
          c.bring_near.ensures;
      in_dist = found (goal.at.returns-then-is_near c).After-scan-nearest;
      rows_2 = c.scan-nearest.ensures.rows_2;
    }

pub bounds-order-a : goal.bounds-order-a
bounds-order-a c =
    omega (
      arith,
      (taken (goal.at.bounds-order-a c).After-take_from-a).0,
      c.loop-queue.invariant.0.tree.order_len,
    )

pub bounds-mate-a : goal.bounds-mate-a
bounds-mate-a c =
    omega (arith, (taken (goal.at.bounds-mate-a c).After-take_from-a).0, c.requires.state.graph.within, c.requires.state.pairs.len)

pub arc_at-arc-requires : goal.arc_at-arc-requires
arc_at-arc-requires c =
    omega (
      arith,
      (taken (goal.at.arc_at-arc-requires c).After-take_from-a).1,
      tails_len c.args.records.now,
    )

pub loop-queue-preserved : goal.loop-queue-preserved
loop-queue-preserved c =
    let least-is = c.least_block-block.ensures.2 in
    let G = c.loop-queue.invariant.0 in (
      rw (c.arc_at-arc.ensures.head, c.take_from-a.ensures.0, least-is)
          (growing_on c.requires.state G G.tree.dist_len (rescanned c.loop-queue.nearest c.scan-nearest.result G.tree.dist_len c.scan-nearest.ensures.scanned) (omega (
            arith,
            c.is_near.ensures.1 c.if-is_near.false,
            (redistanced c.scan-nearest.new.dist c.scan-nearest.result (c.scan-nearest.ensures.scanned.dist_len ∙ G.tree.dist_len) c.exposed_distance-best.ensures),
            least-is,
          )) c.take_from-a.ensures.1),
      c.scan-nearest.ensures.rows_2,
      c.slack_after-slack.ensures,
      found (goal.at.loop-queue-preserved c).After-scan-nearest,
    )
