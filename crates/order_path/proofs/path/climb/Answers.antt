-- The loop's invariant: a path of vertices without a rank, that is not empty. There is room for one vertex fewer at each turn.
use mathlib.Core.Path.{refl, ap}
use Prim.Native.Nat.{◌-◌}
use native.Mathlib.Omega.{arith}
use Rattle.packed_arcs.specs.Entries.{entry}
use Rattle.order_path.proofs.Rankings.{searching_started, TopLooked, at_top, climbed, room_left, searching_longer}
use Rattle.order_path.proofs.path.climb.Goals as goal
use Rattle.order_path.proofs.path.climb.Goals.{In-Some}

here : (c : In-Some)
    → TopLooked c.args.records.now c.args.links.now c.args.ranks.now c.loop-e.into c.loop-e.path c.loop-e.spot c.look.new.into c.loop-e.len (entry c.loop-e.path (c.loop-e.len - 1)) c.in-Some.e
here c =
    let L = c.in-Some.ensures in
    record { chained = c.requires.chained; searching = c.loop-e.invariant.0; some = c.loop-e.invariant.1; last = refl; moved = L.moved; current = L.current.0; from = λ h. L.current.2 }

pub loop-e-init : goal.loop-e-init
loop-e-init c =
    searching_started c.requires.searching c.requires.root_in_bounds.0 c.requires.root_in_bounds.1 c.start-len.ensures

pub tail_at-w-requires : goal.tail_at-w-requires
tail_at-w-requires c = (at_top (here (goal.at.tail_at-w-requires c).In-Some) c.in-Some.ensures.current.1).arc

pub push-len-requires : goal.push-len-requires
push-len-requires c =
    let above = c.in-Some.ensures.current.1 in
    let t = at_top (here (goal.at.push-len-requires c).In-Some) above in
    let room = room_left (here (goal.at.push-len-requires c).In-Some) above c.tail_at-w.ensures c.if-spot-w-gt0.false in
    (omega (arith, c.loop-e.invariant.0.on_path.path_len), omega (arith, t.slot))

pub loop-e-smaller : goal.loop-e-smaller
loop-e-smaller c =
    omega (arith, room_left (here (goal.at.loop-e-smaller c).In-Some) c.in-Some.ensures.current.1 c.tail_at-w.ensures c.if-spot-w-gt0.false, c.push-len.ensures.longer)

pub loop-e-preserved : goal.loop-e-preserved
loop-e-preserved c =
    (searching_longer (here (goal.at.loop-e-preserved c).In-Some) c.in-Some.ensures.current.1 c.tail_at-w.ensures c.if-spot-w-gt0.false c.push-len.ensures, omega (arith, c.push-len.ensures.longer))

pub returns-then-spot-w-gt0 : goal.returns-then-spot-w-gt0
returns-then-spot-w-gt0 c =
    climbed (here (goal.at.returns-then-spot-w-gt0 c).In-Some) (λ h. omega (arith, ap (entry c.loop-e.spot) c.tail_at-w.ensures, c.if-spot-w-gt0.true))

pub returns-in_default : goal.returns-in_default
returns-in_default c =
    let L = c.in_default.ensures in
    let stuck : TopLooked c.args.records.now c.args.links.now c.args.ranks.now c.loop-e.into c.loop-e.path c.loop-e.spot c.look.new.into c.loop-e.len (entry c.loop-e.path (c.loop-e.len - 1)) (entry c.look.new.into (entry c.loop-e.path (c.loop-e.len - 1)))
    = record { chained = c.requires.chained; searching = c.loop-e.invariant.0; some = c.loop-e.invariant.1; last = refl; moved = L.moved; current = refl; from = λ h. absurd (omega (arith, L.current)) } in
    climbed stuck (λ h. absurd (omega (arith, L.current)))
