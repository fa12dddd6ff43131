use mathlib.Core.Path.{ap}
use native.Mathlib.Omega.{arith}
use Rattle.packed_arcs.specs.Entries.{entry}
use Rattle.packed_arcs.proofs.ArcColumns.{capacity_fits}
use Rattle.flow_residual.proofs.PushedAmounts.{start_ok, shift_ok, moved_step}
use Rattle.flow_push.proofs.CodedArcs.{start_by, room_by, amounts_after, after_fits}
use Rattle.flow_push.proofs.+push.Goals as goal

pub push-got-requires : goal.push-got-requires
push-got-requires t c =
    let L = c.requires.packed_push_ready in
    let lower = start_ok L c.args.v c.requires.v_in_bounds.0 c.requires.v_in_bounds.1 c.if-key-v-eq0.false in
    let start = start_by c.args.arcs.now (entry c.args.par.now c.args.v) c.arc_of-e.ensures c.start_of-u.ensures in
    let same = ap (entry c.args.key.now) start in
    (omega (arith, lower, c.decreases, same), ((omega (arith, lower, start), omega (arith, lower, c.requires.v_in_bounds.1, same)), L))

pub amount_after-requires : goal.amount_after-requires
amount_after-requires t c =
    let arcs = c.args.arcs.now in
    let code = entry c.args.par.now c.args.v in
    let ok = shift_ok c.requires.packed_push_ready c.args.v c.requires.v_in_bounds.0 c.requires.v_in_bounds.1 c.if-key-v-eq0.false _ c.args.want _ _ _ _
    (start_by arcs code c.arc_of-e.ensures c.start_of-u.ensures)
    (room_by arcs code c.arc_of-e.ensures c.args.x.now c.args.want c.room_by-room.ensures)
    c.push-got.ensures (capacity_fits arcs) in
    after_fits arcs code c.arc_of-e.ensures c.push-got.new.x _ ok.1 ok.2

pub returns : goal.returns
returns t c =
    let arcs = c.args.arcs.now in
    let code = entry c.args.par.now c.args.v in
    moved_step c.requires.packed_push_ready c.args.v c.requires.v_in_bounds.0 c.requires.v_in_bounds.1 c.if-key-v-eq0.false _ c.args.want _ _ _ _
    (start_by arcs code c.arc_of-e.ensures c.start_of-u.ensures)
    (room_by arcs code c.arc_of-e.ensures c.args.x.now c.args.want c.room_by-room.ensures)
    c.push-got.ensures _
    (amounts_after arcs code c.arc_of-e.ensures c.push-got.new.x _ c.amount_after.ensures)
