use mathlib.Core.Bool.{not}
use mathlib.Core.Path.{ap}
use Rattle.flow_path.proofs.Outcomes.{send_refused, send_starts, send_ends}
use Rattle.flow_path.proofs.send.Goals as goal

pub returns-then-not-is_sendable : goal.returns-then-not-is_sendable
returns-then-not-is_sendable c =
    send_refused c.args.arcs.now c.args.t c.args.want c.args.x.now c.args.left.now c.args.key.now _ c.is_sendable.ensures (ap not c.if-not-is_sendable.true)

pub index_and_send-reached-requires-clause-packed_phase_state : goal.index_and_send-reached-requires-clause-packed_phase_state
index_and_send-reached-requires-clause-packed_phase_state c =
    send_starts c.args.arcs.now c.args.t c.args.want c.args.x.now c.args.left.now c.args.key.now _ c.is_sendable.ensures
    (ap not c.if-not-is_sendable.false) (c.fill.ensures.after (λ y h. h))

pub returns : goal.returns
returns c =
    send_ends c.args.arcs.now c.args.t c.args.want c.args.x.now c.args.left.now c.args.key.now _ c.is_sendable.ensures
    (ap not c.if-not-is_sendable.false) (c.fill.ensures.after (λ y h. h)) c.index_and_send-reached.ensures
