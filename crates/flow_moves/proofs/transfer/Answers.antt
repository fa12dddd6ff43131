use Rattle.flow_moves.proofs.Conserving.{transfer_fits}
use Rattle.flow_moves.proofs.transfer.Goals as goal

pub overflow_add-left : goal.overflow_add-left
overflow_add-left c =
    transfer_fits c.args.left.now c.args.a c.args.got _ c.requires.a_in_bounds.0 c.requires.a_in_bounds.2 c.requires.left_len_bound.1
