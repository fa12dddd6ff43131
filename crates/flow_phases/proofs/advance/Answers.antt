use Rattle.flow_residual.proofs.PhaseLaws.{linked, phase, target_ok}
use Rattle.flow_phases.proofs.advance.Goals as goal

pub push-got-requires : goal.push-got-requires
push-got-requires c =
    let ok = target_ok c.requires.nearest.0 c.requires.nearest.1 in
    record { v_in_bounds = (ok.0, ok.2); packed_push_ready = linked c.requires.packed_phase_state.0 c.requires.packed_phase_state.1 }

pub returns : goal.returns
returns c =
    phase c.requires.packed_phase_state.0 c.requires.packed_phase_state.1 c.requires.nearest.0 c.requires.nearest.1 c.raise.ensures c.push-got.ensures
