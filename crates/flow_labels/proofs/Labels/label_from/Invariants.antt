use Rattle.std.proofs.Common.{◌-◌}
use Rattle.flow_labels.proofs.Labels.label_from.Given as goal

abbrev pub decreases-loop-done : goal.decreases-loop-done
decreases-loop-done l = 256 - l.done
