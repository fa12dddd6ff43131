use Rattle.std.proofs.Common.{length, ◌-◌}
use Rattle.flow_labels.proofs.Labels.lowest_end.Given as goal

abbrev pub decreases-loop-e : goal.decreases-loop-e
decreases-loop-e l = length l.net.arcs.now - l.e
