-- The loop's invariant: the least of what is noted for the exposed vertices below a.
use Rattle.match_slack.proofs.Extremes.{Floor}
use Rattle.match_slack.proofs.floor_of.Given as goal

abbrev pub invariant-loop-a : goal.invariant-loop-a
invariant-loop-a l = Floor l.lightest l.mate l.a l.least
