-- The loop's invariant: the greatest potential of the matched vertices from h on and below b.
use Rattle.match_slack.proofs.Extremes.{Top}
use Rattle.match_slack.proofs.top_of.Given as goal

abbrev pub invariant-loop-b : goal.invariant-loop-b
invariant-loop-b l = Top l.mate l.pi l.h l.b l.most
