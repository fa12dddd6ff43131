use Rattle.match_slack.proofs.Extremes.{between}
use Rattle.match_slack.proofs.slack_of.Goals as goal

pub returns : goal.returns
returns c = rw c.saturating_sub.ensures (between _ _ _ _ _ c.floor_of-floor.ensures c.top_of-top.ensures)
