use mathlib.Core.Path.{◌∙◌}
use Rattle.state.specs.Turns.{turn_of}
use Rattle.session.proofs.TurnsToSteps.{claim_replies, by_state}
use Rattle.session.proofs.Session.claim.Goals as goal

pub returns : goal.returns
returns c =
    c.reply_to.ensures ∙ by_state (claim_replies c.args.self c.args.claim (turn_of c.args.self.state c.claim.result) c.claim.ensures)
