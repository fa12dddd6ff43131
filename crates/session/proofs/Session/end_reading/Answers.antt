use mathlib.Core.Path.{◌∙◌}
use Rattle.state.specs.Turns.{turn_of}
use Rattle.session.proofs.TurnsToSteps.{end_replies, by_state}
use Rattle.session.proofs.Session.end_reading.Goals as goal

pub returns : goal.returns
returns c =
    c.reply_to.ensures ∙ by_state (end_replies c.args.self (turn_of c.args.self.state c.end_reading.result) c.end_reading.ensures)
