use mathlib.Core.Path.{◌∙◌}
use Rattle.arc_records.specs.Arcs.{arc_of}
use Rattle.state.specs.Turns.{turn_of}
use Rattle.session.proofs.TurnsToSteps.{read_replies, by_state}
use Rattle.session.proofs.Session.read_channel.Goals as goal

pub returns : goal.returns
returns c =
    c.reply_to.ensures ∙ by_state (read_replies c.args.self (arc_of c.args.a c.args.b c.args.w) (turn_of c.args.self.state c.read_channel-turn.result) c.read_channel-turn.ensures)
