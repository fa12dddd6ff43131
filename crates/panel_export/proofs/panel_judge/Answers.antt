use Rattle.std.proofs.Common.{◌∙◌, ap}
use Rattle.panel_export.specs.Codes.{said_code}
use Rattle.panel_export.proofs.panel_judge.Goals as goal

pub returns : goal.returns
returns c = c.answer_code.ensures ∙ ap said_code c.judge.ensures
