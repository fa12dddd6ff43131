use mathlib.Core.Path.{◌∙◌, ap}
use Rattle.session.specs.Session.{fresh}
use Rattle.state.specs.declared.State.{State}
use Rattle.session.proofs.ended.Goals as goal

pub returns : goal.returns
returns c = c.fresh.ensures ∙ ap (λ (y : State). fresh y) c.idle.ensures
