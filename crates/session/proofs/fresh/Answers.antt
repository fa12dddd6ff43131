use mathlib.Core.Path.{ap}
use Rattle.session.specs.Session.{joined}
use Rattle.session.specs.declared.Arrays.{Arrays}
use Rattle.session.proofs.fresh.Goals as goal

pub returns : goal.returns
returns c = ap (λ (a : Arrays). joined a c.args.state) c.zero_arrays.ensures
