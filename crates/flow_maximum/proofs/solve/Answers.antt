use mathlib.Core.Logic.{inl, inr}
use Rattle.flow_maximum.proofs.CallOutcomes.{too_large}
use Rattle.flow_maximum.proofs.solve.Goals as goal
use Rattle.flow_maximum.proofs.solve.Goals.{then-n-gt255-via-then-n-gt255, then-n-gt255-via-else-n-gt255+then-arcs-gt4096}

pub returns-then-n-gt255 : goal.returns-then-n-gt255
returns-then-n-gt255 c =
    too_large c.args.arcs.now c.args.s c.args.t c.args.supply c.args.x.now c.args.key.now
    (elim c.then-n-gt255.branch [ then-n-gt255-via-then-n-gt255 w ↦ inl w.if-n-gt255.true | then-n-gt255-via-else-n-gt255+then-arcs-gt4096 w ↦ inr w.if-arcs-gt4096.true ])
