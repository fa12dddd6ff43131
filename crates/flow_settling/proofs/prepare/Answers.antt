use mathlib.Core.Path.{◌∙◌, sym}
use Rattle.flow_settling.proofs.Settled.{at_most, prepared_on, prepared_anew, amounts_len}
use Rattle.flow_settling.proofs.prepare.Goals as goal

pub is_settled-requires : goal.is_settled-requires
is_settled-requires c =
    (c.requires.solve_ready.0.source, c.requires.solve_ready.0.sink, at_most c.args.supply c.requires.solve_ready.0 c.requires.solve_ready.1 c.args.s)

pub returns-then-is_settled : goal.returns-then-is_settled
returns-then-is_settled c =
    rw c.requires.need_value
    (prepared_on c.args.supply c.requires.solve_ready.0 c.requires.solve_ready.1 (sym c.is_settled.ensures ∙ c.if-is_settled.true))

pub returns : goal.returns
returns c =
    rw (c.stand_at.ensures.0, c.stand_at.ensures.1, c.requires.need_value, amounts_len c.args.supply c.requires.solve_ready.0 c.requires.solve_ready.1)
    (prepared_anew c.args.supply c.requires.solve_ready.0)
