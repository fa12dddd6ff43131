-- Reducing the factor first changes no residue.
use Rattle.field.proofs.Step.{factor_reduced}
use Rattle.field.proofs.extend.Goals as goal

pub returns : goal.returns
returns c = rw (c.from.ensures, c.from-2.ensures) (factor_reduced c.args.point c.saturating_sub.result c.args.fingerprint c.args.key c.saturating_sub.ensures)
