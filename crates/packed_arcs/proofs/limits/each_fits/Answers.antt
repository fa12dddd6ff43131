use borrow.Author.Rules.{rules}
use borrow.Author.Tests.{tests}
use Rattle.prelude.proofs.SliceTests.{all_in_slice}
use Rattle.packed_arcs.specs.Limits.{arc_fits}
use Rattle.packed_arcs.proofs.limits.each_fits.Goals as goal

pub returns : goal.returns
returns c = all_in_slice (arc_fits c.args.n) c.args.arcs.now c.all.ensures.ran (cc) (λ x b q k. search (rules, tests))
