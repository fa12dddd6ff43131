use borrow.Author.Rules.{rules}
use borrow.Author.Tests.{tests}
use Rattle.prelude.proofs.SliceTests.{all_in_slice}
use Rattle.packed_arcs.specs.Limits.{is_free}
use Rattle.packed_arcs.proofs.limits.all_free.Goals as goal

pub returns : goal.returns
returns c = all_in_slice is_free c.args.arcs.now c.all.ensures.ran (cc) (λ x b q k. search (rules, tests))
