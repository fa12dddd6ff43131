use borrow.Author.Rules.{rules}
use borrow.Author.Tests.{tests}
use Rattle.prelude.proofs.SliceTests.{all_in_slice}
use Rattle.order_path.specs.Search.{joins_below}
use Rattle.order_acyclicity.proofs.limits.each_joins_below.Goals as goal

pub returns : goal.returns
returns c = all_in_slice (joins_below c.args.n) c.args.records.now c.all.ensures.ran (cc) (λ x b q k. search (rules, tests))
