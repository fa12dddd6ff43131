use borrow.Author.Rules.{rules}
use borrow.Author.Tests.{tests}
use Rattle.prelude.proofs.SliceTests.{all_in_slice}
use Rattle.match_least_cost.specs.Outcome.{leads_across}
use Rattle.match_least_cost.proofs.limits.each_leads_across.Goals as goal

pub returns : goal.returns
returns c = all_in_slice (leads_across c.args.h c.args.n) c.args.records.now c.all.ensures.ran (cc) (λ x b q k. search (rules, tests))
