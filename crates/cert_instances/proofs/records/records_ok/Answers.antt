use borrow.Author.Rules.{rules}
use borrow.Author.Tests.{tests}
use Rattle.prelude.proofs.SliceTests.{all_in_slice}
use Rattle.checks.specs.Held.{asked}
use Rattle.cert_instances.specs.Certify.{record_ok}
use Rattle.cert_instances.proofs.records.records_ok.Goals as goal

pub returns : goal.returns
returns c = all_in_slice (record_ok (asked c.args.st)) c.args.records.now c.all.ensures.ran (cc) (λ x b q k. search (rules, tests))
