use Rattle.flow_search.proofs.SearchLaws.{both_scans, forward_only}
use Rattle.flow_search.proofs.look.Goals as goal

pub returns-in-Some : goal.returns-in-Some
returns-in-Some c =
    both_scans c.scan.ensures c.scan-in-Some.ensures

pub returns-in_default : goal.returns-in_default
returns-in_default c = forward_only c.requires.chains.3.sized.few (rw c.in_default.is at c.requires.chains.1) c.scan.ensures
