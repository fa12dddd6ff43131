use Rattle.flow_preflow.proofs.AfterPreflow.{after_preflow}
use Rattle.flow_preflow.proofs.tests.drained.Goals as goal

pub invariant_of-drain_all : goal.invariant_of-drain_all
invariant_of-drain_all c =
    let moved = after_preflow c.in_ok-preflow.ensures in record {
      out_links = moved.out_linked;
      into_links = moved.into_linked;
    }

pub drain_all-requires : goal.drain_all-requires
drain_all-requires c = (after_preflow c.in_ok-preflow.ensures).ready
