use Rattle.prelude.proofs.Tested.{tested}
use Rattle.points.proofs.lists_check.Goals as goal

pub returns-then-count-m : goal.returns-then-count-m
returns-then-count-m c = search tested depth 12

pub returns-then-not-is_same : goal.returns-then-not-is_same
returns-then-not-is_same c = search tested depth 12

pub returns : goal.returns
returns c = search tested depth 12
