use lib.ListN.{length}
use Rattle.arc_index.specs.Columns.{record_tails}
use Rattle.match_augmenting.proofs.RaiseLoop.{Rising}
use Rattle.match_augmenting.proofs.raise.raise.Given as goal

abbrev pub invariant-loop-a : goal.invariant-loop-a
invariant-loop-a l = Rising (length l.dist) (record_tails l.records) l.mate l.dist l.d l.initial.pi l.pi l.a
