use Rattle.match_search.proofs.BringingNear.{Bringing}
use Rattle.match_search.proofs.bring_near.Given as goal

abbrev pub invariant-loop-a : goal.invariant-loop-a
invariant-loop-a l = Bringing l.k l.mate l.initial.dist l.dist l.a
