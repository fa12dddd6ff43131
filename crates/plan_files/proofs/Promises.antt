-- The promise of specs/Promises.antt, kept.
use mathlib.Core.Path.{◌≡◌}
use mathlib.Core.Bool.{Bool, true, false}
use mathlib.Core.List.{List, ◌++◌}
use Prim.Native.Nat.{ℕ}
use native.Mathlib.Omega.{arith}
use lib.Dec.{leb}
use lib.ListN.{length}
use Rattle.prelude.specs.Choice.{pick}
use Rattle.prelude.specs.Checks.{Check, settle}
use Rattle.prelude.proofs.Settle.{settled_back}
use Rattle.network.specs.Question.{Answer}
use Rattle.state.specs.Answers.{accepted, gives, refused}
use Rattle.judging.specs.Judging.{judged, network_checks, annotation_checks}
use Rattle.program_io.specs.Counted.{counted}
use Rattle.plan_files.specs.AnswerLine.{point_in, program_answer}
use Rattle.plan_files.specs.Promises.{NeverAccepted}

refused_not : (k : ℕ) → refused k ≡ accepted → ⊥
refused_not k e = let z : ◌≡◌ {A = ℕ} 0 1 = cc in omega arith

-- checks refuse or let an answer through
settled_not : (cs : List Check) (a : Answer) → settle refused cs (gives a) ≡ accepted → ⊥
settled_not cs a e =
    let same = (settled_back refused cs (gives a) accepted refused_not e).1 in
    let z : ◌≡◌ {A = ℕ} 0 1 = cc in
    omega arith

pub never_accepted : NeverAccepted
unfolding program_answer
never_accepted point net ann = go (leb 8 (length point))
  where
    go : (whole : Bool) → pick whole (judged (counted net) (counted ann) (point_in point)) (refused 4) ≡ accepted → ⊥
    go true e = settled_not (network_checks (counted net) (point_in point) ++ annotation_checks (counted net) (counted ann) (point_in point)) _ e
    go false e = refused_not 4 e
