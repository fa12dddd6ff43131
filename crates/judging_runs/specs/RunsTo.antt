-- Steps that run one after the other: what they come out as, and the session that they leave.
use Rattle.std.specs.Prelude.{◌≡◌, List, ◌++◌, ℕ, eqb}
use Rattle.prelude.specs.Choice.{pick}
use Rattle.state.specs.Answers.{refused}
use Rattle.session.specs.declared.Session.{Session}
use Rattle.runs.specs.Run.{Step, run}
use Rattle.runs.specs.Exchange.{outcome}

-- From the session x the steps run to a number and a session: they come out as the refusal `why`, whatever follows them; or, where that is 0, all are accepted, and what follows comes out as it does from the session y.
pub record RunsTo (x : Session) (steps : List Step) (why : ℕ) (y : Session) : Type 0 where
  pub out : (rest : List Step) → outcome (run x (steps ++ rest)) ≡ pick (eqb why 0) (outcome (run y rest)) (refused why)
