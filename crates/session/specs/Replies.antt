-- What the replies of the code say.
use Rattle.std.specs.Prelude.{ℕ, Option}
use Rattle.state.specs.Results.{response_of, finished_as}
use Rattle.session.specs.Session.{hand, Reply}
use Rattle.session.specs.declared.Reply.{Reply as Handed}

-- The reply of a step before finishing.
abbrev pub replied : {A : Type 0} → Handed A → Reply
replied x = hand x.session (response_of x.answer)

-- The reply of finishing.
abbrev pub finished : Handed (Option ℕ) → Reply
finished x = hand x.session (finished_as x.answer)
