-- What the solver promises: every network that a session accepts has one true answer, and the solver finds it.
use Rattle.std.specs.Prelude.{◌≡◌, true, List, ℕ, ℤ, length}
use Rattle.arc_records.specs.Arcs.{Arc, word_arcs}
use Rattle.network.specs.Question.{Setting, Answer, TrueAnswer}
use Rattle.network.specs.Certificate.{claim_for}
use Rattle.network.specs.Tests.{claim_number}
use Rattle.cert_instances.specs.Certify.{admissible, CertifyOutcome}

-- There is a true answer, no other one is true, and the reply is its claim: a value exactly where a value is true.
pub record Decided (st : Setting) (net : List Arc) (reply : ℕ) : Type 0 where
  pub answer : Answer
  pub is_true : TrueAnswer st net answer
  pub only : (a : Answer) → TrueAnswer st net a → a ≡ answer
  pub reply_is : reply ≡ claim_number (claim_for answer)

-- Whatever is admissible is decided: a value is claimed exactly where there is one.
abbrev pub Decides : Type 0
Decides =
    (st : Setting) (rs : List ℕ) (ys ys' : List ℤ) (xs xs' : List ℕ) (reply : ℕ)
    → admissible st rs (length ys) (length xs) ≡ true → CertifyOutcome st rs ys xs ys' xs' reply → Decided st (word_arcs rs) reply
