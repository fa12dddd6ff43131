-- The promises of specs/Promises.antt, kept.
use mathlib.Core.Path.{sym, ◌∙◌, subst}
use mathlib.Core.Bool.{false≢true}
use mathlib.Core.List.{List}
use Prim.Native.Nat.{ℕ}
use lib.IntN.{ℤ}
use lib.ListN.{length}
use Rattle.prelude.specs.Lists.{Perm, at}
use Rattle.prelude.proofs.Permutations.{perm_refl}
use Rattle.arc_records.specs.Arcs.{Arc, word_arcs}
use Rattle.network.specs.Network.{loads_of}
use Rattle.network.specs.Question.{Setting, TrueAnswer, Admissible}
use Rattle.network.proofs.Promises.{one_answer, certificates_sound}
use Rattle.cert_instances.specs.Certify.{Solution, CertifyOutcome}
use Rattle.solver.specs.Promises.{Decided, Decides}
use Rattle.cert_instances.proofs.ColumnsAndLoads.{loads_arcs}
use Rattle.cert_instances.proofs.Solutions.{accepted}

decided : (st : Setting) (net : List Arc) (ys : List ℤ) (xs : List ℕ) (reply : ℕ) → Admissible st net → Solution st net ys xs reply → Decided st net reply
decided st net ys xs reply a s = record { answer = s.answer; is_true = truth; only = λ b h. one_answer st net b s.answer h truth; reply_is = s.reply_is }
  where
    truth : TrueAnswer st net s.answer
    truth =
        certificates_sound st net (at ys) (loads_of net xs) s.answer a.opened a.allowed
        (subst (λ (l : List Arc). Perm l net) (sym (loads_arcs net xs)) (perm_refl net)) s.certified

pub decides : Decides
decides st rs ys ys' xs xs' reply ok (CertifyOutcome.refused n p r k) = absurd (false≢true (sym n ∙ ok))
decides st rs ys ys' xs xs' reply ok (CertifyOutcome.solved o p r s) =
    decided st (word_arcs rs) ys' xs' reply (accepted st rs (length ys) (length xs) ok).0 s
