-- What the helper replies and what it leaves in the buffer (PANEL 9).
use Rattle.std.specs.Prelude.{◌≡◌, List, ℕ, ℤ, length, take, drop}
use Rattle.prelude.specs.Checks.{settle}
use Rattle.prelude.specs.Lists.{at}
use Rattle.network.specs.Network.{Load, arcs}
use Rattle.network.specs.Question.{asks, Answer}
use Rattle.network.specs.Certificate.{claim_for, Certified}
use Rattle.network.specs.Tests.{claim_number}
use Rattle.format.specs.Files.{setting_in, n_in, arcs_in, annotation_file}
use Rattle.format.specs.Replies.{WriterSaid, wrote, declined}
use Rattle.annotation_writing.specs.Requests.{size_for, annotate_checks}
use Rattle.cert_instances.specs.Certify.{LengthsFor}

-- The reply (PANEL 9): the first refusal, or the length.
abbrev pub annotated : List ℕ → ℕ → WriterSaid
annotated net room = settle declined (annotate_checks net room) (wrote (size_for net))

-- The bytes are an annotation (PANEL 9): a certificate of some answer, over the file's records in their order. The node numbers of a route are the least lengths.
pub record Annotation (net ann : List ℕ) : Type 0 where
  pub answer : Answer
  pub numbers : List ℤ
  pub loads : List Load
  pub one_each : length numbers ≡ n_in net
  pub in_order : arcs loads ≡ arcs_in net
  pub certified : Certified (setting_in net) (at numbers) loads answer
  pub lengths : LengthsFor (asks (setting_in net)) (setting_in net) (arcs_in net) (claim_for answer) (at numbers)
  pub bytes : ann ≡ annotation_file (claim_number (claim_for answer)) numbers loads

-- The annotation stands in the buffer below its length, and the bytes beyond are as they were.
pub record AnnotationIn (net before after : List ℕ) : Type 0 where
  pub annotation : Annotation net (take (size_for net) after)
  pub beyond : drop (size_for net) after ≡ drop (size_for net) before

-- What the buffer holds afterwards (PANEL 9): the annotation, or after a refusal what it held before.
abbrev pub BufferAfter : WriterSaid → List ℕ → List ℕ → List ℕ → Type 0
BufferAfter (declined k) net before after = after ≡ before
BufferAfter (wrote k) net before after = AnnotationIn net before after
