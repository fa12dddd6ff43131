-- What counts of the file is annotated.
use mathlib.Core.Path.{◌≡◌, subst}
use mathlib.Core.List.{List}
use Prim.Native.Nat.{ℕ}
use lib.ListN.{length}
use Rattle.format.specs.Replies.{writer_said}
use Rattle.helper.specs.Helper.{annotated, BufferAfter}
use Rattle.plan_annotations.specs.AnnotationLine.{file_reply}
use Rattle.plan_annotations.proofs.annotation_line.annotation.Goals as goal

pub returns : goal.returns
unfolding file_reply
returns c =
    let is = c.counted.ensures in
    record {
      result_value = subst (λ (net : List ℕ). writer_said c.annotate.result ≡ annotated net (length c.args.ann.now)) is c.annotate.ensures.0;
      buffer_after = subst (λ (net : List ℕ). BufferAfter (writer_said c.annotate.result) net c.args.ann.now c.annotate.new.buffer) is c.annotate.ensures.1;
    }
