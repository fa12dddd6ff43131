-- The list of bytes is what was read, and the annotation's buffer has 32768 bytes.
use mathlib.Core.Path.{◌≡◌, ap, subst, ◌∙◌}
use Prim.Native.Nat.{ℕ}
use native.Mathlib.Omega.{arith}
use lib.ListN.{length, take}
use Rattle.format.specs.Replies.{WriterSaid, writer_said}
use Rattle.helper.specs.Helper.{BufferAfter}
use Rattle.program_io.specs.Counted.{counted}
use Rattle.written_files.specs.ReplyLine.{reply_line}
use Rattle.plan_annotations.specs.AnnotationLine.{file_reply}
use Rattle.plan_annotations.proofs.annotation_line.annotate_files.Goals as goal

pub returns : goal.returns
returns g c =
    let net = take c.read_front-n.result c.read_front-n.new.buffer in
    let size : length c.args.ann.now ≡ 32768 = omega arith in
    let is : writer_said c.annotation.result ≡ file_reply net 32768 = c.annotation.ensures.result_value ∙ ap (file_reply net) size in
    record {
      net_read = c.read_front-n.ensures;
      annotation_is = subst (λ (s : WriterSaid). BufferAfter s (counted net) c.args.ann.now c.annotation.new.ann) is c.annotation.ensures.buffer_after;
      line_is = c.line_for.ensures ∙ ap (λ (s : WriterSaid). reply_line s c.save_reply-saved.result) (c.by_number-reply.ensures ∙ is);
    }
