-- What the annotating program prints, as a function of the bytes of the network file, of the room for the annotation and of whether it was saved (PANEL 10).
use Rattle.std.specs.Prelude.{◌≡◌, Bool, List, ℕ, take}
use Rattle.io.specs.Counts.{IsPrefixLen}
use Rattle.format.specs.Replies.{WriterSaid}
use Rattle.helper.specs.Helper.{annotated, BufferAfter}
use Rattle.program_io.specs.Counted.{counted}
use Rattle.written_files.specs.ReplyLine.{reply_line}
use Rattle.plan_annotations.specs.declared.annotation_line.Annotated.{Annotated}

-- The helper's reply for what counts of a network file, in a buffer of so many bytes.
unfoldable pub file_reply : List ℕ → ℕ → WriterSaid
file_reply net room = annotated (counted net) room

-- The line for the bytes of plan.drn.
abbrev pub annotation_line : List ℕ → ℕ → Bool → List ℕ
annotation_line net room done = reply_line (file_reply net room) done

-- The network file was read into a buffer, so many bytes of it; the annotation for what was read stands in its buffer of `room` bytes, and the
-- line is that for it.
pub record AnnotatedFiles (room : ℕ) (net ann_before ann_after : List ℕ) (r : Annotated) : Type 0 where
  pub net_read : IsPrefixLen r.net net
  pub annotation_is : BufferAfter (file_reply (take r.net net) room) (counted (take r.net net)) ann_before ann_after
  pub line_is : r.line ≡ annotation_line (take r.net net) room r.saved
