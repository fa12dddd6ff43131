-- The list of bytes is what was read.
use mathlib.Core.Path.{ap, ◌∙◌}
use Rattle.format.specs.Replies.{WriterSaid}
use Rattle.written_files.specs.ReplyLine.{reply_line}
use Rattle.plan_schedules.proofs.schedule_line.schedule_by.Goals as goal

pub returns : goal.returns
returns g c =
    record {
      net_read = c.read_front-n.ensures;
      out_is = c.minute_file.ensures.1;
      line_is = c.line_for.ensures ∙ ap (λ (s : WriterSaid). reply_line s c.save_reply-saved.result) (c.by_number-reply.ensures ∙ c.minute_file.ensures.0);
    }
