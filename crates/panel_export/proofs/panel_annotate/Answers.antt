use Rattle.std.proofs.Common.{◌∙◌, ap, subst}
use Rattle.format.specs.Replies.{WriterSaid}
use Rattle.helper.specs.Helper.{BufferAfter}
use Rattle.panel_export.specs.Codes.{reply_code}
use Rattle.panel_export.proofs.panel_annotate.Goals as goal

pub returns : goal.returns
returns c =
    (c.written_code.ensures ∙ ap reply_code c.annotate.ensures.0, subst (λ (d : WriterSaid). BufferAfter d c.args.net.now c.args.buffer.now c.annotate.new.buffer) c.annotate.ensures.0 c.annotate.ensures.1)
