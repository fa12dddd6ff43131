use mathlib.Core.Path.{◌∙◌, ap}
use Rattle.network.specs.Question.{question_of, asks}
use Rattle.format.specs.Files.{setting_in, arc_in}
use Rattle.tide_windows.specs.Windows.{windows_in, is_open}
use Rattle.calendar_records.specs.MinuteNetwork.{left_for}
use Rattle.calendar_records.specs.Records.{left_held}
use Rattle.calendar_records.proofs.LeftRecords.{left-written}
use Rattle.calendar_records.proofs.write_record.Goals as goal

pub returns : goal.returns
returns c =
    left-written (asks (setting_in c.args.net.now)) (is_open (windows_in c.args.windows.now) c.args.minute c.args.position) c.word.result (arc_in c.args.net.now c.args.position) (left_held c.left_of.result) c.args.k c.write_left.result c.args.part.now _
    c.word.ensures
    (c.left_of.ensures ∙ (λ i. left_for ((c.question_of-asked.ensures ∙ ap question_of (c.from.ensures ∙ c.question.ensures)) i) (c.is_open-opened.ensures i) (c.arc_in-arc.ensures i)))
    c.write_left.ensures

pub write_left-requires : goal.write_left-requires
write_left-requires c = c.requires

pub shape_of-part : goal.shape_of-part
shape_of-part c = c.write_left.auto.part
