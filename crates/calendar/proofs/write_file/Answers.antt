use Rattle.tide_windows.specs.Windows.{windows_in}
use Rattle.calendar.proofs.MinuteFile.{file-written}
use Rattle.calendar.proofs.write_file.Goals as goal

pub returns : goal.returns
returns c =
    file-written c.args.net.now (windows_in c.args.windows.now) c.args.minute
    (record { question = c.question.result; n = c.vertices.result; s = c.source.result; t = c.sink.result })
    c.args.count c.write_records.result c.args.buffer.now c.write_header.new.buffer c.write_records.new.part
    (λ i. record { question = c.question.ensures i; n = c.vertices.ensures i; s = c.source.ensures i; t = c.sink.ensures i })
    c.requires.count_value c.write_header.ensures c.write_records.ensures

pub question-requires : goal.question-requires
question-requires c = tt

pub vertices-requires : goal.vertices-requires
vertices-requires c = tt

pub source-requires : goal.source-requires
source-requires c = tt

pub sink-requires : goal.sink-requires
sink-requires c = tt

pub write_header-requires : goal.write_header-requires
write_header-requires c = tt

pub write_records-requires : goal.write_records-requires
write_records-requires c = tt
