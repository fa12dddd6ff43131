use Rattle.tide_table.proofs.Words.{no_word_read, word_within, number_read, other_read}
use Rattle.tide_table.proofs.text.next_word.Goals as goal

pub returns-then-line-start : goal.returns-then-line-start
returns-then-line-start c =
    no_word_read c.args.line.now c.args.at c.find-start.result c.find-start.ensures c.if-line-start.true

pub slice_bounds-number-end : goal.slice_bounds-number-end
slice_bounds-number-end c =
    word_within c.args.line.now c.args.at c.find-start.result c.find-end.result c.find-start.ensures c.find-end.ensures c.if-line-start.false

pub returns-in-Some : goal.returns-in-Some
returns-in-Some c =
    number_read c.args.line.now c.args.at c.find-start.result c.find-end.result c.find-start.ensures c.find-end.ensures c.if-line-start.false c.in-Some.n c.in-Some.ensures

pub returns-in-None : goal.returns-in-None
returns-in-None c =
    other_read c.args.line.now c.args.at c.find-start.result c.find-end.result c.find-start.ensures c.find-end.ensures c.if-line-start.false c.in-None.ensures
