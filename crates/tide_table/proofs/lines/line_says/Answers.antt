use mathlib.Core.Path.{sym, ◌∙◌}
use borrow.Author.Tests.{eqb-true, eq-eqb}
use mathlib.Core.Bool.{true≢false}
use Rattle.tide_table.proofs.Words.{marked, line_said, line_skipped}
use Rattle.tide_table.proofs.lines.line_says.Goals as goal

pub returns-then-starts_with : goal.returns-then-starts_with
returns-then-starts_with c =
    line_skipped c.args.line.now (eqb-true _ 35 (sym (marked c.args.line.now) ∙ sym c.starts_with.ensures.value ∙ c.if-starts_with.true))

pub returns : goal.returns
returns c =
    c.words_say.ensures
    ∙ line_said c.args.line.now c.next_word-a.result c.next_word-b.result c.next_word-c.result c.next_word-d.result
    (λ e. true≢false (sym (eq-eqb _ 35 e) ∙ sym (marked c.args.line.now) ∙ sym c.starts_with.ensures.value ∙ c.if-starts_with.false))
    c.next_word-a.ensures c.next_word-b.ensures c.next_word-c.ensures c.next_word-d.ensures
