use Rattle.acceptance.proofs.setting.Goals as goal

pub returns : goal.returns
returns c = cc (c.sink-t.ensures, c.source-s.ensures, c.vertices-n.ensures, c.question-question.ensures)
