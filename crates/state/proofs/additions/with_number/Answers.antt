use Rattle.prelude.proofs.Choice.{checks}
use Rattle.words.proofs.Signs.{signs}
use Rattle.session_groups.proofs.GroupLaws.{number_done}
use Rattle.state.proofs.additions.with_number.Goals as goal

pub returns-then-y-eq1 : goal.returns-then-y-eq1
returns-then-y-eq1 c = number_done c.args.g c.args.y c.with_mark-next.result (search (checks, signs) depth 12)

pub returns : goal.returns
returns c = number_done c.args.g c.args.y c.args.g.marks (search (checks, signs) depth 12)
