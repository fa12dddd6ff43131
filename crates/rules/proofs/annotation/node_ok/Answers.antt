use mathlib.Core.Path.{◌≡◌, sym, ◌∙◌}
use mir.Facts.{to_z-of_z}
use Rattle.network.specs.Tests.{claim_number, claim_of}
use Rattle.prelude.proofs.Tested.{first_off, and_on}
use Rattle.checks.specs.Held.{asked}
use Rattle.ranges.specs.Ranges.{in_table}
use Rattle.ranges.proofs.Promises.{check_ten_same}
use Rattle.rules.proofs.annotation.node_ok.Goals as goal
use Rattle.rules.proofs.annotation.node_ok.Goals.{After-in_table}

-- what the table says of the number
in_range : (c : After-in_table) →
    c.in_table.result ≡ in_table c.args.st.question (claim_number (claim_of c.args.claim)) c.args.z
in_range c = rw c.claim_number.ensures at (simp (to_z-of_z c.ranges.z) at c.in_table.ensures)

pub returns-then-in_table : goal.returns-then-in_table
returns-then-in_table c = let rule = rw c.row_of.ensures at (simp (to_z-of_z c.ranges.z) at c.on_node.ensures) in
    rw (check_ten_same (asked c.args.st) (claim_of c.args.claim) c.args.v c.args.z) (and_on _ _ _ (sym (in_range (goal.at.returns-then-in_table c).After-in_table) ∙ c.if-in_table.true) rule)

pub returns-else-in_table : goal.returns-else-in_table
returns-else-in_table c = c.if-in_table.false ∙ sym (check_ten_same (asked c.args.st) (claim_of c.args.claim) c.args.v c.args.z ∙ first_off _ _ (sym (in_range (goal.at.returns-else-in_table c).After-in_table) ∙ c.if-in_table.false))
