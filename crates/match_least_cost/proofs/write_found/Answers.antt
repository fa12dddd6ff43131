use mathlib.Core.Path.{sym, ap, ◌∙◌}
use native.Mathlib.Omega.{arith}
use Rattle.packed_arcs.specs.Entries.{zero_list}
use Rattle.arc_index.proofs.Columns.{tails_len}
use Rattle.match_rounds.proofs.Serving.{pass_state}
use Rattle.match_least_cost.proofs.Finding.{found_saturating, found_none}
use Rattle.match_least_cost.proofs.write_found.Goals as goal

pub write_marks-requires : goal.write_marks-requires
write_marks-requires c = let S = (pass_state c.requires.pass_outcome).0 in record { bipartite = S.graph; cases = S.pairs }

pub returns-in-Some : goal.returns-in-Some
returns-in-Some c =
    found_none (rw c.in-Some.is at c.requires.pass_outcome) (omega (arith, rw c.in-Some.is at c.requires.in_mate, (pass_state c.requires.pass_outcome).0.pairs.len)) c.write_marks.ensures
    (c.fill.ensures.after (λ y e. e) ∙ ap zero_list (c.requires.x_len ∙ sym (tails_len c.args.records.now)))

pub write_amounts-requires : goal.write_amounts-requires
write_amounts-requires c =
    let S = (pass_state c.requires.pass_outcome).0 in
    (c.requires.x_len, λ e l. omega (arith, S.graph.below e (omega (arith, tails_len c.args.records.now)), S.pairs.len))

pub returns : goal.returns
returns c =
    found_saturating c.requires.pass_outcome (rw c.in_default.is (omega arith)) c.write_amounts.ensures
