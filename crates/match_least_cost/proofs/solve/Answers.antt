use mathlib.Core.Path.{refl, sym, ap, ◌∙◌}
use lib.ListN.{length}
use Rattle.packed_arcs.specs.Entries.{zero_list}
use Rattle.arc_index.proofs.Columns.{tails_len}
use Rattle.match_least_cost.specs.Outcome.{MatchOutcome}
use Rattle.match_least_cost.proofs.Finding.{Matchable, matchable_facts, bipartite_at, outcome_at, found_too_few}
use Rattle.match_least_cost.proofs.solve.Goals as goal
use Rattle.match_least_cost.proofs.solve.Goals.{Else-not-is_matchable}

facts : (c : Else-not-is_matchable) → Matchable c.args.records.now c.args.h (length c.args.pi.now) (length c.args.x.now)
facts c =
    matchable_facts c.args.records.now c.args.h (length c.args.pi.now) (length c.args.x.now) (sym c.is_matchable.ensures ∙ c.if-not-is_matchable.false)

pub returns-then-not-is_matchable : goal.returns-then-not-is_matchable
returns-then-not-is_matchable c = MatchOutcome.refused (sym c.is_matchable.ensures ∙ c.if-not-is_matchable.true) refl refl

pub overflow_sub-n : goal.overflow_sub-n
overflow_sub-n c = (facts (goal.at.overflow_sub-n c).Else-not-is_matchable).within

pub returns-then-h-n : goal.returns-then-h-n
returns-then-h-n c =
    let F = facts (goal.at.returns-then-h-n c).Else-not-is_matchable in
    MatchOutcome.found (sym c.is_matchable.ensures ∙ c.if-not-is_matchable.false)
    (found_too_few c.if-h-n.true (c.fill.ensures.after (λ y e. e))
    (c.fill-then-h-n.ensures.after (λ y e. e) ∙ ap zero_list (F.one_each ∙ sym (tails_len c.args.records.now))))

pub find_by_search-requires : goal.find_by_search-requires
find_by_search-requires c =
    let F = facts (goal.at.find_by_search-requires c).Else-not-is_matchable in
    let same = c.fill.auto.self in
    record { bipartite = bipartite_at refl same F.graph; x_len = (F.one_each, c.fill.ensures.after (λ y e. e) ∙ ap zero_list (sym same)) }

pub returns : goal.returns
returns c =
    MatchOutcome.found (sym c.is_matchable.ensures ∙ c.if-not-is_matchable.false)
    (outcome_at refl c.fill.auto.self c.find_by_search.ensures)
