use mathlib.Core.Path.{◌≡◌, refl, ◌∙◌, ap}
use borrow.Author.Rules.{rules}
use lib.ListN.{length}
use Rattle.packed_arcs.specs.Entries.{zero_list}
use Rattle.order_path.specs.Steps.OrderOrCycle.{ordered, cyclic}
use Rattle.order_acyclicity.proofs.decide.Goals as goal

pub returns-in-None : goal.returns-in-None
returns-in-None c = ordered c.in-None.ensures refl

pub returns-in-Some : goal.returns-in-Some
returns-in-Some c =
    let z : c.fill.new.self ≡ zero_list (length c.index_and_rank.new.ranks) = search rules in
    cyclic (z ∙ ap zero_list c.index_and_rank.auto.ranks) c.mark.ensures
