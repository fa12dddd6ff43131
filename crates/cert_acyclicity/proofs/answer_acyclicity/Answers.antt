-- What is accepted may be searched, and what is found is written as a certificate.
use mathlib.Core.Path.{◌≡◌, sym, ◌∙◌, subst}
use Rattle.std.specs.Prelude.{Result, Ok}
use Rattle.packed_arcs.specs.declared.OutOfLimits.{OutOfLimits}
use Rattle.order_path.specs.declared.Found.{Found}
use Rattle.order_path.specs.declared.Found.TheVariants.{Order, Cycle}
use Rattle.checks.specs.Held.{asked}
use Rattle.cert_acyclicity.proofs.AcyclicityAnswer.{FoundCase, found_case, is_found, found_low, order_answer, cycle_answer}
use Rattle.cert_acyclicity.proofs.answer_acyclicity.Goals as goal
use Rattle.cert_acyclicity.proofs.answer_acyclicity.Goals.{After-search}

-- the outcome of the search, taken apart
outcome : (c : After-search) → FoundCase (asked c.args.st) c.args.records.now c.requires.admissible.0 c.requires.admissible.1 c.search.new.ranks c.search.new.marks c.search.result
outcome c =
    found_case (asked c.args.st) c.args.records.now c.requires.admissible.0 c.requires.admissible.1 c.requires.amounts_len.2 c.requires.amounts_len.0 c.search.ensures

found_as : (c : After-search) (r : Result Found OutOfLimits) → c.search.result ≡ r → FoundCase (asked c.args.st) c.args.records.now c.requires.admissible.0 c.requires.admissible.1 c.search.new.ranks c.search.new.marks r
found_as c r e =
    subst (FoundCase (asked c.args.st) c.args.records.now c.requires.admissible.0 c.requires.admissible.1 c.search.new.ranks c.search.new.marks) e (outcome c)

pub unwrap-found-requires : goal.unwrap-found-requires
unwrap-found-requires c =
    is_found (asked c.args.st) c.args.records.now c.requires.admissible.0 c.requires.admissible.1 _ _ c.search.result (outcome (goal.at.unwrap-found-requires c).After-search)

pub write-requires : goal.write-requires
write-requires c =
    let l = c.requires.amounts_len in (
      l.1 ∙ sym (c.search.auto.ranks ∙ l.2),
      found_low (asked c.args.st) c.args.records.now c.requires.admissible.0 c.requires.admissible.1 _ _ c.unwrap-found.result (found_as (goal.at.write-requires c).After-search (Ok c.unwrap-found.result) c.unwrap-found.ensures),
    )

pub returns-in-Order : goal.returns-in-Order
returns-in-Order c =
    order_answer (asked c.args.st) c.args.records.now c.requires.admissible.0 c.requires.admissible.1 (found_as (goal.at.returns-in-Order c).After-search (Ok Order) c.in-Order.ensures) c.write.ensures

pub returns-in-Cycle : goal.returns-in-Cycle
returns-in-Cycle c =
    cycle_answer (asked c.args.st) c.args.records.now c.requires.admissible.0 c.requires.admissible.1 (found_as (goal.at.returns-in-Cycle c).After-search (Ok Cycle) c.in-Cycle.ensures) c.write.ensures
