use mathlib.Core.Path.{sym, ◌∙◌, ap, subst}
use Rattle.prelude.proofs.Tested.{not_on, not_off}
use Rattle.network.specs.Question.{Asked}
use Rattle.checks.specs.Held.{asked, question_held}
use Rattle.cert_instances.proofs.CertifyCases.{begun, ended, turned_away}
use Rattle.solver.proofs.certify.Goals as goal

pub returns-then-not-is_admissible : goal.returns-then-not-is_admissible
returns-then-not-is_admissible c = turned_away _ _ _ _ _ (not_off _ c.if-not-is_admissible.true) c.is_admissible.ensures

pub certify_path-requires : goal.certify_path-requires
certify_path-requires c =
    let g = begun (asked c.args.st) c.args.records.now _ _ _ (not_on _ c.if-not-is_admissible.false) c.is_admissible.ensures in
    record { admissible = (g.0, sym c.question_of-question.ensures ∙ ap question_held c.in-Path.is); amounts_len = (g.1, g.2) }

pub certify_flow-requires : goal.certify_flow-requires
certify_flow-requires c =
    let g = begun (asked c.args.st) c.args.records.now _ _ _ (not_on _ c.if-not-is_admissible.false) c.is_admissible.ensures in
    record { admissible = (g.0, sym c.question_of-question.ensures ∙ ap question_held c.in-Flow.is); amounts_len = (g.1, g.2) }

pub certify_assignment-requires : goal.certify_assignment-requires
certify_assignment-requires c =
    let g = begun (asked c.args.st) c.args.records.now _ _ _ (not_on _ c.if-not-is_admissible.false) c.is_admissible.ensures in
    record { admissible = (g.0, sym c.question_of-question.ensures ∙ ap question_held c.in-Assignment.is); amounts_len = (g.1, g.2) }

pub certify_acyclicity-requires : goal.certify_acyclicity-requires
certify_acyclicity-requires c =
    let g = begun (asked c.args.st) c.args.records.now _ _ _ (not_on _ c.if-not-is_admissible.false) c.is_admissible.ensures in
    record { admissible = (g.0, sym c.question_of-question.ensures ∙ ap question_held c.in-Acyclicity.is); amounts_len = (g.1, g.2) }

pub returns-in-Path : goal.returns-in-Path
returns-in-Path c =
    ended (asked c.args.st) c.args.records.now _ _ _ _ _ _ (not_on _ c.if-not-is_admissible.false) c.is_admissible.ensures
    c.certify_path.auto.numbers c.certify_path.auto.amounts c.certify_path.ensures

pub returns-in-Flow : goal.returns-in-Flow
returns-in-Flow c =
    ended (asked c.args.st) c.args.records.now _ _ _ _ _ _ (not_on _ c.if-not-is_admissible.false) c.is_admissible.ensures
    c.certify_flow.auto.numbers c.certify_flow.auto.amounts c.certify_flow.ensures

pub returns-in-Assignment : goal.returns-in-Assignment
returns-in-Assignment c =
    ended (asked c.args.st) c.args.records.now _ _ _ _ _ _ (not_on _ c.if-not-is_admissible.false) c.is_admissible.ensures
    c.certify_assignment.auto.numbers c.certify_assignment.auto.amounts c.certify_assignment.ensures

pub returns-in-Acyclicity : goal.returns-in-Acyclicity
returns-in-Acyclicity c =
    ended (asked c.args.st) c.args.records.now _ _ _ _ _ _ (not_on _ c.if-not-is_admissible.false) c.is_admissible.ensures
    c.certify_acyclicity.auto.numbers c.certify_acyclicity.auto.amounts c.certify_acyclicity.ensures

pub returns-in-Unasked : goal.returns-in-Unasked
returns-in-Unasked c =
    let g = begun (asked c.args.st) c.args.records.now _ _ _ (not_on _ c.if-not-is_admissible.false) c.is_admissible.ensures in
    absurd (subst Asked (sym c.question_of-question.ensures ∙ ap question_held c.in-Unasked.is) g.0.opened.asked)
