-- What is accepted may be matched, and what is found is written as a certificate.
use mathlib.Core.Path.{sym, ◌∙◌}
use Rattle.checks.specs.Held.{asked}
use Rattle.cert_assignment.proofs.AssignmentAnswer.{match_case, not_refused, potentials_low, marks_low, match_answer, none_answer}
use Rattle.cert_assignment.proofs.answer_assignment.Goals as goal

pub write-requires : goal.write-requires
write-requires c =
    let q = c.requires.admissible in
    let l = c.requires.amounts_len in (
      l.1 ∙ sym (c.solve.auto.pi ∙ l.2),
      potentials_low (asked c.args.st) c.args.records.now q.0 q.1 (match_case (asked c.args.st) c.args.records.now q.0 q.1 l.2 l.0 (rw (c.pumps.ensures, c.in-Ok-Saturating.field-0-is) at c.in-Ok-Saturating.ensures)),
    )

pub write-requires-in-Ok-Deficient : goal.write-requires-in-Ok-Deficient
write-requires-in-Ok-Deficient c =
    let q = c.requires.admissible in
    let l = c.requires.amounts_len in (
      l.1 ∙ sym (c.solve.auto.pi ∙ l.2),
      marks_low (asked c.args.st) c.args.records.now q.0 q.1 (match_case (asked c.args.st) c.args.records.now q.0 q.1 l.2 l.0 (rw (c.pumps.ensures, c.in-Ok-Deficient.field-0-is) at c.in-Ok-Deficient.ensures)),
    )

pub returns-in-Ok-Saturating : goal.returns-in-Ok-Saturating
returns-in-Ok-Saturating c =
    let q = c.requires.admissible in
    let l = c.requires.amounts_len in
    match_answer (asked c.args.st) c.args.records.now q.0 q.1 (match_case (asked c.args.st) c.args.records.now q.0 q.1 l.2 l.0 (rw (c.pumps.ensures, c.in-Ok-Saturating.field-0-is) at c.in-Ok-Saturating.ensures)) c.write.ensures

pub returns-in-Ok-Deficient : goal.returns-in-Ok-Deficient
returns-in-Ok-Deficient c =
    let q = c.requires.admissible in
    let l = c.requires.amounts_len in
    none_answer (asked c.args.st) c.args.records.now q.0 q.1 (match_case (asked c.args.st) c.args.records.now q.0 q.1 l.2 l.0 (rw (c.pumps.ensures, c.in-Ok-Deficient.field-0-is) at c.in-Ok-Deficient.ensures)) c.write-in-Ok-Deficient.ensures

pub unreachable-requires : goal.unreachable-requires
unreachable-requires c =
    let q = c.requires.admissible in
    let l = c.requires.amounts_len in
    absurd (not_refused (asked c.args.st) c.args.records.now q.0 q.1 l.2 l.0 (rw c.pumps.ensures at c.in-Err.ensures))
