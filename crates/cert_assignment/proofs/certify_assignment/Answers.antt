use Rattle.cert_instances.proofs.CertifyCases.{one_each, lent}
use Rattle.cert_assignment.proofs.certify_assignment.Goals as goal

pub slice_bounds-answer_assignment-end : goal.slice_bounds-answer_assignment-end
slice_bounds-answer_assignment-end c = lent c.requires.admissible.0 _ c.requires.amounts_len.1

pub answer_assignment-requires : goal.answer_assignment-requires
answer_assignment-requires c =
    record { admissible = c.requires.admissible; amounts_len = (c.requires.amounts_len.0, c.requires.amounts_len.1, one_each c.requires.admissible.0 _ c.requires.amounts_len.1) }
