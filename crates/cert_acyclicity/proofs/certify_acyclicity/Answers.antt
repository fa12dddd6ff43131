use Rattle.cert_instances.proofs.CertifyCases.{one_each, lent}
use Rattle.cert_acyclicity.proofs.certify_acyclicity.Goals as goal

pub slice_bounds-answer_acyclicity-end : goal.slice_bounds-answer_acyclicity-end
slice_bounds-answer_acyclicity-end c = lent c.requires.admissible.0 _ c.requires.amounts_len.1

pub answer_acyclicity-requires : goal.answer_acyclicity-requires
answer_acyclicity-requires c =
    record { admissible = c.requires.admissible; amounts_len = (c.requires.amounts_len.0, c.requires.amounts_len.1, one_each c.requires.admissible.0 _ c.requires.amounts_len.1) }
