use Rattle.cert_instances.proofs.CertifyCases.{one_each, lent}
use Rattle.cert_path.proofs.certify_path.Goals as goal

pub slice_bounds-answer_path-end : goal.slice_bounds-answer_path-end
slice_bounds-answer_path-end c = lent c.requires.admissible.0 _ c.requires.amounts_len.1

pub slice_bounds-answer_path-end-2 : goal.slice_bounds-answer_path-end-2
slice_bounds-answer_path-end-2 c = lent c.requires.admissible.0 _ c.requires.amounts_len.1

pub answer_path-requires : goal.answer_path-requires
answer_path-requires c =
    let z = one_each c.requires.admissible.0 _ c.requires.amounts_len.1 in
    record { admissible = c.requires.admissible; amounts_len = c.requires.amounts_len; left_len = (z, z) }
