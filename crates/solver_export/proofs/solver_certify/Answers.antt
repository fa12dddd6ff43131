use Rattle.cert_instances.proofs.CertifyCases.{by_number}
use Rattle.solver_export.proofs.solver_certify.Goals as goal

pub returns : goal.returns
returns c = by_number c.claim_number.ensures c.certify.ensures
