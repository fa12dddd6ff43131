use mathlib.Core.Path.{sym, ◌∙◌}
use native.Mathlib.Omega.{arith}
use Rattle.checks.specs.Held.{asked}
use Rattle.cert_instances.proofs.CertifyCases.{by_number}
use Rattle.helper.proofs.FoundAnnotation.{found, filled, records_many}
use Rattle.helper.proofs.writing.write_solution.Goals as goal

pub write_file-requires : goal.write_file-requires
write_file-requires c =
    let f = found c.args.net.now c.requires.accepted_file c.args.records.now c.requires.records_value (asked c.setting.result) c.args.numbers.now c.certify-finding.new.numbers
    c.args.amounts.now c.certify-finding.new.amounts c.claim_number-claim.result c.setting.ensures c.requires.numbers_len.0 c.requires.numbers_len.1 (by_number c.claim_number-claim.ensures c.certify-finding.ensures) in
    record { numbers_in_bounds = omega (arith, f.numbers_many, c.requires.net_in_bounds); records_len = records_many c.args.net.now c.requires.accepted_file c.args.records.now c.requires.records_value ∙ sym f.amounts_many }

pub returns : goal.returns
returns c =
    let f = found c.args.net.now c.requires.accepted_file c.args.records.now c.requires.records_value (asked c.setting.result) c.args.numbers.now c.certify-finding.new.numbers
    c.args.amounts.now c.certify-finding.new.amounts c.claim_number-claim.result c.setting.ensures c.requires.numbers_len.0 c.requires.numbers_len.1 (by_number c.claim_number-claim.ensures c.certify-finding.ensures) in
    filled c.args.net.now c.args.buffer.now c.certify-finding.new.numbers c.certify-finding.new.amounts c.claim_number-claim.result f
    c.args.records.now c.count.result c.write_file.new.buffer c.requires.records_value c.count.ensures c.requires.net_in_bounds c.write_file.ensures

pub setting-requires : goal.setting-requires
setting-requires c = tt

pub certify-finding-requires : goal.certify-finding-requires
certify-finding-requires c = tt

pub claim_number-claim-requires : goal.claim_number-claim-requires
claim_number-claim-requires c = tt

pub count-requires : goal.count-requires
count-requires c = tt

pub shape_of-numbers : goal.shape_of-numbers
shape_of-numbers c = c.certify-finding.auto.numbers

pub shape_of-amounts : goal.shape_of-amounts
shape_of-amounts c = c.certify-finding.auto.amounts

pub shape_of-buffer : goal.shape_of-buffer
shape_of-buffer c = c.write_file.auto.buffer
