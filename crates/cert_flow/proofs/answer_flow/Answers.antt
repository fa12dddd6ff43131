use Rattle.checks.specs.Held.{asked}
use Rattle.cert_instances.proofs.Solutions.{flow_solution}
use Rattle.cert_instances.proofs.FlowInputs.{flow_run, marks_writable}
use Rattle.cert_flow.proofs.answer_flow.Goals as goal

pub write-requires : goal.write-requires
write-requires c =
    let run = flow_run (asked c.args.st) c.args.records.now c.requires.admissible.0 c.requires.admissible.1 c.pack.ensures c.requires.amounts_len.0 c.requires.arcs_len.1
    c.solve.ensures in
    marks_writable run c.requires.amounts_len.1

pub returns : goal.returns
returns c =
    let run = flow_run (asked c.args.st) c.args.records.now c.requires.admissible.0 c.requires.admissible.1 c.pack.ensures c.requires.amounts_len.0 c.requires.arcs_len.1
    c.solve.ensures in
    flow_solution c.requires.admissible.0 c.requires.admissible.1 run c.write.ensures
