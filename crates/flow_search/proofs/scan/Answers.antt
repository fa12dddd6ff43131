use mathlib.Core.Path.{◌∙◌, sym}
use Rattle.flow_search.proofs.SearchLaws.{scan_step, scan_end}
use Rattle.flow_search.proofs.scan.Goals as goal

pub loop-e-preserved : goal.loop-e-preserved
loop-e-preserved c =
    rw c.from-e-in-loop-e.ensures
    (scan_step c.requires.chains.2 c.loop-e.invariant.keeps.key_len (c.loop-e.invariant.keeps.par_len ∙ c.requires.chains.1 ∙ sym c.loop-e.invariant.keeps.key_len) c.loop-e.invariant
    c.loop-e-test.true c.requires.chains.0 c.relax.ensures)

pub returns : goal.returns
returns c =
    scan_end c.requires.chains.2 c.loop-e.invariant c.loop-e-test.false
