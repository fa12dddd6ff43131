use mathlib.Core.Path.{refl}
use native.Mathlib.Omega.{arith}
use Rattle.packed_arcs.specs.Entries.{entry}
use Rattle.flow_residual.proofs.PhaseLaws.{start_turn}
use Rattle.flow_search.proofs.SearchLaws.{queued_none, queued_more, first_most}
use Rattle.flow_search.proofs.start.Goals as goal

pub loop-v-init : goal.loop-v-init
loop-v-init c = (record { within = omega arith; len = refl; below = λ j h. absurd (omega arith) }, queued_none _ _ _ c.requires.2)

pub loop-v-preserved : goal.loop-v-preserved
loop-v-preserved c = (
  start_turn c.args.left.now c.args.key.now c.loop-v.key c.loop-v.v c.first_key-k.result c.requires.0
      (omega arith) c.first_key-k.ensures c.loop-v.invariant.0,
  queued_more c.loop-v.v c.first_key-k.result (omega (arith, c.loop-v.invariant.0.len, c.requires.0))
      (omega (arith, c.requires.1))
      (omega (arith, c.first_key-k.ensures, first_most (entry c.args.left.now c.loop-v.v))) c.put.ensures c.loop-v.invariant.1,
)
