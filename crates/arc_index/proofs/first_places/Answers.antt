-- The loop's invariant: each vertex below v has its own place.
use mathlib.Core.Path.{◌∙◌, ap}
use Prim.Native.Nat.{ℕ}
use native.Mathlib.Omega.{arith}
use lib.ListN.{length-replicate}
use Rattle.prelude.specs.Lists.{list_to}
use Rattle.packed_arcs.specs.Entries.{zero_list}
use Rattle.arc_index.proofs.Filled.{number_start, number_turn, number_end}
use Rattle.arc_index.proofs.first_places.Goals as goal

pub loop-v-preserved : goal.loop-v-preserved
loop-v-preserved c = number_turn (zero_list 256) c.loop-v.last c.loop-v.v (omega (arith, length-replicate {A = ℕ} 256 0)) c.loop-v.invariant

pub returns : goal.returns
returns c =
    number_end (zero_list 256) c.loop-v.last c.loop-v.v (omega (arith, length-replicate {A = ℕ} 256 0)) c.loop-v.invariant
    ∙ ap (λ (n : ℕ). list_to n (λ v. v)) (length-replicate {A = ℕ} 256 0)

pub loop-v-init : goal.loop-v-init
loop-v-init c = number_start _
