use mathlib.Core.Path.{◌∙◌, ap}
use Prim.Native.Nat.{◌*◌}
use native.Mathlib.Omega.{arith}
use lib.IntN.{ℤ, pos}
use mir.Syntax.{w64}
use mir.Facts.{to_z-of_z}
use Rattle.words.specs.Bounded.{bounded_sum}
use Rattle.words.proofs.Signs.{back}
use Rattle.session_groups.proofs.GroupLaws.{product_fits}
use Rattle.state.proofs.additions.cost_after.Goals as goal

pub overflow_mul-x : goal.overflow_mul-x
overflow_mul-x c = omega (arith, product_fits c.args.x c.args.unit c.requires.unit_bound c.requires.x_bound)

pub returns : goal.returns
returns c = back w64 c.increase.result c.increase.type_inv ∙ c.increase.ensures ∙ ap (λ (z : ℤ). bounded_sum z (pos (c.args.x * c.args.unit))) (to_z-of_z c.ranges.cost)
