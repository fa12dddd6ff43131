use mathlib.Core.Path.{sym, ◌∙◌, ap}
use native.Mathlib.Omega.{arith}
use lib.IntN.{ℤ, pos}
use lib.ListN.{set}
use lib.Seq.{set_out}
use mir.Syntax.{w64}
use Rattle.prelude.specs.Lists.{at}
use Rattle.words.specs.Bounded.{bounded_sum}
use Rattle.words.proofs.Signs.{back}
use Rattle.vertex_arrays.proofs.add_at.Goals as goal

pub returns-then-balances-i : goal.returns-then-balances-i
returns-then-balances-i c = sym (set_out c.args.balances.now c.args.v (bounded_sum (at c.args.balances.now c.args.v) (pos c.args.x)) (omega arith))

pub returns : goal.returns
returns c = ap (λ (u : ℤ). set c.args.balances.now c.args.v u)
    (back w64 c.increase.result c.increase.type_inv ∙ c.increase.ensures ∙ ap (λ (z : ℤ). bounded_sum z (pos c.args.x)) (back w64 (at c.args.balances.now c.args.v) (omega arith)))
