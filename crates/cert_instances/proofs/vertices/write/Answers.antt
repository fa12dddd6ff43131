-- The loop's invariant: the numbers below v are written.
use mathlib.Core.Path.{◌≡◌, ap, ◌∙◌}
use Prim.Native.Nat.{ℕ, ◌^◌, ◌<◌, ◌≤◌}
use native.Mathlib.Omega.{arith}
use lib.IntN.{ℤ, pos}
use mir.Syntax.{w32}
use mir.Val.{to_z, hbits}
use mir.Facts.{to_z_pos}
use borrow.Author.Rules.{sfits_of}
use Rattle.prelude.proofs.Filling.{fill_start, fill_turn, fill_end}
use Rattle.arc_records.specs.Limits.{most_potential}
use Rattle.cert_instances.specs.Instance.{number_of}
use Rattle.packed_arcs.specs.Entries.{entry}
use Rattle.cert_instances.proofs.vertices.write.Goals as goal

-- a number that is written fits
small : (r k : ℕ) → r ≡ k → k ≤ most_potential → r < 2 ^ hbits w32
small r k e h = omega arith

pub overflow_cast-numbers : goal.overflow_cast-numbers
overflow_cast-numbers c =
    sfits_of (small _ _ c.number_of.ensures (c.requires.1 c.loop-v.v c.loop-v-test.true))

pub bounds-numbers-v : goal.bounds-numbers-v
bounds-numbers-v c = omega (arith, c.loop-v.invariant.len, c.requires.0)

pub loop-v-preserved : goal.loop-v-preserved
loop-v-preserved c =
    let z = to_z_pos w32 (small _ _ c.number_of.ensures (c.requires.1 c.loop-v.v c.loop-v-test.true)) ∙ ap pos c.number_of.ensures in
    fill_turn (λ i n. n ≡ pos (number_of c.args.kind (entry c.args.from.now i))) (pos 0) c.args.numbers.now c.loop-v.numbers c.loop-v.v (to_z w32 c.number_of.result) (omega (arith, c.requires.0)) z c.loop-v.invariant

pub shape_of-numbers : goal.shape_of-numbers
shape_of-numbers c = c.loop-v.invariant.len

pub returns : goal.returns
returns c =
    let P : ℕ → ℤ → Type 0 = λ i z. z ≡ pos (number_of c.args.kind (entry c.args.from.now i)) in
    record { len = c.loop-v.invariant.len ∙ c.requires.0; each = λ v h. fill_end P (pos 0) c.args.numbers.now c.loop-v.numbers c.loop-v.v (omega (arith, c.requires.0)) c.loop-v.invariant v (omega (arith, c.requires.0)) }

pub loop-v-init : goal.loop-v-init
loop-v-init c = fill_start _ _ _
