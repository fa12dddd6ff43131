-- Sums of integers as the panel's machine words hold them.
use Rattle.std.specs.Prelude.{Bool, ◌&&◌, ℤ, pos, neg_ℤ, ◌+ℤ◌, ◌-ℤ◌}
use Rattle.prelude.specs.Choice.{pick}
use Rattle.prelude.specs.Integers.{between}

-- Is z small enough that the sum of two such numbers fits 64 bits? 2 ^ 61 is far above every sum that a session meets.
abbrev pub small : ℤ → Bool
small z = between (neg_ℤ (pos 2305843009213693952)) (pos 2305843009213693952) z

-- The sum of small numbers; of others the first number, so that it is defined for every pair.
abbrev pub bounded_sum : ℤ → ℤ → ℤ
bounded_sum a b = pick (small a && small b) (a +ℤ b) a

-- The difference of small numbers; of others the first number.
abbrev pub bounded_difference : ℤ → ℤ → ℤ
bounded_difference a b = pick (small a && small b) (a -ℤ b) a
