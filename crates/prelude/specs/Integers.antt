-- Tests of integers.
use Rattle.std.specs.Prelude.{Bool, false, ◌&&◌, ℕ, eqb, ℤ, pos, negsuc}
use Rattle.std.specs.Int.Signed.{le_z}

-- Are two integers equal?
abbrev pub eq_z : ℤ → ℤ → Bool
eq_z (pos a) (pos b) = eqb a b
eq_z (pos a) (negsuc b) = false
eq_z (negsuc a) (pos b) = false
eq_z (negsuc a) (negsuc b) = eqb a b

-- The number z, 0 where it is negative.
abbrev pub natural : ℤ → ℕ
natural (pos n) = n
natural (negsuc n) = 0

-- Is z from low to high?
abbrev pub between : ℤ → ℤ → ℤ → Bool
between low high z = le_z low z && le_z z high
