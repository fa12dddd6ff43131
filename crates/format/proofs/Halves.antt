-- A number as two halves, of whatever width: taken apart and put together, and the other way round.
use mathlib.Core.Path.{◌≡◌, ◌∙◌}
use Prim.Native.Nat.{ℕ, ◌+◌, ◌*◌, ◌/◌, ◌%◌, ◌<◌}
use native.Mathlib.Nat.{div-add-mod, mul-add-div, div-eq_of_lt, mul-add-mod_self_left, mod-eq_of_lt}
use native.Mathlib.Omega.{arith}

module _ (base : ℕ) where
  pub whole : (v : ℕ) → base * (v / base) + v % base ≡ v
  whole v = div-add-mod v base

  module _ (high low : ℕ) (h : low < base) where
    pub high_half : (base * high + low) / base ≡ high
    high_half = mul-add-div (omega arith) high low ∙ omega (arith, div-eq_of_lt h)

    pub low_half : (base * high + low) % base ≡ low
    low_half = mul-add-mod_self_left base high low ∙ mod-eq_of_lt h
