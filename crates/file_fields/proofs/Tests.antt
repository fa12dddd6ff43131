-- The tests of a layout.
use mathlib.Core.Path.{◌≡◌, refl}
use mathlib.Core.Bool.{Bool, true, false, ◌&&◌}

-- the second of two tests
pub second_off : (s t : Bool) → t ≡ false → (s && t) ≡ false
second_off true t p = p
second_off false t p = refl
