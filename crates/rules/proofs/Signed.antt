-- Signed numbers that a call returned.
use mathlib.Core.Path.{◌≡◌, ◌∙◌}
use Prim.Native.Nat.{◌<◌, ◌^◌}
use lib.IntN.{ℤ}
use lib.Signed.{mag}
use mir.Syntax.{Width}
use mir.Val.{hbits, to_z, of_z}
use Rattle.words.proofs.Signs.{back}

pub returned : (w : Width) (z : ℤ) {x : ℤ} → mag z < 2 ^ hbits w → z ≡ x → to_z w (of_z w z) ≡ x
returned w z h e = back w z h ∙ e
