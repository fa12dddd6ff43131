-- A shorter file counts whole.
use mathlib.Core.Path.{◌≡◌, ap, ◌∙◌}
use Prim.Native.Nat.{ℕ, min}
use native.Mathlib.Omega.{arith}
use lib.ListN.{length, take}
use Rattle.std.proofs.lemmas.List.{take_min}
use Rattle.program_io.proofs.counted.counted.Goals as goal

pub returns : goal.returns
returns c =
    let file = c.args.file.now in
    let least : c.min.result ≡ min 32768 (length file) = omega arith in
    ap (λ (n : ℕ). take n file) least ∙ take_min 32768 file
