-- The words of the front and of the rest are the two halves of the words.
use mathlib.Core.Path.{refl, ap, ap₂, ◌∙◌}
use Prim.Native.Nat.{◌*◌, ◌/◌}
use native.Mathlib.Omega.{arith}
use lib.ListN.{length}
use Rattle.point_draw.specs.Draw.{first_point, drawn, paired}
use Rattle.point_draw.proofs.Halves.{front_words, rest_words, zip_paired}
use Rattle.point_draw.proofs.draw_pair.Goals as goal

pub returns : goal.returns
returns c =
    let random = c.args.random.now in
    let j = length random / 8 in
    c.zip.ensures
    ∙ zip_paired _ _
    ∙ ap₂ paired
    (c.draw.ensures ∙ ap drawn c.split_at.ensures.front ∙ ap first_point (front_words random j (j * 4) refl (omega arith)))
    (c.draw-2.ensures ∙ ap drawn c.split_at.ensures.back ∙ ap first_point (rest_words random j (j * 4) refl (omega arith)))
