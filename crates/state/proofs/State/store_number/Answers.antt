use mathlib.Core.Path.{◌∙◌, ap}
use lib.IntN.{ℤ}
use lib.ListN.{set}
use mir.Facts.{to_z-of_z}
use Rattle.state.proofs.State.store_number.Goals as goal

pub returns : goal.returns
returns c = c.store.ensures ∙ ap (λ (z : ℤ). set c.args.potentials.now c.args.self.numbering.given z) (to_z-of_z c.ranges.y)
