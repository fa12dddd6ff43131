use mathlib.Core.List.{List}
use mathlib.Core.Path.{◌∙◌, ap}
use lib.IntN.{ℤ}
use Rattle.vertex_arrays.specs.Arrays.{taken_at, moved}
use Rattle.vertex_arrays.proofs.move_amount.Goals as goal

pub returns : goal.returns
unfolding moved
returns c =
    c.take_at.ensures ∙ ap (λ (l : List ℤ). taken_at l c.args.arc.head c.args.x) c.add_at.ensures
