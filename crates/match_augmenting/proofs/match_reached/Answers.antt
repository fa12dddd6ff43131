use mathlib.Core.Path.{refl}
use Rattle.match_augmenting.proofs.Reached.{path_found}
use Rattle.match_augmenting.proofs.match_reached.Goals as goal

pub augment-requires : goal.augment-requires
augment-requires c =
    path_found c.requires.state c.requires.reached refl c.raise.ensures.len c.raise.ensures
