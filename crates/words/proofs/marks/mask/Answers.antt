use Rattle.words.specs.Masks.{mask}
use Rattle.words.proofs.marks.mask.Goals as goal

pub returns : goal.returns
unfolding mask
returns c = rw (c.saturating_sub.ensures, c.mask_below.ensures, c.mask_below-2.ensures)
