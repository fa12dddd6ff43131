use lib.Bits.{and_mask}
use Rattle.words.specs.Marks.{is_marked}
use Rattle.words.proofs.Bits.{low1, and_lit}
use Rattle.words.proofs.marks.is_marked.Goals as goal

pub overflow_shr-result : goal.overflow_shr-result
overflow_shr-result c = search (and_lit, tt)

pub returns : goal.returns
unfolding is_marked
returns c = simp (low1, and_mask c.args.v 6, c.word_of.ensures)
