-- What is drawn is what the words that are left give.
use mathlib.Core.Path.{◌≡◌}
use Rattle.std.specs.Slice.Iter.{chunks_exact_rest, chunks_exact_size}
use Rattle.point_draw.specs.Draw.{drawn}
use Rattle.point_draw.proofs.draw.Given as goal

abbrev pub invariant-loop-word : goal.invariant-loop-word
invariant-loop-word l = (chunks_exact_size l.word-iterator ≡ 4) × (drawn l.random ≡ drawn (chunks_exact_rest l.word-iterator))
