use mathlib.Core.Path.{◌∙◌}
use mir.Syntax.{w32}
use Rattle.words.proofs.Signs.{back}
use Rattle.vertex_arrays.proofs.ends_of.Goals as goal

pub returns : goal.returns
returns c = λ i. record {
  tail_number = (back w32 c.potential_of.result c.potential_of.type_inv ∙ c.potential_of.ensures) i;
  head_number = (back w32 c.potential_of-2.result c.potential_of-2.type_inv ∙ c.potential_of-2.ensures) i;
  tail_marked = c.is_marked.ensures i;
  head_marked = c.is_marked-2.ensures i;
}
