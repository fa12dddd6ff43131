use mathlib.Core.Path.{◌∙◌, ap, ap₂}
use native.Mathlib.Omega.{arith}
use lib.IntN.{ℤ, pos}
use mir.Syntax.{w64}
use Rattle.words.proofs.Signs.{back}
use Rattle.arc_records.specs.Arcs.{arc_held}
use Rattle.network.specs.Network.{load_held}
use Prim.Native.Nat.{ℕ, ◌+◌, ◌*◌}
use Rattle.words.specs.Bounded.{bounded_sum}
use Rattle.network.specs.Question.{Question, asks, unit_cost, units_most}
use Rattle.state.specs.State.{setting_held}
use Rattle.state.proofs.Laws.{cost_small, cut_read, repeat_done}
use Rattle.state.proofs.State.with_repeat.Goals as goal

pub cost_after-requires : goal.cost_after-requires
cost_after-requires c =
    record { unit_bound = rw (c.unit_cost.ensures, c.question_of-question.ensures) (cost_small (asks (setting_held c.args.self)) (arc_held c.args.arc) c.requires.weight_bound); x_bound = c.requires.x_bound }

pub returns : goal.returns
returns c =
    repeat_done c.args.self (load_held c.args.arc c.args.x) (λ i. record { count = c.args.self.repeating.list.count + 1; print = c.with_arc.ensures i })
    (back w64 c.cost_after.result c.cost_after.type_inv ∙ c.cost_after.ensures
    ∙ ap₂ (λ (z : ℤ) (u : ℕ). bounded_sum z (pos (c.args.x * u))) (back w64 c.args.self.repeating.cost (omega arith))
    (c.unit_cost.ensures ∙ ap (λ (k : Question). unit_cost k (arc_held c.args.arc)) c.question_of-question.ensures))
    (back w64 c.cut_after.result c.cut_after.type_inv ∙ c.cut_after.ensures
    ∙ cut_read (back w64 c.args.self.repeating.cut (omega arith)) (c.units_most.ensures ∙ ap (λ (k : Question). units_most k (arc_held c.args.arc)) c.question_of-question.ensures) c.requires.crossing_value)
