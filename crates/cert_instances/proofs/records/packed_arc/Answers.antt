-- The parts are those of the word, and below what they are packed in.
use mathlib.Core.Path.{◌≡◌, ap, ◌∙◌}
use Prim.Native.Nat.{ℕ, ◌<◌}
use native.Mathlib.Omega.{arith}
use Rattle.arc_records.specs.Arcs.{Arc, word_arc}
use Rattle.network.specs.Question.{Question, unit_cost}
use Rattle.checks.specs.Held.{question_held}
use Rattle.cert_instances.specs.Certify.{capacity_for}
use Rattle.cert_instances.proofs.Solutions.{cost_low, capacity_low}
use Rattle.cert_instances.proofs.records.packed_arc.Goals as goal

module _ (q : Question) (w : ℕ) {e : Arc} (e_is : e ≡ word_arc w) {k : ℕ} where
  cost_is : k ≡ unit_cost q e → k ≡ unit_cost q (word_arc w)
  cost_is h = h ∙ ap (unit_cost q) e_is

  capacity_is : k ≡ capacity_for q e → k ≡ capacity_for q (word_arc w)
  capacity_is h = h ∙ ap (capacity_for q) e_is

  cost_below : k ≡ unit_cost q e → k < 65536
  cost_below h = omega (arith, cost_is h, cost_low q (word_arc w) (omega arith))

  capacity_below : k ≡ capacity_for q e → k < 65536
  capacity_below h = omega (arith, capacity_is h, capacity_low q (word_arc w) (omega arith))

pub overflow_mul-result : goal.overflow_mul-result
overflow_mul-result c = omega (arith, ap (λ (e : Arc). e.head) c.arc_in-arc.ensures)

pub overflow_add-result : goal.overflow_add-result
overflow_add-result c = omega (arith, ap (λ (e : Arc). e.tail) c.arc_in-arc.ensures, ap (λ (e : Arc). e.head) c.arc_in-arc.ensures)

pub overflow_mul-result-2 : goal.overflow_mul-result-2
overflow_mul-result-2 c = omega (arith, cost_below (question_held c.args.question) c.args.word c.arc_in-arc.ensures c.unit_cost.ensures)

pub overflow_add-result-2 : goal.overflow_add-result-2
overflow_add-result-2 c =
    omega (
      arith,
      ap (λ (e : Arc). e.tail) c.arc_in-arc.ensures,
      ap (λ (e : Arc). e.head) c.arc_in-arc.ensures,
      cost_below (question_held c.args.question) c.args.word c.arc_in-arc.ensures c.unit_cost.ensures,
    )

pub overflow_mul-result-3 : goal.overflow_mul-result-3
overflow_mul-result-3 c = omega (arith, capacity_below (question_held c.args.question) c.args.word c.arc_in-arc.ensures c.capacity_of.ensures)

pub overflow_add-result-3 : goal.overflow_add-result-3
overflow_add-result-3 c =
    omega (
      arith,
      ap (λ (e : Arc). e.tail) c.arc_in-arc.ensures,
      ap (λ (e : Arc). e.head) c.arc_in-arc.ensures,
      cost_below (question_held c.args.question) c.args.word c.arc_in-arc.ensures c.unit_cost.ensures,
      capacity_below (question_held c.args.question) c.args.word c.arc_in-arc.ensures c.capacity_of.ensures,
    )

pub returns : goal.returns
returns c =
    omega (
      arith,
      ap (λ (e : Arc). e.tail) c.arc_in-arc.ensures,
      ap (λ (e : Arc). e.head) c.arc_in-arc.ensures,
      cost_is (question_held c.args.question) c.args.word c.arc_in-arc.ensures c.unit_cost.ensures,
      capacity_is (question_held c.args.question) c.args.word c.arc_in-arc.ensures c.capacity_of.ensures,
    )
