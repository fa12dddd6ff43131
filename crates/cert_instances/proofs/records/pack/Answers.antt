-- The loop's invariant: the arcs below e are those of the records, packed.
use mathlib.Core.Path.{◌≡◌, sym, ap, ◌∙◌}
use mathlib.Core.List.{map}
use Prim.Native.Nat.{ℕ}
use native.Mathlib.Omega.{arith}
use lib.ListN.{get_or, length-map, get_or-map}
use Rattle.network.specs.Question.{Question, question_of}
use Rattle.checks.specs.Held.{question_held}
use Rattle.cert_instances.specs.Certify.{packed_for}
use Rattle.prelude.proofs.Filling.{fill_start, fill_turn}
use Rattle.packed_arcs.proofs.ListLoops.{filled_as}
use Rattle.cert_instances.proofs.records.pack.Goals as goal

pub loop-e-preserved : goal.loop-e-preserved
loop-e-preserved c =
    let f = packed_for (question_held c.question_of-question.result) in
    fill_turn (λ i k. k ≡ f (get_or c.args.records.now i 0)) (f 0) c.args.arcs.now
    c.loop-e.arcs c.loop-e.e c.packed_arc.result (omega (arith, c.requires, c.loop-e-test.true)) c.packed_arc.ensures c.loop-e.invariant

pub returns : goal.returns
returns c =
    let f = packed_for (question_held c.question_of-question.result) in
    let rs = c.args.records.now in
    filled_as (λ i. f (get_or rs i 0)) (f 0) c.args.arcs.now c.loop-e.arcs (map f rs) c.loop-e.e (omega (arith, c.requires, c.loop-e-test.false))
    (length-map rs f ∙ sym c.requires) (λ i h. get_or-map f rs i 0) c.loop-e.invariant
    ∙ ap (λ (q : Question). map (packed_for q) rs) c.question_of-question.ensures
    ∙ ap (λ (k : ℕ). map (packed_for (question_of k)) rs) c.from.ensures

pub loop-e-init : goal.loop-e-init
loop-e-init c = fill_start _ _ _
