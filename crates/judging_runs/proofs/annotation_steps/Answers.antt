-- At each place where it ends, what it gives is what the steps come out as.
use mathlib.Core.Path.{refl, ◌∙◌, ap}
use Rattle.network.specs.Question.{Answer}
use Rattle.refusals.specs.Refusals.{number}
use Rattle.refusals.proofs.Exits.{exit_as, number_not_0}
use Rattle.state.specs.Answers.{answered}
use Rattle.state.specs.Results.{verdict}
use Rattle.state.proofs.Laws.{stays, goes}
use Rattle.judging_runs.proofs.StepLoops.{gives_answered}
use Rattle.judging_runs.proofs.AnnotationReturns.{at_end, at_claim, at_numbers, at_repeats, at_finish, at_answer}
use Rattle.judging_runs.proofs.annotation_steps.Goals as goal

pub returns-in_err-ended : goal.returns-in_err-ended
returns-in_err-ended c =
    exit_as verdict _ _ c.from_residual.ensures.1
    ∙ at_end c.args.x c.args.n c.args.file.now (stays c.args.x (number c.in_err-ended.field-0.0)) c.in_err-ended.ensures (number_not_0 _)

pub returns-in_err-claimed : goal.returns-in_err-claimed
returns-in_err-claimed c =
    exit_as verdict _ _ c.from_residual-in_err-claimed.ensures.1
    ∙ at_claim c.args.x c.args.n c.args.file.now (goes c.in_ok-ended.ended) c.in_ok-ended.ensures
    refl c.claim.result c.claim.ensures (stays c.in_ok-ended.ended (number c.in_err-claimed.field-0.0)) c.in_err-claimed.ensures (number_not_0 _)

pub returns-in_err-numbered : goal.returns-in_err-numbered
returns-in_err-numbered c =
    exit_as verdict _ _ c.from_residual-in_err-numbered.ensures.1
    ∙ at_numbers c.args.x c.args.n c.args.file.now (goes c.in_ok-ended.ended) c.in_ok-ended.ensures refl c.claim.result c.claim.ensures (goes c.in_ok-claimed.claimed) c.in_ok-claimed.ensures
    refl _ _ c.in_err-numbered.ensures (number_not_0 _)

pub returns-in_err-last : goal.returns-in_err-last
returns-in_err-last c =
    exit_as verdict _ _ c.from_residual-in_err-last.ensures.1
    ∙ at_repeats c.args.x c.args.n c.args.file.now (goes c.in_ok-ended.ended) c.in_ok-ended.ensures refl c.claim.result c.claim.ensures (goes c.in_ok-claimed.claimed) c.in_ok-claimed.ensures refl 0 _ c.in_ok-numbered.ensures
    refl _ _ c.in_err-last.ensures (number_not_0 _)

pub returns-in_err-finish_check : goal.returns-in_err-finish_check
returns-in_err-finish_check c =
    exit_as verdict _ _ c.from_residual-in_err-finish_check.ensures.1
    ∙ at_finish c.args.x c.args.n c.args.file.now (goes c.in_ok-ended.ended) c.in_ok-ended.ensures refl c.claim.result c.claim.ensures (goes c.in_ok-claimed.claimed) c.in_ok-claimed.ensures refl 0 _ c.in_ok-numbered.ensures refl 0 _ c.in_ok-last.ensures
    refl _ c.in_err-finish_check.ensures (number_not_0 _)

pub returns : goal.returns
returns c =
    gives_answered _
    ∙ at_answer c.args.x c.args.n c.args.file.now (goes c.in_ok-ended.ended) c.in_ok-ended.ensures refl c.claim.result c.claim.ensures (goes c.in_ok-claimed.claimed) c.in_ok-claimed.ensures refl 0 _ c.in_ok-numbered.ensures refl 0 _ c.in_ok-last.ensures
    refl 0 c.in_ok-finish_check.ensures refl _ (ap (λ (a : Answer). answered a) c.answer.ensures)
