-- The promises of specs/Promises.antt, kept.
use Rattle.runs.specs.Promises.{VoidIsOver, OverForEver, RefusalLeaves, FiveChangesNothing, FinishEnds, RefusedOpeningVoid, OnlyRefusals}
use Rattle.runs.specs.Promises.{OpeningAnswers, AnswersOfLists, HoldsAccepted, PointUnseen, ReadAsListed, ClaimsListed, AnswersExactly, TrueWhereSame}
use Rattle.runs.specs.Promises.{FirstBroken, ExchangeGives, ExchangeFinishes, ExchangeTrue, CertificatesPass, FewWrong, FewWrongCounted}
use Rattle.runs.proofs.Meets as meets
use Rattle.runs.proofs.Refusals as refusals
use Rattle.runs.proofs.RunsAgree as runs
use Rattle.runs.proofs.Verdict as verdict
use Rattle.runs.proofs.WrongAnswers as wrong

-- ---- demand 1

pub void_is_over : VoidIsOver
void_is_over = refusals.void_is_over

pub over_for_ever : OverForEver
over_for_ever = refusals.over_for_ever

pub refusal_leaves : RefusalLeaves
refusal_leaves = refusals.refusal_leaves

pub five_changes_nothing : FiveChangesNothing
five_changes_nothing = refusals.five_changes_nothing

pub finish_ends : FinishEnds
finish_ends = refusals.finish_ends

pub refused_opening_void : RefusedOpeningVoid
refused_opening_void = refusals.refused_opening_void

pub only_refusals : OnlyRefusals
only_refusals = refusals.only_refusals

-- ---- demand 2, for every list of steps

pub opening_answers : OpeningAnswers
opening_answers = runs.opening_answers

pub answers_of_lists : AnswersOfLists
answers_of_lists = runs.answers_of_lists

pub holds_accepted : HoldsAccepted
holds_accepted = runs.holds_accepted

pub point_unseen : PointUnseen
point_unseen = runs.point_unseen

pub read_as_listed : ReadAsListed
read_as_listed = runs.read_as_listed

pub claims_listed : ClaimsListed
claims_listed = meets.claims_listed

pub answers_exactly : AnswersExactly
answers_exactly = meets.answers_exactly

pub true_where_same : TrueWhereSame
true_where_same = meets.true_where_same

-- ---- demand 2, for an exchange in order

pub first_broken : FirstBroken
first_broken = verdict.first_broken

pub exchange_gives : ExchangeGives
exchange_gives = meets.exchange_gives

pub exchange_finishes : ExchangeFinishes
exchange_finishes = meets.exchange_finishes

pub exchange_true : ExchangeTrue
exchange_true = meets.exchange_true

pub certificates_pass : CertificatesPass
certificates_pass = meets.certificates_pass

-- ---- demand 3

pub few_wrong : FewWrong
few_wrong = wrong.few_wrong

pub few_wrong_counted : FewWrongCounted
few_wrong_counted = wrong.few_wrong_counted
