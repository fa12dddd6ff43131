-- The promises of specs/Promises.antt, kept.
use Rattle.network.specs.Question.{asks}
use Rattle.network.specs.Promises.{OneAnswer, AnyOrder, Sound, SameWhereHalf, SelfLoopsRead, SelfLoopsCancel, SelfLoopsStay, SelfLoopsChangeNothing, SelfLoopsAreLoops, SelfLoopsCertified, TestsMean, TestsSuffice, TestsNeeded, KeysTell, KeysBelow, KeysDiffer}
use Rattle.network.proofs.Allowed.{asked_rule, asked_test, size_rule, size_test, ends_rule, ends_test, joins_rule, joins_test, weight_rule, weight_test, claim_rule, claim_test}
use Rattle.network.proofs.Orders.{unique, any_order}
use Rattle.network.proofs.Sound.{sound}
use Rattle.network.proofs.PerfectMatchings as matchings
use Rattle.network.proofs.SelfLoops.{loop_allowed, loop_refused, loop_cancels, loop_stays, same_without, loop_is_loop, loop_certified}
use Rattle.network.proofs.Tests.{passed_certified, certified_passed, certified_answer}
use Rattle.network.proofs.Keys.{keys_tell}
use Rattle.network.proofs.Keys.{keys_below as below, keys_differ as differ}

pub one_answer : OneAnswer
one_answer = unique

pub order_free : AnyOrder
order_free st net new d a h = any_order st d a h

pub certificates_sound : Sound
certificates_sound = sound

pub same_where_half : SameWhereHalf
same_where_half = matchings.same_where_half

pub self_loops_read : SelfLoopsRead
self_loops_read = record { for_others = loop_allowed; not_for_assignment = loop_refused }

pub self_loops_cancel : SelfLoopsCancel
self_loops_cancel = loop_cancels

pub self_loops_stay : SelfLoopsStay
self_loops_stay = loop_stays

pub self_loops_change_nothing : SelfLoopsChangeNothing
self_loops_change_nothing = same_without

pub self_loops_are_loops : SelfLoopsAreLoops
self_loops_are_loops = loop_is_loop

pub self_loops_certified : SelfLoopsCertified
self_loops_certified st y f g l a q o h s = loop_certified st y f g l s a q o h

pub tests_mean : TestsMean
tests_mean = record {
  check_1 = λ st. (asked_rule (asks st), asked_test (asks st));
  check_2 = λ st. (size_rule st, size_test st);
  check_3 = λ st. (ends_rule st, ends_test st);
  check_7 = λ st e. (joins_rule st e, joins_test st e);
  check_8 = λ e. (weight_rule e, weight_test e);
  check_9 = λ st k. (claim_rule st k, claim_test st k);
}

pub tests_suffice : TestsSuffice
tests_suffice st c y f o p = passed_certified st c y f p

pub tests_needed : TestsNeeded
tests_needed st y f a c = (certified_passed st y f a c, certified_answer st y f a c)

pub keys_below : KeysBelow
keys_below = below

pub keys_differ : KeysDiffer
keys_differ = differ

pub keys_tell_arcs : KeysTell
keys_tell_arcs st net new o h k d = keys_tell st o net new h k d
