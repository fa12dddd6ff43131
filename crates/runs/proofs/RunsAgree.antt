-- A run of a session is the run of the lists that it has accepted, for every opening: what its steps answer, the session that they hand back, and the list that was read.
-- What is accepted does not depend on the points.
use mathlib.Core.Path.{◌≡◌, refl, sym, ◌∙◌, ap, ap₂, subst}
use mathlib.Core.Bool.{Bool, true, false}
use mathlib.Core.List.{List, [], ◌∷◌, ◌++◌}
use Prim.Native.Nat.{ℕ}
use native.Mathlib.Omega.{arith}
use lib.Dec.{eqb, leb}
use lib.IntN.{ℤ}
use lib.ListN.{length}
use Rattle.prelude.specs.Checks.{◌unless◌, settle}
use Rattle.prelude.specs.Choice.{pick}
use Rattle.prelude.proofs.Settle.{settled, settle_map, settle_append}
use Rattle.arc_records.specs.Arcs.{Arc}
use Rattle.network.specs.Network.{Load, arcs}
use Rattle.network.specs.Question.{Setting, Opened, value, none}
use Rattle.network.specs.Tests.{opening_checks, reading_checks, claim_of, claiming_checks, balances_ok, sums_ok}
use Rattle.points.specs.Points.{IsPoint, point_ok}
use Rattle.points.specs.declared.Point.{Point}
use Rattle.points.specs.declared.Print.{Print}
use Rattle.points.proofs.Prints.{print_none, point_test}
use Rattle.state.specs.Answers.{Said, accepted, gives, refused, said}
use Rattle.state.specs.State.{held, open_checks, opened}
use Rattle.state.specs.Answers.{Refused}
use Rattle.session.specs.Session.{fresh, holding, void, hand, accept}
use Rattle.session.specs.Steps.{opening}
use Rattle.session.specs.Session.{Reply}
use Rattle.session.specs.declared.Session.{Session}
use Rattle.runs.specs.Run.{Step, read, end, claim, number, repeat, finish, step, run, session_after, run_from, answer_to, list_from}
use Rattle.runs.specs.AcceptedLists.{AcceptedLists, over, reading, has_read, claimed, numbers_of, sums_at, agree_at, step_checks, after_refusal, next, reply, replies, accepted_after, opened_lists, accepted_by, ReadIs}
use Rattle.runs.specs.HeldAtPoint.{session_of}
use Rattle.runs.specs.Exchange.{Opens}
use Rattle.runs.specs.Promises.{OpeningAnswers, AnswersOfLists, HoldsAccepted, PointUnseen, ReadAsListed}
use Rattle.runs.proofs.Openings.{opens_rule, opens_test}
use Rattle.runs.proofs.Invariant.{Invariant, settle_keeps, refusal_keeps, invariant_next}
use Rattle.runs.proofs.StepsAgree.{saying, Agrees, over_agrees, steps_agree}

-- ---- the session and the lists

said_back : (a : Said) → said (saying a) ≡ a
said_back accepted = refl
said_back (gives (value v)) = refl
said_back (gives none) = refl
said_back (refused k) = refl

-- What is known of the lists of a session: they are over, or opening accepted the setting, and each element passed its checks.
pub data Known (st : Setting) : AcceptedLists → Type 0 where
  ended : Known st over
  running : {x : AcceptedLists} → Opened st → Invariant st x → Known st x

-- what holds where all is over, and where opening accepts, holds of what opening accepts
pub by_opening : (P : AcceptedLists → Type 0) (st : Setting) (r : Point) → P over → (Opens st r → P (reading [])) → P (opened_lists st r)
by_opening P st r o h = settle_keeps P (λ why. over) (open_checks st r) (reading []) (λ k. o) (λ c. h (opens_rule st r c))

known_first : (st : Setting) (r : Point) → Known st (opened_lists st r)
known_first st r = by_opening (Known st) st r ended (λ o. running o.opened (record { allowed = tt; few = omega arith }))

-- nothing changes what is over
pub over_stays : (agree : List Arc → List Arc → Bool) (st : Setting) (a : Step) → next agree st over a ≡ over
over_stays agree st (read e) = refl
over_stays agree st end = refl
over_stays agree st (claim k) = refl
over_stays agree st (number z) = refl
over_stays agree st (repeat b) = refl
over_stays agree st finish = refl

module _ (st : Setting) (r : Point) where
  abbrev onward : AcceptedLists → Step → AcceptedLists
  onward x a = next (agree_at r) st x a

  known_next : (x : AcceptedLists) → Known st x → (a : Step) → Known st (onward x a)
  known_next over ended a = subst (Known st) (sym (over_stays (agree_at r) st a)) ended
  known_next x (running o g) a = running o (invariant_next st (agree_at r) x g a)

  agrees : (x : AcceptedLists) → Known st x → (a : Step) → Agrees st r x a
  agrees over ended a = over_agrees st r a
  agrees x (running o g) a = steps_agree st r x o g a

  known_after : (steps : List Step) (x : AcceptedLists) → Known st x → Known st (accepted_after (agree_at r) st x steps)
  unfolding accepted_after
  known_after [] x k = k
  known_after (a ∷ steps) x k = known_after steps (onward x a) (known_next x k a)

  run_agrees : (steps : List Step) (x : AcceptedLists) → Known st x → run (session_of st r x) steps ≡ replies (agree_at r) st x steps
  unfolding run replies
  run_agrees [] x k = refl
  run_agrees (a ∷ steps) x k =
      ap (λ (y : Reply). said y.answer ∷ run y.session steps) (agrees x k a)
      ∙ ap₂ ◌∷◌ (said_back (reply (agree_at r) st x a)) (run_agrees steps (onward x a) (known_next x k a))

  session_agrees : (steps : List Step) (x : AcceptedLists) → Known st x → session_after (session_of st r x) steps ≡ session_of st r (accepted_after (agree_at r) st x steps)
  unfolding session_after accepted_after
  session_agrees [] x k = refl
  session_agrees (a ∷ steps) x k =
      ap (λ (y : Reply). session_after y.session steps) (agrees x k a) ∙ session_agrees steps (onward x a) (known_next x k a)

  -- what opening hands back is the session of what it accepts
  opened_session : (opening st r).session ≡ session_of st r (opened_lists st r)
  unfolding opening
  opened_session =
      settle_map (λ (x : Reply). x.session) (λ why. hand void (Refused why)) (open_checks st r) (accept (fresh (opened st r)))
      ∙ ap (λ (p : Print). settle (λ why. void) (open_checks st r) (holding 1 (held st) r (record { count = 0; print = p }))) (print_none r)
      ∙ sym (settle_map (session_of st r) (λ why. over) (open_checks st r) (reading []))

pub opening_answers : OpeningAnswers
unfolding opening
opening_answers st r = settle_map (λ (x : Reply). said x.answer) (λ why. hand void (Refused why)) (open_checks st r) (accept (fresh (opened st r)))

pub answers_of_lists : AnswersOfLists
answers_of_lists st r steps = ap (λ (x : Session). run x steps) (opened_session st r) ∙ run_agrees st r steps (opened_lists st r) (known_first st r)

pub holds_accepted : HoldsAccepted
holds_accepted st r steps = ap (λ (x : Session). session_after x steps) (opened_session st r) ∙ session_agrees st r steps (opened_lists st r) (known_first st r)

pub known_by : (st : Setting) (r : Point) (steps : List Step) → Known st (accepted_by st r steps)
known_by st r steps = known_after st r steps (opened_lists st r) (known_first st r)

-- what a step answers after others is what the accepted lists answer
pub answer_agrees : (st : Setting) (r : Point) (before : List Step) (a : Step) → answer_to st r before a ≡ reply (agree_at r) st (accepted_by st r before) a
answer_agrees st r before a =
    ap (λ (x : Session). said (step x a).answer) (holds_accepted st r before)
    ∙ ap (λ (y : Reply). said y.answer) (agrees st r (accepted_by st r before) (known_by st r before) a)
    ∙ said_back (reply (agree_at r) st (accepted_by st r before) a)

-- where opening accepts, the lists begin empty
pub accepts_none : (st : Setting) (r : Point) → Opens st r → opened_lists st r ≡ reading []
accepts_none st r o = settled (λ why. over) (open_checks st r) (reading []) (opens_test st r o)

pub runs_agree : (st : Setting) (r : Point) → Opens st r → (steps : List Step) → run_from st r steps ≡ replies (agree_at r) st (reading []) steps
runs_agree st r o steps = answers_of_lists st r steps ∙ ap (λ (x : AcceptedLists). replies (agree_at r) st x steps) (accepts_none st r o)

-- ---- the points

-- finishing ends the lists unless it gave 5, whether the fingerprints agree or not
ended_blindly : (x : AcceptedLists) (a b c d e : Bool) → settle (λ why. pick (eqb why 5) x over) (5 unless a ∷ 13 unless b ∷ 14 unless c ∷ 15 unless d ∷ 16 unless e ∷ []) over ≡ pick a over x
ended_blindly x false b c d e = refl
ended_blindly x true false c d e = refl
ended_blindly x true true false d e = refl
ended_blindly x true true true false e = refl
ended_blindly x true true true true false = refl
ended_blindly x true true true true true = refl

pub finish_leaves : (agree : List Arc → List Arc → Bool) (st : Setting) (l : List Arc) (k : ℕ) (ys : List ℤ) (f : List Load)
    → next agree st (claimed l k ys f) finish ≡ pick (eqb (length ys) st.n) over (claimed l k ys f)
finish_leaves agree st l k ys f =
    ended_blindly (claimed l k ys f) (eqb (length ys) st.n) (leb (length l) (length f)) (agree l (arcs f)) (balances_ok st (claim_of k) (sums_at st ys f)) (sums_ok st (numbers_of (claim_of k) ys) (sums_at st ys f))

module _ (agree other : List Arc → List Arc → Bool) (st : Setting) where
  blind_next : (x : AcceptedLists) (a : Step) → next agree st x a ≡ next other st x a
  blind_next x (read e) = refl
  blind_next x end = refl
  blind_next x (claim k) = refl
  blind_next x (number z) = refl
  blind_next x (repeat b) = refl
  blind_next over finish = refl
  blind_next (reading l) finish = refl
  blind_next (has_read l) finish = refl
  blind_next (claimed l k ys f) finish = finish_leaves agree st l k ys f ∙ sym (finish_leaves other st l k ys f)

  blind_after : (steps : List Step) (x : AcceptedLists) → accepted_after agree st x steps ≡ accepted_after other st x steps
  unfolding accepted_after
  blind_after [] x = refl
  blind_after (a ∷ steps) x = ap (λ (y : AcceptedLists). accepted_after agree st y steps) (blind_next x a) ∙ blind_after steps (next other st x a)

-- opening at a pair of points accepts by the checks of the setting alone
opened_alike : (st : Setting) (r : Point) → IsPoint r → opened_lists st r ≡ settle (λ why. over) (opening_checks st) (reading [])
opened_alike st r h =
    settle_append (λ why. over) (opening_checks st) (4 unless point_ok r ∷ []) (reading [])
    ∙ ap (settle (λ why. over) (opening_checks st)) (settled (λ why. over) (4 unless point_ok r ∷ []) (reading []) (point_test r h, tt))

pub point_unseen : PointUnseen
point_unseen st r q steps hr hq =
    ap (λ (x : AcceptedLists). accepted_after (agree_at r) st x steps) (opened_alike st r hr ∙ sym (opened_alike st q hq))
    ∙ blind_after (agree_at r) (agree_at q) st steps (opened_lists st q)

-- ---- the list read

module _ (st : Setting) (net : List Arc) where
  -- with these steps still to come, the list read will be `net`
  abbrev pub WillRead : List Step → AcceptedLists → Type 0
  WillRead steps over = Unit {0}
  WillRead steps (reading l) = list_from st l steps ≡ net
  WillRead steps (has_read l) = l ≡ net
  WillRead steps (claimed l k ys f) = l ≡ net

  module _ (agree : List Arc → List Arc → Bool) where
    pub will_read_next : (steps : List Step) (x : AcceptedLists) (a : Step) → WillRead (a ∷ steps) x → WillRead steps (next agree st x a)
    unfolding list_from
    will_read_next steps over a fit = subst (WillRead steps) (sym (over_stays agree st a)) tt
    will_read_next steps (reading l) (read e) fit = subst (WillRead steps) (settle_map reading (λ why. l) (reading_checks st (length l) e) (l ++ e ∷ [])) fit
    will_read_next steps (reading l) end fit = fit
    will_read_next steps (reading l) (claim k) fit = fit
    will_read_next steps (reading l) (number z) fit = fit
    will_read_next steps (reading l) (repeat b) fit = fit
    will_read_next steps (reading l) finish fit = fit
    will_read_next steps (has_read l) (read e) fit = fit
    will_read_next steps (has_read l) end fit = fit
    will_read_next steps (has_read l) (claim k) fit =
        settle_keeps (WillRead steps) (λ why. has_read l) (claiming_checks st k) (claimed l k [] []) (λ why. fit) (λ h. fit)
    will_read_next steps (has_read l) (number z) fit = fit
    will_read_next steps (has_read l) (repeat b) fit = fit
    will_read_next steps (has_read l) finish fit = fit
    will_read_next steps (claimed l k ys f) (read e) fit = fit
    will_read_next steps (claimed l k ys f) end fit = fit
    will_read_next steps (claimed l k ys f) (claim j) fit = fit
    will_read_next steps (claimed l k ys f) (number z) fit =
        settle_keeps (WillRead steps) (after_refusal (claimed l k ys f)) (step_checks agree st (claimed l k ys f) (number z)) (claimed l k (ys ++ z ∷ []) f)
        (refusal_keeps (WillRead steps) (claimed l k ys f) fit tt) (λ h. fit)
    will_read_next steps (claimed l k ys f) (repeat b) fit =
        settle_keeps (WillRead steps) (after_refusal (claimed l k ys f)) (step_checks agree st (claimed l k ys f) (repeat b)) (claimed l k ys (f ++ b ∷ []))
        (refusal_keeps (WillRead steps) (claimed l k ys f) fit tt) (λ h. fit)
    will_read_next steps (claimed l k ys f) finish fit =
        settle_keeps (WillRead steps) (after_refusal (claimed l k ys f)) (step_checks agree st (claimed l k ys f) finish) over
        (refusal_keeps (WillRead steps) (claimed l k ys f) fit tt) (λ h. tt)

    read_after : (steps : List Step) (x : AcceptedLists) → WillRead steps x → ReadIs net (accepted_after agree st x steps)
    unfolding accepted_after list_from
    read_after [] over fit = tt
    read_after [] (reading l) fit = fit
    read_after [] (has_read l) fit = fit
    read_after [] (claimed l k ys f) fit = fit
    read_after (a ∷ steps) x fit = read_after steps (next agree st x a) (will_read_next steps x a fit)

pub read_as_listed : ReadAsListed
read_as_listed st r steps =
    read_after st (list_from st [] steps) (agree_at r) steps (opened_lists st r) (by_opening (WillRead st (list_from st [] steps) steps) st r tt (λ o. refl))
