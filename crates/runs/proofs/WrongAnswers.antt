-- Demand 3 for lists of steps: a fixed list gives a wrong answer at few pairs of points.
use mathlib.Core.Path.{◌≡◌, refl, sym, ◌∙◌, ap, subst}
use mathlib.Core.Logic.{◌⊎◌, inl, inr}
use mathlib.Core.Bool.{Bool, true, false, not}
use mathlib.Core.List.{List, [], ◌∷◌, tail}
use Prim.Native.Nat.{ℕ}
use native.Mathlib.Omega.{arith}
use native.Mathlib.Decide.{ℕ_discrete}
use lib.Dec.{T, eqb, eqb_refl}
use lib.IntN.{ℤ}
use lib.ListN.{length, length-map}
use Rattle.prelude.specs.Checks.{Check, ◌unless◌, settle, first_broken, Hold}
use Rattle.prelude.specs.Choice.{pick}
use Rattle.prelude.specs.Lists.{Every, Some, Perm, AtMost, any}
use Rattle.prelude.proofs.Lists.{every_map, any→some}
use Rattle.prelude.proofs.Settle.{settled, none_broken}
use Rattle.arc_records.specs.Arcs.{Arc}
use Rattle.network.specs.Network.{Load, arcs}
use Rattle.network.specs.Question.{Setting, Opened, Allowed, Answer, value, none, TrueAnswer}
use Rattle.network.specs.Tests.{opening_checks, claim_of, finishing_checks, answer_of}
use Rattle.network.proofs.Allowed.{opening_rule, opening_test}
use Rattle.network.proofs.Promises.{one_answer}
use Rattle.points.specs.Points.{IsPoint, print_of, misleading_points}
use Rattle.points.specs.declared.Point.{Point}
use Rattle.points.proofs.Prints.{same_print_lem, at_most→points}
use Rattle.points.proofs.Promises.{few_mislead}
use Rattle.state.specs.Answers.{Said, accepted, gives, refused}
use Rattle.runs.specs.Run.{Step, read, end, claim, number, repeat, finish, run_from, list_read, Wrong, WrongAt, same_answer, is_other}
use Rattle.runs.specs.Promises.{FewWrong, FewWrongCounted}
use Rattle.runs.specs.AcceptedLists.{AcceptedLists, over, reading, has_read, claimed, numbers_of, sums_at, agree_at, step_checks, next, reply, replies, opened_lists}
use Rattle.runs.proofs.Invariant.{AnnotationPassed, Invariant, settle_keeps, invariant_next}
use Rattle.runs.proofs.RunsAgree.{by_opening, over_stays, runs_agree, answers_of_lists, finish_leaves, WillRead, will_read_next}
use Rattle.runs.proofs.TrueAnswers.{again, same_size, true_answer}

-- ---- whose fault a wrong answer is

-- Nobody's, at no point; or that of two lists of `size` arcs that reading accepts, which are no permutations and agree at the point. Points may be of any type: here they are pairs.
data Blame {P : Type 0} (agrees : P → List Arc → List Arc → Bool) (st : Setting) (size : ℕ) (Bad : P → Type 0) : Type 0 where
  nobody : ((r : P) → Bad r → ⊥) → Blame agrees st size Bad
  lists : (l m : List Arc) → Opened st → Every (Allowed st) l → Every (Allowed st) m → length l ≡ size → length m ≡ size
      → ((r : P) → Bad r → T (agrees r l m) × ¬ (Perm l m)) → Blame agrees st size Bad

module _ {P : Type 0} {agrees : P → List Arc → List Arc → Bool} {st : Setting} {size : ℕ} where
  blame_part : {Bad Worse : P → Type 0} → ((r : P) → Worse r → Bad r) → Blame agrees st size Bad → Blame agrees st size Worse
  blame_part f (nobody h) = nobody (λ r w. h r (f r w))
  blame_part f (lists l m o hl hm e d h) = lists l m o hl hm e d (λ r w. h r (f r w))

  -- where the first of two is never so
  later : {First Bad : P → Type 0} → ((r : P) → First r → ⊥) → Blame agrees st size Bad → Blame agrees st size (λ r. First r ⊎ Bad r)
  later {First} {Bad} h b = blame_part rest b
    where
      rest : (r : P) → First r ⊎ Bad r → Bad r
      rest r (inl w) = absurd (h r w)
      rest r (inr w) = w

-- ---- refusals

-- refusals are never wrong
never : (st : Setting) (net : List Arc) (l : List Said) → Every (λ a. a ≡ refused 5) l → Some (Wrong st net) l → ⊥
never st net [] h w = w
never st net (a ∷ l) h (inl w) = subst (Wrong st net) h.0 w
never st net (a ∷ l) h (inr w) = never st net l h.1 w

over_refused : (agree : List Arc → List Arc → Bool) (st : Setting) (a : Step) → reply agree st over a ≡ refused 5
over_refused agree st (read e) = refl
over_refused agree st end = refl
over_refused agree st (claim k) = refl
over_refused agree st (number z) = refl
over_refused agree st (repeat b) = refl
over_refused agree st finish = refl

over_refuses : (agree : List Arc → List Arc → Bool) (st : Setting) (steps : List Step) → Every (λ a. a ≡ refused 5) (replies agree st over steps)
unfolding replies
over_refuses agree st [] = tt
over_refuses agree st (a ∷ steps) = (over_refused agree st a, subst (λ (x : AcceptedLists). Every (λ b. b ≡ refused 5) (replies agree st x steps)) (sym (over_stays agree st a)) (over_refuses agree st steps))

-- a wrong answer of finishing: every check held
pub wrong_held : (st : Setting) (net : List Arc) (a : Answer) (cs : List Check) → Wrong st net (settle refused cs (gives a)) → Hold cs × ¬ (TrueAnswer st net a)
wrong_held st net a [] w = (tt, w)
wrong_held st net a ((k unless true) ∷ cs) w = let h = wrong_held st net a cs w in ((tt, h.0), h.1)
wrong_held st net a ((k unless false) ∷ cs) w = absurd w

-- ---- the blame for the wrong answers where some lists are accepted

module _ {P : Type 0} (agrees : P → List Arc → List Arc → Bool) (st : Setting) (o : Opened st) (net : List Arc) where
  abbrev WrongIn : AcceptedLists → List Step → P → Type 0
  WrongIn x steps r = Some (Wrong st net) (replies (agrees r) st x steps)

  quiet : (cs : List Check) → Wrong st net (settle refused cs accepted) → ⊥
  quiet cs = settle_keeps (λ a. Wrong st net a → ⊥) refused cs accepted (λ k w. w) (λ h w. w)

  -- a step that finishes, or is refused because node numbers are missing
  finish_blame : (x : AcceptedLists) (steps : List Step) (a : Answer) (b : Bool) (cs : P → List Check)
      → Blame agrees st (length net) (λ r. Hold (5 unless b ∷ cs r) × ¬ (TrueAnswer st net a))
      → Blame agrees st (length net) (WrongIn x steps)
      → Blame agrees st (length net) (λ r. Wrong st net (settle refused (5 unless b ∷ cs r) (gives a)) ⊎ WrongIn (pick b over x) steps r)
  finish_blame x steps a false cs this rest = later (λ r w. w) rest
  finish_blame x steps a true cs this rest = blame_part first this
    where
      first : (r : P) → Wrong st net (settle refused (cs r) (gives a)) ⊎ WrongIn over steps r → (Unit {0} × Hold (cs r)) × ¬ (TrueAnswer st net a)
      first r (inl w) = let h = wrong_held st net a (cs r) w in ((tt, h.0), h.1)
      first r (inr w) = absurd (never st net (replies (agrees r) st over steps) (over_refuses (agrees r) st steps) w)

  -- the rules of finishing at the pair r
  abbrev finish_rules : List Arc → ℕ → List ℤ → List Load → P → List Check
  finish_rules l k ys f r = finishing_checks st (numbers_of (claim_of k) ys) (length l) (length f) (agrees r l (arcs f)) (sums_at st ys f)

  -- they hold, and the answer is not true
  abbrev Untrue : List Arc → ℕ → List ℤ → List Load → P → Type 0
  Untrue l k ys f r = Hold (finish_rules l k ys f r) × ¬ (TrueAnswer st net (answer_of st (claim_of k) (sums_at st ys f)))

  -- then the lists are as long and agree, but are no permutations
  untrue : (l : List Arc) (k : ℕ) (ys : List ℤ) (f : List Load) → AnnotationPassed st l k ys f → l ≡ net → Blame agrees st (length net) (Untrue l k ys f)
  untrue l k ys f g e = go (ℕ_discrete (length f) (length l))
    where
      go : Dec (length f ≡ length l) → Blame agrees st (length net) (Untrue l k ys f)
      go (no ne) = nobody (λ r w. ne (same_size st l k ys f g (agrees r l (arcs f)) w.0))
      go (yes d) =
          lists l (arcs f) o g.list.allowed (again st l k ys f g) (ap length e) (length-map f (λ b. b.arc) ∙ d ∙ ap length e)
          (λ r w. (
            w.0.1.1.0,
            λ m. w.1 (subst (λ (l : List Arc). TrueAnswer st l (answer_of st (claim_of k) (sums_at st ys f))) e
                (true_answer st l k ys f g (agrees r l (arcs f)) w.0 o m)),
          ))

  -- no comparison: no step but finishing makes one
  abbrev uncompared : List Arc → List Arc → Bool
  uncompared l m = true

  blame : (steps : List Step) (x : AcceptedLists) → Invariant st x → WillRead st net steps x → Blame agrees st (length net) (WrongIn x steps)
  unfolding replies
  blame [] x g fit = nobody (λ r w. w)
  blame (read e ∷ steps) x g fit = later (λ r. quiet (step_checks uncompared st x (read e))) (blame steps (next uncompared st x (read e)) (invariant_next st uncompared x g (read e)) (will_read_next st net uncompared steps x (read e) fit))
  blame (end ∷ steps) x g fit = later (λ r. quiet (step_checks uncompared st x end)) (blame steps (next uncompared st x end) (invariant_next st uncompared x g end) (will_read_next st net uncompared steps x end fit))
  blame (claim k ∷ steps) x g fit = later (λ r. quiet (step_checks uncompared st x (claim k))) (blame steps (next uncompared st x (claim k)) (invariant_next st uncompared x g (claim k)) (will_read_next st net uncompared steps x (claim k) fit))
  blame (number z ∷ steps) x g fit = later (λ r. quiet (step_checks uncompared st x (number z))) (blame steps (next uncompared st x (number z)) (invariant_next st uncompared x g (number z)) (will_read_next st net uncompared steps x (number z) fit))
  blame (repeat b ∷ steps) x g fit = later (λ r. quiet (step_checks uncompared st x (repeat b))) (blame steps (next uncompared st x (repeat b)) (invariant_next st uncompared x g (repeat b)) (will_read_next st net uncompared steps x (repeat b) fit))
  blame (finish ∷ steps) over g fit = later (λ r w. w) (blame steps (next uncompared st over finish) (invariant_next st uncompared over g finish) (will_read_next st net uncompared steps over finish fit))
  blame (finish ∷ steps) (reading l) g fit = later (λ r w. w) (blame steps (next uncompared st (reading l) finish) (invariant_next st uncompared (reading l) g finish) (will_read_next st net uncompared steps (reading l) finish fit))
  blame (finish ∷ steps) (has_read l) g fit = later (λ r w. w) (blame steps (next uncompared st (has_read l) finish) (invariant_next st uncompared (has_read l) g finish) (will_read_next st net uncompared steps (has_read l) finish fit))
  blame (finish ∷ steps) (claimed l k ys f) g fit =
      blame_part left
      (finish_blame (claimed l k ys f) steps (answer_of st (claim_of k) (sums_at st ys f)) (eqb (length ys) st.n) (λ r. tail (finish_rules l k ys f r))
      (untrue l k ys f g fit) (blame steps (claimed l k ys f) g fit))
    where
      left : (r : P) → WrongIn (claimed l k ys f) (finish ∷ steps) r
          → Wrong st net (settle refused (finish_rules l k ys f r) (gives (answer_of st (claim_of k) (sums_at st ys f)))) ⊎ WrongIn (pick (eqb (length ys) st.n) over (claimed l k ys f)) steps r
      left r (inl w) = inl w
      left r (inr w) = inr (subst (λ (x : AcceptedLists). WrongIn x steps r) (finish_leaves (agrees r) st l k ys f) w)

-- ---- a list of steps

-- whose fault the wrong answers of a list of steps are
blamed : (st : Setting) (steps : List Step) → Blame agree_at st (length (list_read st steps)) (WrongAt st steps)
blamed st steps = go (ℕ_discrete (first_broken (opening_checks st)) 0)
  where
    net : List Arc
    net = list_read st steps

    go : Dec (first_broken (opening_checks st) ≡ 0) → Blame agree_at st (length net) (WrongAt st steps)
    go (yes z) =
        let o = opening_rule st (none_broken (opening_checks st) (refl, (refl, (refl, tt))) z) in
        blame_part (λ r w. subst (Some (Wrong st net)) (runs_agree st r (record { opened = o; point = w.0 }) steps) w.1)
        (blame agree_at st o net steps (reading []) (record { allowed = tt; few = omega arith }) refl)
    go (no z) = nobody (λ r w. never st net (replies (agree_at r) st over steps) (over_refuses (agree_at r) st steps)
        (subst (λ (x : AcceptedLists). Some (Wrong st net) (replies (agree_at r) st x steps)) (refuses r) (subst (Some (Wrong st net)) (answers_of_lists st r steps) w.1)))
      where
        refuses : (r : Point) → opened_lists st r ≡ over
        refuses r = by_opening (λ x. x ≡ over) st r refl (λ o. absurd (z (settled (λ k. k) (opening_checks st) 0 (opening_test st o.opened))))

-- ---- the promises

few_blamed : (st : Setting) (size : ℕ) (Bad : Point → Type 0) → ((r : Point) → Bad r → IsPoint r) → Blame agree_at st size Bad → AtMost (misleading_points size) Bad
few_blamed st size Bad point b [] d a = omega arith
few_blamed st size Bad point (nobody h) (r ∷ rs) d a = absurd (h r a.0)
few_blamed st size Bad point (lists l m o hl hm e e' h) (r ∷ rs) d a =
    let few = few_mislead st l m o hl hm (e ∙ sym e') (h r a.0).1 (r ∷ rs) d
    (every_map (λ x w. (point x w, same_print_lem (print_of x l) (print_of x m) (h x w).0)) (r ∷ rs) a) in
    rw e at few

pub few_wrong : FewWrong
few_wrong st steps = few_blamed st (length (list_read st steps)) (WrongAt st steps) (λ r w. w.0) (blamed st steps)

-- ---- the test of a wrong answer

same_itself : (a : Answer) → T (not (same_answer a a)) → ⊥
same_itself (value v) t = no_test (eqb v v) (eqb_refl v) t
  where
    no_test : (b : Bool) → T b → T (not b) → ⊥
    no_test true h k = k
    no_test false h k = h
same_itself none t = t

-- where a is the true answer, another is wrong
pub other_wrong : (st : Setting) (net : List Arc) (a : Answer) → TrueAnswer st net a → (b : Said) → T (is_other a b) → Wrong st net b
other_wrong st net a true-one accepted t = t
other_wrong st net a true-one (gives b) t = λ too. same_itself a (subst (λ (c : Answer). T (not (same_answer c a))) (one_answer st net b a too true-one) t)
other_wrong st net a true-one (refused k) t = t

pub few_wrong_counted : FewWrongCounted
few_wrong_counted st steps a h =
    at_most→points (WrongAt st steps) (λ r. any (is_other a) (run_from st r steps)) _
    (λ r w t. (w, any→some (is_other a) (other_wrong st (list_read st steps) a h) (run_from st r steps) t)) (few_wrong st steps)
