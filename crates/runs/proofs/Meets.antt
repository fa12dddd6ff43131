-- Demand 2: a session answers exactly where the annotation meets every rule of the certificate, and what it answers on the arcs that were read is true.
use mathlib.Core.Path.{◌≡◌, refl, sym, ◌∙◌, ap, subst}
use mathlib.Core.Logic.{◌↔◌, inl}
use mathlib.Core.List.{List, [], ◌∷◌, ◌++◌}
use Prim.Native.Nat.{ℕ, zero, suc, ◌+◌, ◌≤◌, ◌<◌}
use native.Mathlib.Omega.{arith}
use lib.Dec.{T, eqb, eqb→eq, eqb_refl, le→leb, ltb→lt, lt→ltb}
use lib.IntN.{ℤ}
use lib.ListN.{length, take, length-map}
use lib.Seq.{take_all}
use Rattle.prelude.specs.Checks.{Check, settle, Hold}
use Rattle.prelude.specs.Lists.{Every, Member, Perm, all, at}
use Rattle.prelude.proofs.Booleans.{and_left, and_right}
use Rattle.prelude.proofs.Permutations.{perm_sym, perm_length, perm_every}
use Rattle.prelude.proofs.Settle.{settled, hold_append, hold_left, hold_right, settled_back}
use Rattle.prelude.proofs.Sums.{all_to_at}
use Rattle.arc_records.specs.Limits.{most_arcs}
use Rattle.arc_records.specs.Arcs.{Arc}
use Rattle.network.specs.Network.{Load, arcs}
use Rattle.network.specs.Question.{Setting, Allowed, Answer, TrueAnswer}
use Rattle.network.specs.Certificate.{Claim, of_value, of_none, claim_for, rules_of}
use Rattle.network.specs.Tests.{reading_all, claim_number, claim_of, claim_ok, Numbers, node_ok, amount_ok, rule_ok, repeating_checks, answer_of, Passed}
use Rattle.network.proofs.Allowed.{arc_test}
use Rattle.network.proofs.Promises.{certificates_sound}
use Rattle.network.proofs.Tests.{certified_passed, certified_answer}
use Rattle.ranges.specs.Promises.{pairs}
use Rattle.ranges.proofs.Promises.{pairs_of_check_nine}
use Rattle.points.specs.Points.{print_of}
use Rattle.points.specs.declared.Point.{Point}
use Rattle.points.proofs.Prints.{print_same}
use Rattle.points.proofs.Promises.{same_everywhere}
use Rattle.state.specs.Answers.{Said, accepted, gives, refused}
use Rattle.runs.specs.Run.{Step, read, end, claim, number, repeat, finish, run_from, list_read}
use Rattle.runs.specs.Exchange.{exchange, last, numbering_all, repeating_all, annotation_rules, final_rules, verdict, Opens, Readable, Meets, MeetsAll}
use Rattle.runs.specs.AcceptedLists.{AcceptedLists, over, reading, has_read, claimed, repeated_in, numbers_of, sums_at, agree_at, step_checks, accepted_says, reply, accepted_by, ReadIs}
use Rattle.runs.specs.Promises.{ClaimsListed, AnswersExactly, TrueWhereSame, ExchangeGives, ExchangeFinishes, ExchangeTrue, CertificatesPass}
use Rattle.runs.proofs.FirstAndLast.{no_answer}
use Rattle.runs.proofs.Invariant.{LoadPassed, AnnotationPassed, settle_keeps, repeat_passed}
use Rattle.runs.proofs.RunsAgree.{Known, running, answer_agrees, known_by, read_as_listed}
use Rattle.runs.proofs.TrueAnswers.{meets}
use Rattle.runs.proofs.Verdict.{first_broken, last-gives}

-- ---- an answer is given where every rule holds

pub gives_held : (cs : List Check) (v a : Answer) → settle refused cs (gives v) ≡ gives a → Hold cs × (v ≡ a)
gives_held cs v a e = let u = settled_back refused cs (gives v) (gives a) (λ k. no_answer k a) e in let same = u.1 in (u.0, cc)

-- ---- the claim

claim_of_number : (c : Claim) → claim_of (claim_number c) ≡ c
claim_of_number of_value = refl
claim_of_number of_none = refl

claim_fits : (st : Setting) (c : Claim) → T (rules_of st c).admitted → T (claim_ok st (claim_number c))
claim_fits st of_value h = h
claim_fits st of_none h = h

-- ---- each part of the rules, for every element

module _ (st : Setting) where
  read_holds : (net : List Arc) (i : ℕ) → Every (Allowed st) net → i + length net ≤ most_arcs → Hold (reading_all st i net)
  unfolding reading_all
  read_holds [] i h b = tt
  read_holds (e ∷ net) i h b =
      let t = arc_test st e h.0 in
      (lt→ltb i most_arcs (omega arith), (t.0, (t.1.0, read_holds net (suc i) h.1 (omega arith))))

  module _ (c : Claim) where
    number_holds : (ys : List ℤ) (i : ℕ) → i + length ys ≤ st.n → ((j v : ℕ) → i + j ≡ v → j < length ys → T (node_ok st c v (at ys j))) → Hold (numbering_all st c i ys)
    unfolding numbering_all
    number_holds [] i b h = tt
    number_holds (z ∷ ys) i b h =
        (lt→ltb i st.n (omega arith), (h 0 i (omega arith) (omega arith), number_holds ys (suc i) (omega arith) (λ j v e l. h (suc j) v (omega arith) (omega arith))))

    each_number : (ys : List ℤ) (i : ℕ) → Hold (numbering_all st c i ys) → (j v : ℕ) → i + j ≡ v → j < length ys → T (node_ok st c v (at ys j))
    unfolding numbering_all
    each_number [] i h j v e b = absurd (omega arith)
    each_number (z ∷ ys) i h zero v e b = subst (λ (k : ℕ). T (node_ok st c k z)) (omega arith) h.1.0
    each_number (z ∷ ys) i h (suc j) v e b = each_number ys (suc i) h.1.1 j v (omega arith) (omega arith)

  module _ (a : Numbers) (m : ℕ) where
    record Repeats (i : ℕ) (f : List Load) : Type 0 where
      records : Every (Allowed st) (arcs f)
      amounts : T (all (amount_ok st a.claim) f)
      rules : T (all (rule_ok st a) f)
      room : i + length f ≤ m

    repeat_holds : T (eqb a.given st.n) → (f : List Load) (i : ℕ) → Repeats i f → Hold (repeating_all st a m i f)
    unfolding repeating_all
    repeat_holds t [] i h = tt
    repeat_holds t (l ∷ f) i h =
        let e = arc_test st l.arc h.records.0 in
        let x = and_left (amount_ok st a.claim l) (all (amount_ok st a.claim) f) h.amounts in
        let u = and_left (rule_ok st a l) (all (rule_ok st a) f) h.rules in
        let rest = repeat_holds t f (suc i) record {
          records = h.records.1;
          amounts = and_right (amount_ok st a.claim l) (all (amount_ok st a.claim) f) h.amounts;
          rules = and_right (rule_ok st a l) (all (rule_ok st a) f) h.rules;
          room = omega arith;
        } in
        (t, (lt→ltb i m (omega arith), (e.0, (e.1.0, (x, (u, rest))))))

    each_repeat : (f : List Load) (i : ℕ) → i ≤ m → Hold (repeating_all st a m i f) → Every (LoadPassed st a) f × (i + length f ≤ m)
    unfolding repeating_all
    each_repeat [] i b h = (tt, omega arith)
    each_repeat (l ∷ f) i b h =
        let here = hold_left (repeating_checks st a m i l) (repeating_all st a m (suc i) f) h in
        let rest = each_repeat f (suc i) (ltb→lt i m here.1.0) (hold_right (repeating_checks st a m i l) (repeating_all st a m (suc i) f) h) in
        let room = rest.1 in
        ((repeat_passed st a m i l here, rest.0), omega arith)

  module _ (r : Point) (net : List Arc) (k : ℕ) (ys : List ℤ) (f : List Load) where
    abbrev c : Claim
    c = claim_of k

    abbrev number_rules : List Check
    number_rules = numbering_all st c 0 ys

    abbrev repeat_rules : List Check
    repeat_rules = repeating_all st (numbers_of c ys) (length net) 0 f

    abbrev result : Answer
    result = answer_of st c (sums_at st ys f)

    -- rules that hold are met
    met : Readable st net → Hold (annotation_rules st (length net) k ys f) → Hold (final_rules st r net k ys f) → Meets st r net k ys f result
    met readable h w = meets st net k ys f passed r w
      where
        full : length ys ≡ st.n
        full = eqb→eq (length ys) st.n w.0

        repeats : Every (LoadPassed st (numbers_of c ys)) f × (0 + length f ≤ length net)
        repeats = each_repeat (numbers_of c ys) (length net) f 0 (omega arith) (hold_right number_rules repeat_rules h.1)

        passed : AnnotationPassed st net k ys f
        passed = record {
          list = readable;
          claim_holds = h.0;
          numbered = omega (arith, full);
          nodes = λ v b. each_number c ys 0 (hold_left number_rules repeat_rules h.1) v v (omega arith) b;
          loads = repeats.0;
          repeated = omega (arith, repeats.1);
          in_turn = inl full;
        }

    -- rules that are met hold
    holds : (a : Answer) → Meets st r net k ys f a → Hold (annotation_rules st (length net) k ys f) × Hold (final_rules st r net k ys f) × (result ≡ a)
    holds a m =
        let full : T (eqb (length ys) st.n) = rw m.one_each (eqb_refl st.n) in
        let number = number_holds c ys 0 (omega (arith, m.one_each)) (λ j v e b. subst (λ (i : ℕ). T (node_ok st c i (at ys j))) (omega arith) (node j (omega (arith, m.one_each)))) in
        let repeat = repeat_holds (numbers_of c ys) (length net) full f 0 record { records = m.records; amounts = passed.amounts; rules = passed.on_arcs; room = omega (arith, m.as_many) } in
        let admitted : T (claim_ok st k) = rw m.claims (claim_fits st (claim_for a) m.certificate.admitted) in
        let same = print_same (print_of r net) (print_of r (arcs f)) m.fingerprints in
        let final : Hold (final_rules st r net k ys f) = (full, (le→leb (length net) (length f) (omega (arith, m.as_many)), (same, (passed.balances, (passed.sums, tt))))) in
        ((admitted, hold_append number_rules repeat_rules number repeat), final, ap (λ (d : Claim). answer_of st d (sums_at st ys f)) (sym same_claim) ∙ sym (certified_answer st (at ys) f a m.certificate))
      where
        same_claim : claim_for a ≡ c
        same_claim = sym (claim_of_number (claim_for a)) ∙ ap claim_of (sym m.claims)

        passed : Passed st c (at ys) f
        passed = subst (λ (d : Claim). Passed st d (at ys) f) same_claim (certified_passed st (at ys) f a m.certificate)

        node : (v : ℕ) → v < st.n → T (node_ok st c v (at ys v))
        node = all_to_at st.n (λ v. node_ok st c v (at ys v)) passed.nodes

    verdict_meets : Readable st net → (a : Answer) → (verdict st r net k ys f ≡ gives a) ↔ Meets st r net k ys f a
    verdict_meets h a = (to, from)
      where
        annotation : List Check
        annotation = annotation_rules st (length net) k ys f

        final : List Check
        final = final_rules st r net k ys f

        to : verdict st r net k ys f ≡ gives a → Meets st r net k ys f a
        to d =
            let u = gives_held (reading_all st 0 net ++ (annotation ++ final)) result a d in
            let w = hold_right (reading_all st 0 net) (annotation ++ final) u.0 in
            subst (Meets st r net k ys f) u.1 (met h (hold_left annotation final w) (hold_right annotation final w))

        from : Meets st r net k ys f a → verdict st r net k ys f ≡ gives a
        from m =
            let u = holds a m in
            settled refused (reading_all st 0 net ++ (annotation ++ final)) (gives result)
            (hold_append (reading_all st 0 net) (annotation ++ final) (read_holds net 0 h.allowed (omega (arith, h.few))) (hold_append annotation final u.0 u.1))
            ∙ ap gives u.2

-- ---- demand 2, for every list of steps

-- an acceptance or a refusal is no answer
never_gives : (cs : List Check) (v : Answer) → settle refused cs accepted ≡ gives v → ⊥
never_gives cs v = settle_keeps (λ (a : Said). a ≡ gives v → ⊥) refused cs accepted (λ k. no_answer k v) (λ h e. let z : ◌≡◌ {A = ℕ} 0 1 = cc in omega arith)

-- every step but finishing
abbrev NotFinishing : Step → Type 0
NotFinishing (read e) = Unit {0}
NotFinishing end = Unit {0}
NotFinishing (claim k) = Unit {0}
NotFinishing (number z) = Unit {0}
NotFinishing (repeat b) = Unit {0}
NotFinishing finish = ⊥

module _ (st : Setting) (r : Point) where
  abbrev Exactly : AcceptedLists → Step → Answer → Type 0
  Exactly x a v = (reply (agree_at r) st x a ≡ gives v) ↔ ((a ≡ finish) × MeetsAll st r x v)

  -- a step other than finishing gives no answer
  not_finishing : (x : AcceptedLists) (a : Step) (v : Answer) → NotFinishing a → accepted_says st x a ≡ accepted → Exactly x a v
  not_finishing x a v n e =
      (λ d. absurd (never_gives (step_checks (agree_at r) st x a) v (sym (ap (settle refused (step_checks (agree_at r) st x a)) e) ∙ d)), λ w. absurd (subst NotFinishing w.0 n))

  reply_exactly : (x : AcceptedLists) → Known st x → (a : Step) (v : Answer) → Exactly x a v
  reply_exactly x g (read e) v = not_finishing x (read e) v tt refl
  reply_exactly x g end v = not_finishing x end v tt refl
  reply_exactly x g (claim k) v = not_finishing x (claim k) v tt refl
  reply_exactly x g (number z) v = not_finishing x (number z) v tt refl
  reply_exactly x g (repeat b) v = not_finishing x (repeat b) v tt refl
  reply_exactly over g finish v = (λ d. absurd (no_answer 5 v d), λ w. absurd w.1)
  reply_exactly (reading l) g finish v = (λ d. absurd (no_answer 5 v d), λ w. absurd w.1)
  reply_exactly (has_read l) g finish v = (λ d. absurd (no_answer 5 v d), λ w. absurd w.1)
  reply_exactly (claimed l k ys f) (running o g) finish v = (to, from)
    where
      final : List Check
      final = final_rules st r l k ys f

      to : reply (agree_at r) st (claimed l k ys f) finish ≡ gives v → (finish ≡ finish) × Meets st r l k ys f v
      to d =
          let u = gives_held final (answer_of st (claim_of k) (sums_at st ys f)) v d in
          (refl, subst (Meets st r l k ys f) u.1 (meets st l k ys f g r u.0))

      from : (finish ≡ finish) × Meets st r l k ys f v → reply (agree_at r) st (claimed l k ys f) finish ≡ gives v
      from w = let u = holds st r l k ys f v w.1 in settled refused final (gives (answer_of st (claim_of k) (sums_at st ys f))) u.1 ∙ ap gives u.2

  -- what meets every rule over the arcs that were read, in any order, is true
  met_truly : (x : AcceptedLists) (net : List Arc) (v : Answer) → Known st x → ReadIs net x → Perm (arcs (repeated_in x)) net → MeetsAll st r x v → TrueAnswer st net v
  met_truly over net v g e d m = absurd m
  met_truly (reading l) net v g e d m = absurd m
  met_truly (has_read l) net v g e d m = absurd m
  met_truly (claimed l k ys f) net v (running o g) e d m =
      certificates_sound st net (at ys) f v o (subst (Every (Allowed st)) e g.list.allowed) d m.certificate

-- check 9 let the claim pass
listed : (st : Setting) (l : List Arc) (k : ℕ) (ys : List ℤ) (f : List Load) → Known st (claimed l k ys f) → Member (st.question, k) pairs
listed st l k ys f (running o g) = (pairs_of_check_nine.same st k).1 g.claim_holds

pub claims_listed : ClaimsListed
claims_listed st r steps l k ys f e = listed st l k ys f (subst (Known st) e (known_by st r steps))

pub answers_exactly : AnswersExactly
answers_exactly st r before a v = rw (answer_agrees st r before a) (reply_exactly st r (accepted_by st r before) (known_by st r before) a v)

pub true_where_same : TrueWhereSame
true_where_same st r before a v d e =
    met_truly st r (accepted_by st r before) (list_read st before) v (known_by st r before) (read_as_listed st r before) d ((answers_exactly st r before a v).0 e).1

-- ---- demand 2, for an exchange in order

pub exchange_gives : ExchangeGives
exchange_gives st r net k ys f a o h = rw (first_broken st r net k ys f o) (verdict_meets st r net k ys f h a)

-- finishing answers exactly where the first n node numbers meet the rules
last_meets :
    (st : Setting) (r : Point) (net : List Arc) (k : ℕ) (ys : List ℤ) (f : List Load) (a : Answer)
    → Opens st r → Readable st net
    → (last (run_from st r (exchange net k ys f)) ≡ gives a) ↔ Meets st r net k (take st.n ys) f a
last_meets st r net k ys f a o h =
    let u = last-gives st r net k ys f a o (read_holds st net 0 h.allowed (omega (arith, h.few))) in
    let w = exchange_gives st r net k (take st.n ys) f a o h in
    (λ d. w.0 (u.0 d), λ m. u.1 (w.1 m))

pub exchange_finishes : ExchangeFinishes
exchange_finishes st r net k ys f a o h e = rw (take_all st.n ys (omega arith)) at (last_meets st r net k ys f a o h)

pub exchange_true : ExchangeTrue
exchange_true st r net k ys f a o h d e =
    certificates_sound st net (at (take st.n ys)) f a o.opened h.allowed d ((last_meets st r net k ys f a o h).0 e).certificate

pub certificates_pass : CertificatesPass
certificates_pass st r net ys f a o h d e c =
    (exchange_gives st r net (claim_number (claim_for a)) ys f a o h).1 record {
      claims = refl;
      one_each = e;
      records = perm_every (Allowed st) (perm_sym d) h.allowed;
      certificate = c;
      as_many = sym (length-map f (λ l. l.arc)) ∙ perm_length d;
      fingerprints = same_everywhere net (arcs f) (perm_sym d) r;
    }
