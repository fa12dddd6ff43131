-- How an exchange comes out: its first answer that is not `accepted` is the verdict, and its last tells the verdict on the first n node numbers.
use mathlib.Core.Path.{◌≡◌, refl, sym, ◌∙◌, ap, ap₂, subst}
use mathlib.Core.Logic.{◌↔◌}
use mathlib.Core.Bool.{Bool}
use mathlib.Core.List.{List, [], ◌∷◌, ◌++◌, map, append-nil}
use Prim.Native.Nat.{ℕ, zero, suc, ◌+◌}
use native.Mathlib.Omega.{arith}
use native.Mathlib.Numerals.{add-one}
use borrow.Author.Tests.{le-ltb}
use lib.Dec.{T, eqb, lt→ltb}
use lib.IntN.{ℤ}
use lib.ListN.{length, take, length-append}
use lib.Seq.{append_snoc}
use Rattle.prelude.specs.Checks.{Check, settle, Hold}
use Rattle.prelude.proofs.Booleans.{fails}
use Rattle.prelude.proofs.Settle.{settle_append}
use Rattle.arc_records.specs.Arcs.{Arc}
use Rattle.network.specs.Network.{Load, arcs}
use Rattle.network.specs.Question.{Setting, Answer}
use Rattle.network.specs.Tests.{reading_checks, reading_all, claim_of, claiming_checks, numbering_checks, repeating_checks, finishing_checks, answer_of}
use Rattle.points.specs.declared.Point.{Point}
use Rattle.state.specs.Answers.{Said, accepted, gives, refused}
use Rattle.runs.specs.Run.{Step, read, end, claim, number, repeat, finish, run_from}
use Rattle.runs.specs.Exchange.{exchange, outcome, last, numbering_all, repeating_all, annotation_rules, Opens}
use Rattle.runs.specs.Promises.{FirstBroken}
use Rattle.runs.specs.AcceptedLists.{AcceptedLists, over, reading, has_read, claimed, numbers_of, sums_at, agree_at, after_refusal, next, reply, replies}
use Rattle.runs.proofs.RunsAgree.{runs_agree}
use Rattle.runs.proofs.FirstAndLast.{outcome_alone, outcome_step, LastSays, alone, refusing, on, ends_gives, ends_step}

snoc_length : {A : Type 0} (l : List A) (a : A) → length (l ++ a ∷ []) ≡ suc (length l)
snoc_length l a = length-append l (a ∷ []) ∙ add-one (length l)

module _ (agree : List Arc → List Arc → Bool) (st : Setting) where
  abbrev heard : AcceptedLists → List Step → List Said
  heard x steps = replies agree st x steps

  -- the steps from the repeated arcs on, and from the node numbers on
  abbrev repeat_steps : List Load → List Step
  repeat_steps f = map repeat f ++ (finish ∷ [])

  abbrev number_steps : List ℤ → List Load → List Step
  number_steps ys f = map number ys ++ repeat_steps f

  -- ---- the first answer that is not `accepted`

  -- Steps of one kind: what they bring is held in a list, where the rule on each holds.
  record OneKind {A : Type 0} (make : A → Step) (listed : List A → AcceptedLists) (rule : ℕ → A → List Check) (rules : ℕ → List A → List Check) : Type 0 where
    kept : List A → ℕ → AcceptedLists
    moves : (l : List A) (a : A) → next agree st (listed l) (make a) ≡ settle (kept l) (rule (length l) a) (listed (l ++ a ∷ []))
    says : (l : List A) (a : A) → reply agree st (listed l) (make a) ≡ settle refused (rule (length l) a) accepted
    rules_none : (i : ℕ) → rules i [] ≡ []
    rules_more : (i : ℕ) (a : A) (l : List A) → rules i (a ∷ l) ≡ rule i a ++ rules (suc i) l

  outcome_each : {A : Type 0} {make : A → Step} {listed : List A → AcceptedLists} {rule : ℕ → A → List Check} {rules : ℕ → List A → List Check} → OneKind make listed rule rules
      → (l before : List A) (steps : List Step)
      → outcome (heard (listed before) (map make l ++ steps)) ≡ settle refused (rules (length before) l) (outcome (heard (listed (before ++ l)) steps))
  unfolding replies
  outcome_each kind [] before steps = rw (kind.rules_none (length before), append-nil before) refl
  outcome_each {make} {listed} {rule} {rules} kind (a ∷ l) before steps =
      rw (kind.rules_more (length before) a l)
      (ap₂ (λ (b : Said) (x : AcceptedLists). outcome (b ∷ heard x (map make l ++ steps))) (kind.says before a) (kind.moves before a)
      ∙ outcome_step (λ x. heard x (map make l ++ steps)) (kind.kept before) (rule (length before) a) (listed (before ++ a ∷ []))
      ∙ ap (settle refused (rule (length before) a))
      (outcome_each kind l (before ++ a ∷ []) steps
      ∙ ap₂ (λ i k. settle refused (rules i l) (outcome (heard (listed k) steps))) (snoc_length before a) (append_snoc before a l))
      ∙ sym (settle_append refused (rule (length before) a) (rules (suc (length before)) l) (outcome (heard (listed (before ++ a ∷ l)) steps))))

  reading_kind : OneKind read reading (reading_checks st) (reading_all st)
  unfolding reading_all
  reading_kind = record {
    kept = λ l why. reading l;
    moves = λ l e. refl;
    says = λ l e. refl;
    rules_none = λ i. refl;
    rules_more = λ i e l. refl;
  }

  module _ (net : List Arc) (k : ℕ) where
    numbering_kind : OneKind number (λ ys. claimed net k ys []) (numbering_checks st (claim_of k)) (numbering_all st (claim_of k))
    unfolding numbering_all
    numbering_kind = record {
      kept = λ ys. after_refusal (claimed net k ys []);
      moves = λ ys z. refl;
      says = λ ys z. refl;
      rules_none = λ i. refl;
      rules_more = λ i z l. refl;
    }

    repeating_kind : (ys : List ℤ) → OneKind repeat (claimed net k ys) (repeating_checks st (numbers_of (claim_of k) ys) (length net)) (repeating_all st (numbers_of (claim_of k) ys) (length net))
    unfolding repeating_all
    repeating_kind ys = record {
      kept = λ f. after_refusal (claimed net k ys f);
      moves = λ f b. refl;
      says = λ f b. refl;
      rules_none = λ i. refl;
      rules_more = λ i b l. refl;
    }

    module _ (ys : List ℤ) (f : List Load) where
      abbrev final : List Check
      final = finishing_checks st (numbers_of (claim_of k) ys) (length net) (length f) (agree net (arcs f)) (sums_at st ys f)

      abbrev result : Said
      result = gives (answer_of st (claim_of k) (sums_at st ys f))

      outcome_annotation : outcome (heard (has_read net) (claim k ∷ number_steps ys f)) ≡ settle refused (annotation_rules st (length net) k ys f) (settle refused final result)
      unfolding replies
      outcome_annotation =
          outcome_step (λ x. heard x (number_steps ys f)) (λ why. has_read net) (claiming_checks st k) (claimed net k [] [])
          ∙ ap (settle refused (claiming_checks st k))
          (outcome_each numbering_kind ys [] (repeat_steps f)
          ∙ ap (settle refused (numbering_all st (claim_of k) 0 ys)) (outcome_each (repeating_kind ys) f [] (finish ∷ []) ∙ ap (settle refused (repeating_all st (numbers_of (claim_of k) ys) (length net) 0 f)) (outcome_alone _))
          ∙ sym (settle_append refused (numbering_all st (claim_of k) 0 ys) (repeating_all st (numbers_of (claim_of k) ys) (length net) 0 f) (settle refused final result)))

      outcome_exchange : outcome (heard (reading []) (exchange net k ys f)) ≡ settle refused (reading_all st 0 net ++ (annotation_rules st (length net) k ys f ++ final)) result
      unfolding replies
      outcome_exchange =
          outcome_each reading_kind net [] (end ∷ claim k ∷ number_steps ys f)
          ∙ ap (settle refused (reading_all st 0 net)) (outcome_annotation ∙ sym (settle_append refused (annotation_rules st (length net) k ys f) final result))
          ∙ sym (settle_append refused (reading_all st 0 net) (annotation_rules st (length net) k ys f ++ final) result)

  -- ---- the last answer

  -- a session that none of these steps changes
  ends_each : {A : Type 0} (make : A → Step) (x : AcceptedLists) (steps : List Step) (why : ℕ)
      → ((a : A) → next agree st x (make a) ≡ x) → LastSays (heard x steps) (refused why) → (l : List A) → LastSays (heard x (map make l ++ steps)) (refused why)
  unfolding replies
  ends_each make x steps why stay h [] = h
  ends_each make x steps why stay h (a ∷ l) =
      on (subst (λ (y : AcceptedLists). LastSays (heard y (map make l ++ steps)) (refused why)) (sym (stay a)) (ends_each make x steps why stay h l))

  -- after a refused claim, and after a refusal that closes the session
  ends_still : (x : AcceptedLists) (why : ℕ) → ((z : ℤ) → next agree st x (number z) ≡ x) → ((b : Load) → next agree st x (repeat b) ≡ x) → LastSays (heard x (finish ∷ [])) (refused why)
      → (zs : List ℤ) (f : List Load) → LastSays (heard x (number_steps zs f)) (refused why)
  ends_still x why n m h zs f = ends_each number x (repeat_steps f) why n (ends_each repeat x (finish ∷ []) why m h f) zs

  ends_over : (why : ℕ) (zs : List ℤ) (f : List Load) → LastSays (heard over (number_steps zs f)) (refused why)
  unfolding replies
  ends_over why = ends_still over why (λ z. refl) (λ b. refl) refusing

  module _ (net : List Arc) (k : ℕ) where
    -- where node numbers are missing
    ends_short : (ys : List ℤ) (f g : List Load) → ¬ (T (eqb (length ys) st.n)) → LastSays (heard (claimed net k ys f) (repeat_steps g)) (refused 5)
    unfolding replies
    ends_short ys f g h =
        ends_each repeat (claimed net k ys f) (finish ∷ []) 5 (λ b. rw (fails (eqb (length ys) st.n) h) refl)
        (rw (fails (eqb (length ys) st.n) h) refusing) g

    ends_repeats : (ys : List ℤ) (g f : List Load) → LastSays (heard (claimed net k ys f) (repeat_steps g)) (outcome (heard (claimed net k ys f) (repeat_steps g)))
    unfolding replies
    ends_repeats ys [] f = rw outcome_alone alone
    ends_repeats ys (b ∷ g) f =
        ends_step (λ x. heard x (repeat_steps g)) (λ x. heard x (repeat_steps g)) (after_refusal (claimed net k ys f)) (repeating_checks st (numbers_of (claim_of k) ys) (length net) (length f) b) (claimed net k ys (f ++ b ∷ []))
        (ends_short ys f g, (λ h. ends_over 6 [] g, (λ h. ends_over 7 [] g, (λ h. ends_over 8 [] g, (λ h. ends_over 11 [] g, (λ h. ends_over 12 [] g, tt))))))
        (ends_repeats ys g (f ++ b ∷ []))

    -- numbers are taken while there is room for them; what comes after that is refused and changes nothing
    ends_numbers : (f : List Load) (zs ys : List ℤ) (room : ℕ) → length ys + room ≡ st.n
        → LastSays (heard (claimed net k ys []) (number_steps zs f)) (outcome (heard (claimed net k ys []) (number_steps (take room zs) f)))
    unfolding replies
    ends_numbers f [] ys zero e = ends_repeats ys f []
    ends_numbers f [] ys (suc room) e = ends_repeats ys f []
    ends_numbers f (z ∷ zs) ys zero e = rw (le-ltb (length ys) st.n (omega arith)) (on (ends_numbers f zs ys zero e))
    ends_numbers f (z ∷ zs) ys (suc room) e =
        ends_step (λ x. heard x (number_steps zs f)) (λ x. heard x (number_steps (take room zs) f)) (after_refusal (claimed net k ys [])) (numbering_checks st (claim_of k) (length ys) z) (claimed net k (ys ++ z ∷ []) [])
        (λ h. absurd (h (lt→ltb (length ys) st.n (omega arith))), (λ h. ends_over 10 zs f, tt))
        (ends_numbers f zs (ys ++ z ∷ []) room (omega (arith, snoc_length ys z)))

  ends_exchange : (k : ℕ) (ys : List ℤ) (f : List Load) (net l : List Arc) → Hold (reading_all st (length l) net)
      → LastSays (heard (reading l) (exchange net k ys f)) (outcome (heard (reading l) (exchange net k (take st.n ys) f)))
  unfolding reading_all replies
  ends_exchange k ys f [] l h =
      on (ends_step (λ x. heard x (number_steps ys f)) (λ x. heard x (number_steps (take st.n ys) f)) (λ why. has_read l) (claiming_checks st k) (claimed l k [] [])
      (λ h. ends_still (has_read l) 9 (λ z. refl) (λ b. refl) refusing ys f, tt)
      (ends_numbers l k f ys [] st.n (omega arith)))
  ends_exchange k ys f (e ∷ net) l h =
      ends_step (λ x. heard x (exchange net k ys f)) (λ x. heard x (exchange net k (take st.n ys) f)) (λ why. reading l) (reading_checks st (length l) e) (reading (l ++ e ∷ []))
      (λ n. absurd (n h.0), (λ n. absurd (n h.1.0), (λ n. absurd (n h.1.1.0), tt)))
      (ends_exchange k ys f net (l ++ e ∷ []) (subst (λ (i : ℕ). Hold (reading_all st i net)) (sym (snoc_length l e)) h.1.1.1))

pub first_broken : FirstBroken
first_broken st r net k ys f o = ap outcome (runs_agree st r o (exchange net k ys f)) ∙ outcome_exchange (agree_at r) st net k ys f

-- finishing gives what comes out where the node numbers past the first n are left out
pub last-gives :
    (st : Setting) (r : Point) (net : List Arc) (k : ℕ) (ys : List ℤ) (f : List Load) (a : Answer)
    → Opens st r → Hold (reading_all st 0 net)
    → (last (run_from st r (exchange net k ys f)) ≡ gives a) ↔ (outcome (run_from st r (exchange net k (take st.n ys) f)) ≡ gives a)
last-gives st r net k ys f a o h =
    let is = runs_agree st r o in
    rw (is (exchange net k ys f), is (exchange net k (take st.n ys) f)) (ends_gives (ends_exchange (agree_at r) st k ys f net [] h) a)

-- reading alone: the first rule of reading that is broken
pub reading_broken : (st : Setting) (r : Point) (net : List Arc) → Opens st r
    → outcome (run_from st r (map read net ++ [])) ≡ settle refused (reading_all st 0 net) accepted
unfolding replies
reading_broken st r net o =
    ap outcome (runs_agree st r o (map read net ++ [])) ∙ outcome_each (agree_at r) st (reading_kind (agree_at r) st) net [] []
