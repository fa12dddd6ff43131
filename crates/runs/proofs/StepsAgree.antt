-- A step of the session that has accepted some lists is a step of the lists: what the session hands back, and what it answers.
use mathlib.Core.Path.{◌≡◌, refl, sym, ◌∙◌, ap, ap₂}
use mathlib.Core.Bool.{Bool, true, false}
use mathlib.Core.List.{List, [], ◌∷◌, ◌++◌}
use Prim.Native.Nat.{ℕ, ◌*◌, ◌≤◌, ◌<◌}
use native.Mathlib.Omega.{arith}
use lib.Dec.{eqb, leb→le, ltb→lt}
use lib.IntN.{ℤ, pos}
use lib.ListN.{length, length-append, length-map}
use Rattle.prelude.specs.Checks.{Check, ◌unless◌, settle, Hold}
use Rattle.prelude.specs.Choice.{pick, indicator}
use Rattle.prelude.specs.Lists.{Every, at}
use Rattle.prelude.proofs.Lists.{every_map}
use Rattle.words.specs.Bounded.{bounded_sum}
use Rattle.arc_records.specs.Limits.{most_vertices, most_arcs}
use Rattle.arc_records.specs.Arcs.{Arc}
use Rattle.network.specs.Network.{Load, arcs, sum_of, balance, crosses, sum_across}
use Rattle.network.specs.Question.{Setting, asks, unit_cost, units_most, Opened}
use Rattle.network.specs.Certificate.{marked, Sums, rules_of}
use Rattle.network.specs.Tests.{reading_checks, claim_of, claiming_checks, Numbers, numbering_checks, repeating_checks, finishing_checks, answer_of}
use Rattle.network.proofs.Append.{arcs_snoc}
use Rattle.points.specs.Points.{extend_stream}
use Rattle.points.specs.declared.Point.{Point}
use Rattle.points.proofs.Prints.{print_none, print_more}
use Rattle.state.specs.Answers.{Said, accepted, gives, refused, answered}
use Rattle.state.specs.State.{state_of, held, numbers_held, with_read, with_claim, with_number, with_repeat}
use Rattle.state.specs.Answers.{Response}
use Rattle.state.specs.Answers.{Accepted, Refused}
use Rattle.session.specs.Session.{arrays_of, with_potentials, with_balances, potentials_in, sums_in, joined, with_arrays, with_state, holding, void, hand, accept, refuse}
use Rattle.session.specs.Steps.{read_step, end_step, claim_step, numbered_arrays, number_step, repeated_arrays, repeat_step, finish_step}
use Rattle.session.specs.Session.{Reply}
use Rattle.session.specs.declared.Session.{Session}
use Rattle.runs.specs.Run.{Step, read, end, claim, number, repeat, finish, step}
use Rattle.runs.specs.AcceptedLists.{AcceptedLists, over, reading, has_read, claimed, numbers_of, sums_at, agree_at, after_refusal, next, reply}
use Rattle.runs.specs.HeldAtPoint.{stream_of, session_of}
use Rattle.runs.proofs.MarkWords.{marks_more, marks_same}
use Rattle.runs.proofs.VertexArrays.{all_zero, at_list, list_more}
use Rattle.runs.proofs.RepeatedSums.{LoadWithin, units_limited, balances_at, balances_more, cost_more, cut_more}
use Rattle.runs.proofs.Invariant.{LoadPassed, AnnotationPassed, Invariant, none_yet, repeat_passed}

-- the answer that says it
abbrev pub saying : Said → Response
saying accepted = Accepted
saying (gives a) = answered a
saying (refused k) = Refused k

-- ---- one more

stream_more : (r : Point) (l : List Arc) (e : Arc) → extend_stream r (stream_of r l) e ≡ stream_of r (l ++ e ∷ [])
stream_more r l e = λ i. record { count = sym (length-append l (e ∷ [])) i; print = print_more r l e i }

within_limits : (st : Setting) → Opened st → (a : Numbers) (b : Load) → LoadPassed st a b → LoadWithin (asks st) b
within_limits st o a b h =
    let u = units_limited (asks st) a.claim b.arc h.allowed.weight_within in
    record {
      tail_below = omega (arith, o.sized.at_most, h.allowed.joins.tail_below);
      head_below = omega (arith, o.sized.at_most, h.allowed.joins.head_below);
      amount_within = omega (arith, leb→le b.amount ((rules_of st a.claim).most b.arc) h.amount_holds, u.most_within);
      cost_within = u.cost_within;
      units_within = u.units_within;
    }

-- what is handed back is settled by the checks, and so is what is said
decided : {A : Type 0} (see : A → Session) (g : ℕ → Reply) (left : ℕ → A) → ((k : ℕ) → g k ≡ hand (see (left k)) (Refused k))
    → (x : Session) (v : A) (a : Said) (cs : List Check) → (Hold cs → x ≡ see v)
    → settle g cs (hand x (saying a)) ≡ hand (see (settle left cs v)) (saying (settle refused cs a))
decided see g left e x v a [] h = ap (λ (y : Session). hand y (saying a)) (h tt)
decided see g left e x v a ((k unless true) ∷ cs) h = decided see g left e x v a cs (λ b. h (tt, b))
decided see g left e x v a ((k unless false) ∷ cs) h = e k

module _ (st : Setting) (r : Point) where
  abbrev session : AcceptedLists → Session
  session x = session_of st r x

  -- the step of the session is the step of the lists
  abbrev pub Agrees : AcceptedLists → Step → Type 0
  Agrees x a = step (session x) a ≡ hand (session (next (agree_at r) st x a)) (saying (reply (agree_at r) st x a))

  claim_one : (l : List Arc) (k : ℕ) → with_state (session (has_read l)) (with_claim (session (has_read l)).state k) ≡ session (claimed l k [] [])
  unfolding sum_of sum_across
  claim_one l k = λ i. joined (arrays_of (all_zero most_vertices (at []) (λ v. refl) i) (all_zero most_vertices (λ v. balance v []) (λ v. refl) i))
      (state_of 3 (session (has_read l)).state.reading (with_claim (session (has_read l)).state k).numbering
      (record { list = record { count = 0; print = print_none r i }; cost = pos 0; cut = pos 0 }))

  module _ (l : List Arc) (k : ℕ) (ys : List ℤ) (f : List Load) where
    abbrev here : AcceptedLists
    here = claimed l k ys f

    abbrev numbers_here : Numbers
    numbers_here = numbers_of (claim_of k) ys

    refusal : (j : ℕ) → refuse (session here) j ≡ hand (session (after_refusal here j)) (Refused j)
    refusal j = go (eqb j 5)
      where
        go : (b : Bool) → hand (pick b (session here) void) (Refused j) ≡ hand (session (pick b here over)) (Refused j)
        go true = refl
        go false = refl

    -- a step by its rules, where x is the session after it
    ruled : (x : Session) (y : AcceptedLists) (a : Said) (cs : List Check) → (Hold cs → x ≡ session y)
        → settle (refuse (session here)) cs (hand x (saying a)) ≡ hand (session (settle (after_refusal here) cs y)) (saying (settle refused cs a))
    ruled = decided session (refuse (session here)) (after_refusal here) refusal

    module _ (o : Opened st) (g : AnnotationPassed st l k ys f) where
      fits : length ys ≤ most_vertices
      fits = omega (arith, g.numbered, o.sized.at_most)

      few : length f ≤ most_arcs
      few = omega (arith, g.repeated, g.list.few)

      loads_within : Every (LoadWithin (asks st)) f
      loads_within = every_map (within_limits st o numbers_here) f g.loads

      -- ---- a node number

      -- the session after it
      abbrev numbered : ℤ → Session
      numbered z = with_state (with_arrays (session here) (numbered_arrays (session here) z)) (with_number (session here).state z)

      number_one : (z : ℤ) → length ys < st.n → numbered z ≡ session (claimed l k (ys ++ z ∷ []) f)
      unfolding sum_across
      number_one z h = λ i. joined (with_potentials (session here).arrays (list_more most_vertices ys z (omega (arith, h, o.sized.at_most)) i))
          (state_of 3 (session here).state.reading
          (record { claim = k; given = sym (length-append ys (z ∷ [])) i; marks = marks_more ys z i })
          (record { list = stream_of r (arcs f); cost = pos (sum_of (unit_cost (asks st)) f); cut = uncut i }))
        where
          uncut : pos (sum_across (units_most (asks st)) (marked (at ys)) (arcs f)) ≡ pos (sum_across (units_most (asks st)) (marked (at (ys ++ z ∷ []))) (arcs f))
          uncut = rw (none_yet st ys f h g.in_turn) refl

      number_step_lem : (z : ℤ) → Agrees here (number z)
      unfolding number_step
      number_step_lem z =
          ruled (numbered z) (claimed l k (ys ++ z ∷ []) f) accepted (numbering_checks st (claim_of k) (length ys) z)
          (λ h. number_one z (ltb→lt (length ys) st.n h.0))

      -- ---- a repeated arc

      -- the session after it
      abbrev loaded : Load → Session
      loaded b = with_state (with_arrays (session here) (repeated_arrays (session here) b)) (with_repeat (session here).state b)

      repeat_one : (b : Load) → LoadWithin (asks st) b → loaded b ≡ session (claimed l k ys (f ++ b ∷ []))
      repeat_one b h = λ i. joined (with_balances (session here).arrays (balances_more (asks st) f loads_within few b h i))
          (state_of 3 (session here).state.reading (session here).state.numbering
          (record {
            list = (stream_more r (arcs f) b.arc ∙ ap (stream_of r) (sym (arcs_snoc f b))) i;
            cost = cost_more (asks st) f loads_within few b h i;
            cut = (ap (λ (m : ℕ → Bool). bounded_sum (pos (sum_across (units_most (asks st)) (marked (at ys)) (arcs f))) (pos (units_most (asks st) b.arc * indicator (crosses m b.arc)))) (marks_same ys fits)
                ∙ cut_more (asks st) f loads_within few b h (marked (at ys))) i;
          }))

      -- what the session holds of the annotation is what was given
      numbers_same : numbers_held (session here).state (potentials_in (session here)) ≡ numbers_here
      numbers_same = λ i. record { claim = claim_of k; given = length ys; number = at_list most_vertices ys fits i; mark = marks_same ys fits i }

      repeat_step_lem : (b : Load) → Agrees here (repeat b)
      unfolding repeat_step
      repeat_step_lem b =
          ap₂ (λ (a : Numbers) (n : ℕ). settle (refuse (session here)) (repeating_checks st a (length l) n b) (accept (loaded b))) numbers_same (length-map f (λ b. b.arc))
          ∙ ruled (loaded b) (claimed l k ys (f ++ b ∷ [])) accepted (repeating_checks st numbers_here (length l) (length f) b)
          (λ h. repeat_one b (within_limits st o numbers_here b (repeat_passed st numbers_here (length l) (length f) b h)))

      -- ---- finishing

      sums_same : sums_in (session here) ≡ sums_at st ys f
      sums_same = λ i. record {
        balances = balances_at (asks st) f loads_within few i;
        cost = pos (sum_of (unit_cost (asks st)) f);
        cut = pos (sum_across (units_most (asks st)) (marked (at ys)) (arcs f));
      }

      abbrev finishes : Numbers → ℕ → Sums → List Check
      finishes a n u = finishing_checks st a (length l) n (agree_at r l (arcs f)) u

      abbrev result : Said
      result = gives (answer_of st (claim_of k) (sums_at st ys f))

      finish_step_lem : Agrees here finish
      unfolding finish_step
      finish_step_lem =
          (λ i. settle (refuse (session here)) (finishes (numbers_same i) (length-map f (λ b. b.arc) i) (sums_same i)) (hand void (answered (answer_of st (claim_of k) (sums_same i)))))
          ∙ ruled void over result (finishes numbers_here (length f) (sums_at st ys f)) (λ h. refl)

  pub over_agrees : (a : Step) → Agrees over a
  unfolding read_step end_step claim_step number_step repeat_step finish_step
  over_agrees (read e) = refl
  over_agrees end = refl
  over_agrees (claim k) = refl
  over_agrees (number z) = refl
  over_agrees (repeat b) = refl
  over_agrees finish = refl

  pub steps_agree : (x : AcceptedLists) → Opened st → Invariant st x → (a : Step) → Agrees x a
  unfolding read_step end_step claim_step number_step repeat_step finish_step
  steps_agree over o g a = over_agrees a
  steps_agree (reading l) o g (read e) =
      decided session (refuse (session (reading l))) (λ why. reading l) (λ why. refl) (with_state (session (reading l)) (with_read (session (reading l)).state e)) (reading (l ++ e ∷ [])) accepted (reading_checks st (length l) e)
      (λ h. ap (holding 1 (held st) r) (stream_more r l e))
  steps_agree (reading l) o g end = refl
  steps_agree (reading l) o g (claim k) = refl
  steps_agree (reading l) o g (number z) = refl
  steps_agree (reading l) o g (repeat b) = refl
  steps_agree (reading l) o g finish = refl
  steps_agree (has_read l) o g (read e) = refl
  steps_agree (has_read l) o g end = refl
  steps_agree (has_read l) o g (claim k) =
      decided session (refuse (session (has_read l))) (λ why. has_read l) (λ why. refl) (with_state (session (has_read l)) (with_claim (session (has_read l)).state k)) (claimed l k [] []) accepted (claiming_checks st k)
      (λ h. claim_one l k)
  steps_agree (has_read l) o g (number z) = refl
  steps_agree (has_read l) o g (repeat b) = refl
  steps_agree (has_read l) o g finish = refl
  steps_agree (claimed l k ys f) o g (read e) = refl
  steps_agree (claimed l k ys f) o g end = refl
  steps_agree (claimed l k ys f) o g (claim j) = refl
  steps_agree (claimed l k ys f) o g (number z) = number_step_lem l k ys f o g z
  steps_agree (claimed l k ys f) o g (repeat b) = repeat_step_lem l k ys f o g b
  steps_agree (claimed l k ys f) o g finish = finish_step_lem l k ys f o g
