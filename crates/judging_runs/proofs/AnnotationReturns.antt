-- What the steps of an annotation file come out as at each of the places where running them ends.
use mathlib.Core.Path.{◌≡◌, sym, ◌∙◌, ap}
use mathlib.Core.List.{List, [], ◌∷◌, ◌++◌, map}
use Prim.Native.Nat.{ℕ}
use Rattle.prelude.specs.Checks.{first_broken}
use Rattle.network.specs.Tests.{answer_of}
use Rattle.format.specs.Files.{claim_in, numbers_in, loads_in}
use Rattle.state.specs.Answers.{Said, refused, said, answered}
use Rattle.state.specs.State.{setting_held, claim_held, finish_checks}
use Rattle.state.specs.Turns.{end_turn, claim_turn}
use Rattle.state.specs.Answers.{Response}
use Rattle.session.specs.Session.{potentials_in, sums_in, fresh, void}
use Rattle.session.specs.declared.Session.{Session}
use Rattle.state.specs.declared.State.{State}
use Rattle.state.specs.Turns.{Turn}
use Rattle.session.proofs.TurnsToSteps.{end_replies, claim_replies, finish_refused, finish_answered}
use Rattle.runs.specs.Run.{Step, end, claim, number, repeat, finish, run}
use Rattle.runs.specs.Exchange.{outcome}
use Rattle.judging_runs.specs.RunsTo.{RunsTo}
use Rattle.judging_runs.specs.FileSteps.{steps_in}
use Rattle.judging_runs.proofs.StepLoops.{accepted_first, refused_first, answered_last, stops_there, runs_on}

module _ (x : State) (n : ℕ) (ann : List ℕ) where
  abbrev start : Session
  start = fresh x

  abbrev later : List Step
  later = map repeat (loads_in n ann) ++ (finish ∷ [])

  abbrev last : List Step
  last = map number (numbers_in n ann) ++ later

  abbrev whole : Said
  whole = outcome (run start (steps_in n ann))

  module _ (u : Turn) (eu : u ≡ end_turn x) where
    pub at_end : (u.why ≡ 0 → ⊥) → refused u.why ≡ whole
    at_end h = sym (refused_first start u.why end (claim (claim_in ann) ∷ last) ((end_replies start u eu).refused h))

    module _ (zu : u.why ≡ 0) (k : ℕ) (ek : k ≡ claim_in ann) (v : Turn) (ev : v ≡ claim_turn u.state k) where
      abbrev ended : Session
      ended = fresh u.state

      as_claimed : v ≡ claim_turn u.state (claim_in ann)
      as_claimed = ev ∙ ap (claim_turn u.state) ek

      past_end : whole ≡ outcome (run ended (claim (claim_in ann) ∷ last))
      past_end = accepted_first start ended end (claim (claim_in ann) ∷ last) ((end_replies start u eu).accepted zu)

      pub at_claim : (v.why ≡ 0 → ⊥) → refused v.why ≡ whole
      at_claim h = sym (past_end ∙ refused_first ended v.why (claim (claim_in ann)) last ((claim_replies ended (claim_in ann) v as_claimed).refused h))

      module _ (zv : v.why ≡ 0) (i : ℕ) (y : Session) (g : RunsTo (fresh v.state) (map number (numbers_in n ann)) i y) where
        past_claim : whole ≡ outcome (run (fresh v.state) last)
        past_claim = past_end ∙ accepted_first ended (fresh v.state) (claim (claim_in ann)) last ((claim_replies ended (claim_in ann) v as_claimed).accepted zv)

        pub at_numbers : (i ≡ 0 → ⊥) → refused i ≡ whole
        at_numbers h = sym (past_claim ∙ stops_there g h later)

        module _ (zi : i ≡ 0) (j : ℕ) (z : Session) (f : RunsTo y (map repeat (loads_in n ann)) j z) where
          past_numbers : whole ≡ outcome (run y later)
          past_numbers = past_claim ∙ runs_on g zi later

          pub at_repeats : (j ≡ 0 → ⊥) → refused j ≡ whole
          at_repeats h = sym (past_numbers ∙ stops_there f h (finish ∷ []))

          module _ (zj : j ≡ 0) (m : ℕ) (em : m ≡ first_broken (finish_checks z.state (potentials_in z) (sums_in z))) where
            past_repeats : whole ≡ outcome (run z (finish ∷ []))
            past_repeats = past_numbers ∙ runs_on f zj (finish ∷ [])

            pub at_finish : (m ≡ 0 → ⊥) → refused m ≡ whole
            at_finish h = sym (past_repeats ∙ refused_first z m finish [] (finish_refused z m em h))

            pub at_answer : m ≡ 0 → (a : Response) → a ≡ answered (answer_of (setting_held z.state) (claim_held z.state) (sums_in z)) → said a ≡ whole
            at_answer zm a ea = sym (past_repeats ∙ answered_last z void finish a (finish_answered z m em void a (λ i. void) ea zm))
