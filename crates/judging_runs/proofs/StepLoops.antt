-- Steps that run one after the other until one is refused, and what a loop over steps numbered from 0 on keeps.
use mathlib.Core.Path.{◌≡◌, refl, sym, ◌∙◌, ap, subst}
use mathlib.Core.List.{List, [], ◌∷◌, ◌++◌, map, append_assoc, map-append}
use Prim.Native.Nat.{ℕ, suc, ◌+◌, ◌<◌, ◌≤◌}
use native.Mathlib.Omega.{arith}
use borrow.Author.Tests.{eq-eqb, ne_eqb}
use Rattle.std.proofs.Common.{Result}
use Rattle.std.specs.Result.{IsErrAnd}
use Rattle.refusals.specs.declared.Refusal.{Refusal}
use Rattle.refusals.specs.Refusals.{number}
use Rattle.state.specs.Turns.{Turn, turn_of}
use Rattle.state.specs.declared.State.{State}
use Rattle.refusals.proofs.Exits.{exit_as}
use Rattle.prelude.specs.Lists.{list_to}
use Rattle.prelude.proofs.Choice.{on, off}
use Rattle.prelude.proofs.Lists.{split}
use Rattle.network.specs.Question.{Answer, value, none}
use Rattle.state.specs.Answers.{Said, gives, refused, said, answered}
use Rattle.state.specs.Answers.{Response}
use Rattle.session.specs.Session.{hand, accept, refuse}
use Rattle.session.specs.Session.{Reply}
use Rattle.session.specs.declared.Session.{Session}
use Rattle.runs.specs.Run.{Step, step, run}
use Rattle.runs.specs.Exchange.{outcome}
use Rattle.runs.proofs.FirstAndLast.{outcome_alone}
use Rattle.judging_runs.specs.RunsTo.{RunsTo}

-- ---- the exit of a `?`

pub exit_runs : {x : Session} {steps : List Step} (g : State → Session) (s : State) (r : Result State Refusal) (e : Refusal) → IsErrAnd r (λ y. y ≡ e)
    → RunsTo x steps (number e) (g s) → RunsTo x steps (turn_of s r).why (g (turn_of s r).state)
exit_runs {x} {steps} g s r e h ran = subst (λ (u : Turn). RunsTo x steps u.why (g u.state)) (sym (exit_as (turn_of s) r e h)) ran

-- what an answer says
pub gives_answered : (a : Answer) → gives a ≡ said (answered a)
gives_answered (value v) = refl
gives_answered none = refl

-- ---- one step after the other

pub accepted_first : (x y : Session) (a : Step) (rest : List Step) → accept y ≡ step x a → outcome (run x (a ∷ rest)) ≡ outcome (run y rest)
unfolding run
accepted_first x y a rest e = ap (λ (r : Reply). outcome (said r.answer ∷ run r.session rest)) (sym e)

pub refused_first : (x : Session) (k : ℕ) (a : Step) (rest : List Step) → refuse x k ≡ step x a → outcome (run x (a ∷ rest)) ≡ refused k
unfolding run
refused_first x k a rest e = ap (λ (r : Reply). outcome (said r.answer ∷ run r.session rest)) (sym e)

-- the last step
pub answered_last : (x y : Session) (a : Step) (b : Response) → hand y b ≡ step x a → outcome (run x (a ∷ [])) ≡ said b
unfolding run
answered_last x y a b e = ap (λ (r : Reply). outcome (said r.answer ∷ [])) (sym e) ∙ outcome_alone (said b)

-- ---- a part of the steps

module _ {x : Session} {steps : List Step} {why : ℕ} {y : Session} (g : RunsTo x steps why y) where
  pub stops_there : (why ≡ 0 → ⊥) → (rest : List Step) → outcome (run x (steps ++ rest)) ≡ refused why
  stops_there n rest = g.out rest ∙ sym (off Said (refused why) (outcome (run y rest)) (refused why) _ (ne_eqb why 0 n) refl)

  pub runs_on : why ≡ 0 → (rest : List Step) → outcome (run x (steps ++ rest)) ≡ outcome (run y rest)
  runs_on z rest = g.out rest ∙ sym (on Said (outcome (run y rest)) (outcome (run y rest)) (refused why) _ (eq-eqb why 0 z) refl)

-- ---- a loop

module _ {A : Type 0} (make : A → Step) (h : ℕ → A) (x : Session) where
  -- the steps below e were accepted and left y
  pub record AcceptedTo (m : ℕ) (y : Session) (e : ℕ) : Type 0 where
    pub below : e ≤ m
    pub so_far : (rest : List Step) → outcome (run x (map make (list_to e h) ++ rest)) ≡ outcome (run y rest)

  pub none_yet : (m : ℕ) → AcceptedTo m x 0
  unfolding list_to
  none_yet m = record { below = omega arith; so_far = λ rest. refl }

  -- what stands before the step e, and after
  one_more : (e : ℕ) (later : List A) (rest : List Step) → map make (list_to e h ++ (h e ∷ later)) ++ rest ≡ map make (list_to e h) ++ (make (h e) ∷ (map make later ++ rest))
  one_more e later rest =
      ap (λ (l : List Step). l ++ rest) (map-append make (list_to e h) (h e ∷ later)) ∙ append_assoc (map make (list_to e h)) (make (h e) ∷ map make later) rest

  module _ (m : ℕ) (y : Session) (e : ℕ) (g : AcceptedTo m y e) where
    pub one_accepted : e < m → (z : Session) → accept z ≡ step y (make (h e)) → AcceptedTo m z (e + 1)
    unfolding list_to
    one_accepted l z q = record {
      below = omega arith;
      so_far = λ rest.
          ap (λ (k : ℕ). outcome (run x (map make (list_to k h) ++ rest))) (let u : e + 1 ≡ suc e = omega arith in u)
          ∙ ap (λ (k : List Step). outcome (run x k)) (one_more e [] rest)
          ∙ g.so_far (make (h e) ∷ rest)
          ∙ accepted_first y z (make (h e)) rest q;
    }

    -- a step that is refused is the last that counts
    pub one_refused : e < m → (why : ℕ) (z : Session) → refuse y why ≡ step y (make (h e)) → (why ≡ 0 → ⊥) → RunsTo x (map make (list_to m h)) why z
    one_refused l why z q n = record {
      out = λ rest. let s = split h e m l in
          ap (λ (k : List A). outcome (run x (map make k ++ rest))) s.is
          ∙ ap (λ (k : List Step). outcome (run x k)) (one_more e s.later rest)
          ∙ g.so_far (make (h e) ∷ (map make s.later ++ rest))
          ∙ refused_first y why (make (h e)) (map make s.later ++ rest) q
          ∙ off Said (refused why) (outcome (run z rest)) (refused why) _ (ne_eqb why 0 n) refl;
    }

    pub all_accepted : m ≤ e → RunsTo x (map make (list_to m h)) 0 y
    all_accepted l = record {
      out = λ rest.
          let same : m ≡ e = omega (arith, g.below) in
          ap (λ (k : ℕ). outcome (run x (map make (list_to k h) ++ rest))) same ∙ g.so_far rest;
    }
