-- What judging gives at each of the places where it ends.
use mathlib.Core.Path.{◌≡◌, refl, sym, ◌∙◌, ap, subst}
use mathlib.Core.Bool.{true, false}
use mathlib.Core.List.{List, [], ◌∷◌, ◌++◌, map}
use Prim.Native.Nat.{ℕ}
use native.Mathlib.Omega.{arith}
use Rattle.prelude.specs.Checks.{Check, ◌unless◌, settle, first_broken, Hold}
use Rattle.prelude.proofs.Settle.{settled, settled_back, none_broken}
use Rattle.network.specs.Question.{Setting}
use Rattle.points.specs.declared.Point.{Point}
use Rattle.checks.specs.Held.{handed}
use Rattle.checks.specs.declared.Opening.{Opening}
use Rattle.format.specs.Files.{setting_in, n_in, arcs_in, network_layout, annotation_layout}
use Rattle.state.specs.Answers.{Said, accepted, gives, refused}
use Rattle.state.specs.Turns.{open_turn}
use Rattle.state.specs.Turns.{Turn}
use Rattle.session.specs.Session.{fresh}
use Rattle.session.specs.Steps.{opening}
use Rattle.session.specs.Session.{Reply}
use Rattle.session.specs.declared.Session.{Session}
use Rattle.session.proofs.TurnsToSteps.{open_found, open_accepted}
use Rattle.runs.specs.Run.{read, run}
use Rattle.runs.specs.Exchange.{outcome}
use Rattle.runs.proofs.Verdict.{reading_broken}
use Rattle.judging.specs.Judging.{judged}
use Rattle.judging_runs.specs.RunsTo.{RunsTo}
use Rattle.judging_runs.specs.FileSteps.{steps_in}
use Rattle.runs.proofs.Openings.{opens_rule}
use Rattle.judging.proofs.Promises.{by_steps, apart, opens, reads, notes, ends, answer}
use Rattle.judging_runs.proofs.StepLoops.{stops_there, runs_on}

-- ---- checks that hold, and the first that does not

broken_here : (cs : List Check) (later : Said) (why : ℕ) → why ≡ first_broken cs → (why ≡ 0 → ⊥) → settle refused cs later ≡ refused why
broken_here [] later why e n = absurd (n e)
broken_here ((k unless true) ∷ cs) later why e n = broken_here cs later why e n
broken_here ((k unless false) ∷ cs) later why e n = ap refused (sym e)

stuck : (cs : List Check) (later : Said) → (settle refused cs accepted ≡ accepted → ⊥) → settle refused cs later ≡ settle refused cs accepted
stuck [] later n = absurd (n refl)
stuck ((k unless true) ∷ cs) later n = stuck cs later n
stuck ((k unless false) ∷ cs) later n = refl

not_accepted : (k : ℕ) → refused k ≡ accepted → ⊥
not_accepted k e = let z : ◌≡◌ {A = ℕ} 0 1 = cc in omega arith

clear : (cs : List Check) → settle refused cs accepted ≡ accepted → Hold cs
clear cs e = (settled_back refused cs accepted accepted not_accepted e).0

-- ---- judging, part by part

module _ (net ann : List ℕ) (r : Point) where
  abbrev layout_checks : List Check
  layout_checks = network_layout net

  abbrev opening_checks : List Check
  opening_checks = opens net ann r

  abbrev reading_checks : List Check
  reading_checks = reads net ann r

  abbrev layout_of_annotation : List Check
  layout_of_annotation = annotation_layout (n_in net) ann

  -- what is left to decide after the layout of the annotation, after reading, after opening, after the layout of the network
  abbrev after_annotation : Said
  after_annotation = settle refused (notes net ann r ++ ends net ann r) (gives (answer net ann r))

  abbrev after_reading : Said
  after_reading = settle refused layout_of_annotation after_annotation

  abbrev after_opening : Said
  after_opening = settle refused reading_checks after_reading

  abbrev after_layout : Said
  after_layout = settle refused opening_checks after_opening

  pub at_layout : (why : ℕ) → why ≡ first_broken layout_checks → (why ≡ 0 → ⊥) → refused why ≡ judged net ann r
  at_layout why e n = sym (apart net ann r ∙ broken_here layout_checks after_layout why e n)

  module _ (why : ℕ) (found : why ≡ first_broken layout_checks) (fine : why ≡ 0) where
    layout_held : Hold layout_checks
    layout_held = none_broken layout_checks (refl, (refl, (refl, tt))) (sym found ∙ fine)

    past_layout : judged net ann r ≡ after_layout
    past_layout = apart net ann r ∙ settled refused layout_checks after_layout layout_held

    module _ (o : Opening) (eo : handed o ≡ setting_in net) (u : Turn) (eu : u ≡ open_turn (handed o) r) where
      as_filed : u ≡ open_turn (setting_in net) r
      as_filed = eu ∙ ap (λ (st : Setting). open_turn st r) eo

      at_first : u.why ≡ first_broken opening_checks
      at_first = open_found (setting_in net) r u as_filed

      pub at_opening : (u.why ≡ 0 → ⊥) → refused u.why ≡ judged net ann r
      at_opening n = sym (past_layout ∙ broken_here opening_checks after_opening u.why at_first n)

      module _ (ok : u.why ≡ 0) (k : ℕ) (y : Session) (g : RunsTo (fresh u.state) (map read (arcs_in net)) k y) where
        opening_held : Hold opening_checks
        opening_held = none_broken opening_checks (refl, (refl, (refl, (refl, tt)))) (sym at_first ∙ ok)

        from_opening : RunsTo (opening (setting_in net) r).session (map read (arcs_in net)) k y
        from_opening = subst (λ (x : Reply). RunsTo x.session (map read (arcs_in net)) k y) (open_accepted (setting_in net) r u as_filed ok) g

        past_opening : judged net ann r ≡ after_opening
        past_opening = past_layout ∙ settled refused opening_checks after_opening opening_held

        read_through : settle refused reading_checks accepted ≡ outcome (run (opening (setting_in net) r).session (map read (arcs_in net) ++ []))
        read_through = sym (reading_broken (setting_in net) r (arcs_in net) (opens_rule (setting_in net) r opening_held))

        pub at_reading : (k ≡ 0 → ⊥) → refused k ≡ judged net ann r
        at_reading n =
            let q = read_through ∙ stops_there from_opening n [] in
            sym q ∙ sym (past_opening ∙ stuck reading_checks after_reading (λ e. not_accepted k (sym q ∙ e)))

        module _ (passed : k ≡ 0) where
          reading_held : Hold reading_checks
          unfolding run
          reading_held = clear reading_checks (read_through ∙ runs_on from_opening passed [])

          past_reading : judged net ann r ≡ after_reading
          past_reading = past_opening ∙ settled refused reading_checks after_reading reading_held

          pub at_annotation : (j n : ℕ) → n ≡ n_in net → j ≡ first_broken (annotation_layout n ann) → (j ≡ 0 → ⊥) → refused j ≡ judged net ann r
          at_annotation j n en e no_zero = sym (past_reading ∙ broken_here layout_of_annotation after_annotation j (e ∙ ap (λ (i : ℕ). first_broken (annotation_layout i ann)) en) no_zero)

          pub at_steps : (j n : ℕ) → n ≡ n_in net → j ≡ first_broken (annotation_layout n ann) → j ≡ 0 → (s : Said) → s ≡ outcome (run y (steps_in n ann)) → s ≡ judged net ann r
          at_steps j n en e z s q =
              q ∙ ap (λ (i : ℕ). outcome (run y (steps_in i ann))) en
              ∙ sym (by_steps net ann r layout_held opening_held reading_held (none_broken layout_of_annotation (refl, (refl, (refl, tt))) (sym (e ∙ ap (λ (i : ℕ). first_broken (annotation_layout i ann)) en) ∙ z))
              ∙ runs_on from_opening passed (steps_in (n_in net) ann))
