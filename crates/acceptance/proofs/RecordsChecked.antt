-- Arcs numbered from 0 on, checked one after the other until one is refused: what the loop over the records of a file keeps.
use mathlib.Core.Path.{◌≡◌, sym, ◌∙◌, ap, subst}
use mathlib.Core.List.{List, [], ◌∷◌, ◌++◌}
use Prim.Native.Nat.{ℕ, suc, ◌+◌, ◌≤◌, ◌<◌}
use native.Mathlib.Nat.{zero-add}
use native.Mathlib.Numerals.{add-one}
use native.Mathlib.Omega.{arith}
use lib.ListN.{length}
use Rattle.prelude.specs.Checks.{first_broken, Hold}
use Rattle.prelude.specs.Lists.{list_to}
use Rattle.prelude.proofs.Lists.{split, list_to_length}
use Rattle.prelude.proofs.Settle.{settled, settle_append, hold_append, none_broken, part_refused}
use Rattle.arc_records.specs.Arcs.{Arc}
use Rattle.network.specs.Question.{Setting}
use Rattle.network.specs.Tests.{reading_checks, reading_all}
use Rattle.network.proofs.Allowed.{reading_append, one_numbered}

module _ (st : Setting) (g : ℕ → Arc) (m : ℕ) where
  -- those below e pass
  pub record Checked (e : ℕ) : Type 0 where
    pub within : e ≤ m
    pub held : Hold (reading_all st 0 (list_to e g))

  pub none_checked : Checked 0
  unfolding list_to reading_all
  none_checked = record { within = omega arith; held = tt }

  -- the checks of the arc number e, after those of the arcs before it
  one_more : (e : ℕ) (later : List Arc) → reading_all st 0 (list_to e g ++ (g e ∷ later)) ≡ reading_all st 0 (list_to e g) ++ (reading_checks st e (g e) ++ reading_all st (suc e) later)
  unfolding reading_all
  one_more e later =
      reading_append st 0 (list_to e g) (g e ∷ later)
      ∙ ap (λ (k : ℕ). reading_all st 0 (list_to e g) ++ reading_all st k (g e ∷ later)) (zero-add (length (list_to e g)) ∙ list_to_length e g)

  module _ (e why : ℕ) (h : e < m) (found : why ≡ first_broken (reading_checks st e (g e))) (so_far : Checked e) where
    pub one_passes : why ≡ 0 → Checked (e + 1)
    unfolding list_to reading_all
    one_passes z =
        let held = hold_append (reading_all st 0 (list_to e g)) (reading_checks st e (g e) ++ []) so_far.held
        (hold_append (reading_checks st e (g e)) [] (none_broken (reading_checks st e (g e)) (one_numbered st e (g e)) (sym found ∙ z)) tt) in
        record { within = omega arith; held = rw (add-one e) (subst Hold (sym (one_more e [])) held) }

    pub one_refused : (why ≡ 0 → ⊥) → why ≡ first_broken (reading_all st 0 (list_to m g))
    one_refused n =
        let s = split g e m h in
        let before = reading_all st 0 (list_to e g) in
        let after = reading_all st (suc e) s.later in
        part_refused (λ k. k) (reading_checks st e (g e)) after 0 (one_numbered st e (g e)) why found n
        ∙ sym (
        ap (λ (l : List Arc). first_broken (reading_all st 0 l)) s.is ∙ ap first_broken (one_more e s.later)
        ∙ settle_append (λ k. k) before (reading_checks st e (g e) ++ after) 0
        ∙ settled (λ k. k) before (first_broken (reading_checks st e (g e) ++ after)) so_far.held
        )

  pub all_pass : (e : ℕ) → m ≤ e → Checked e → 0 ≡ first_broken (reading_all st 0 (list_to m g))
  all_pass e h so_far =
      let k : e ≡ m = omega (arith, so_far.within) in
      sym (settled (λ k. k) (reading_all st 0 (list_to m g)) 0 (subst (λ (j : ℕ). Hold (reading_all st 0 (list_to j g))) k so_far.held))
