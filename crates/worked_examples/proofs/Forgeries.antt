-- T1: its outcome depends on nothing but the two products, and these agree where both points are that of R8.
use mathlib.Core.Path.{◌≡◌, refl, ◌∙◌, ap₂}
use mathlib.Core.Logic.{inl, inr}
use mathlib.Core.Bool.{Bool, true, false}
use mathlib.Core.List.{flat_map, map}
use Prim.Native.Nat.{ℕ}
use native.Mathlib.Omega.{arith}
use lib.Dec.{T, lit≤}
use Rattle.prelude.specs.Choice.{pick}
use Rattle.prelude.specs.Lists.{Member, list_to}
use Rattle.prelude.specs.Sums.{sum_to, sum_to_ℤ, all_to}
use Rattle.prelude.proofs.Booleans.{T→true, fails}
use Rattle.field.specs.Field.{Agree}
use Rattle.arc_records.specs.Arcs.{delta}
use Rattle.network.specs.Network.{key, arcs, sum_of, sum_across, loads_of}
use Rattle.network.specs.Question.{value}
use Rattle.network.specs.Tests.{reading_all}
use Rattle.points.specs.Points.{pair, IsPoint, point_ok, print_of, same_print}
use Rattle.points.specs.declared.Point.{Point}
use Rattle.points.proofs.Prints.{point_test, same_print_lem, print_same}
use Rattle.points.proofs.Promises.{both_mislead}
use Rattle.state.specs.Answers.{gives, refused}
use Rattle.file_fields.specs.Bytes.{pattern_of, signed_of}
use Rattle.format.specs.Files.{network_file, annotation_file}
use Rattle.runs.specs.Exchange.{numbering_all, repeating_all}
use Rattle.worked_examples.specs.Table.{R8, T1, forged_at, PlanYields, ForgeryYields}
use Rattle.worked_examples.proofs.Meetings.{r8_yields}

-- do the fingerprints agree?
abbrev same : Point → Bool
same r = same_print (print_of r T1.plan.net) (print_of r (arcs T1.loads))

-- every other check is computed
forged_outcome : (r : Point) → forged_at T1 r ≡ pick (point_ok r) (pick (same r) (gives (value 3)) (refused 14)) (refused 4)
unfolding network_file annotation_file pattern_of signed_of flat_map list_to reading_all numbering_all repeating_all loads_of delta sum_of sum_across all_to sum_to sum_to_ℤ
forged_outcome r = refl

by_prints : (r : Point) (b : Bool) → IsPoint r → same r ≡ b → forged_at T1 r ≡ pick b (gives (value 3)) (refused 14)
by_prints r b h e = forged_outcome r ∙ ap₂ (λ (s t : Bool). pick s (pick t (gives (value 3)) (refused 14)) (refused 4)) (T→true (point_ok r) (point_test r h)) e

-- ---- one point, and two

abbrev Agrees : ℕ → Type 0
Agrees = Agree (map key R8.read) (map key R8.repeated)

-- R8's point, and no other
agrees : (k : ℕ) → Agrees k → k ≡ 32769
agrees k h = only (r8_yields.nowhere_else k h)
  where
    only : Member k R8.points → k ≡ 32769
    only (inl e) = e
    only (inr m) = absurd m

not_at_0 : ¬ (Agrees 0)
not_at_0 h = let e = agrees 0 h in omega arith

both_agree : (r : Point) → Agrees r.first → Agrees r.second → same r ≡ true
both_agree r h k =
    let w = (both_mislead T1.plan.net (arcs T1.loads) r).1 (h, k) in
    T→true (same r) (print_same (print_of r T1.plan.net) (print_of r (arcs T1.loads)) w.1)

one_differs : (r : Point) → IsPoint r → (Agrees r.first → Agrees r.second → ⊥) → forged_at T1 r ≡ refused 14
one_differs r h apart = by_prints r false h (fails (same r) go)
  where
    go : T (same r) → ⊥
    go t =
        let w = (both_mislead T1.plan.net (arcs T1.loads) r).0 (h, same_print_lem (print_of r T1.plan.net) (print_of r (arcs T1.loads)) t) in
        apart w.0 w.1

pub t1_yields : PlanYields T1.plan → ForgeryYields T1
t1_yields truth = record {
  truth = truth;
  wrong = λ e. let z : ◌≡◌ {A = ℕ} 3 2 = cc in absurd (omega arith);
  there = ((points, by_prints (pair 32769 32769) true points (both_agree (pair 32769 32769) at_it at_it)), tt);
  elsewhere = λ r h other. one_differs r h (λ a b. other (inl (ap₂ pair (agrees r.first a) (agrees r.second b))));
  one_refused = (
    (inl (at_it, not_at_0), one_differs (pair 32769 0) (lit≤ tt, lit≤ tt) (λ a b. not_at_0 b)),
    ((inr (at_it, not_at_0), one_differs (pair 0 32769) (lit≤ tt, lit≤ tt) (λ a b. not_at_0 a)), tt),
  );
}
  where
    points : IsPoint (pair 32769 32769)
    points = (lit≤ tt, lit≤ tt)

    at_it : Agrees 32769
    at_it = r8_yields.there.0
