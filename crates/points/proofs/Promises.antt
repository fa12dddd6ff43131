-- The promises of specs/Promises.antt, kept.
use mathlib.Core.Path.{◌≡◌, refl, sym, ap, ap₂}
use mathlib.Core.List.{map}
use Rattle.prelude.proofs.Permutations.{perm_map}
use Rattle.field.proofs.Promises.{permutations_agree}
use Rattle.network.specs.Network.{key}
use Rattle.network.proofs.Keys.{arc_keys_below, keys_tell}
use Rattle.points.specs.Points.{IsPoint, print_of, same_print}
use Rattle.points.specs.declared.Print.{Print}
use Rattle.points.specs.Promises.{FewMislead, FewMisleadCounted, BothMislead, SameEverywhere}
use Rattle.points.proofs.Prints.{as_print, few_misled, at_most→points, same_print_lem, print_same}

pub few_mislead : FewMislead
few_mislead st net new o h k e unlike =
    few_misled _ _ net new (arc_keys_below st o net h) (arc_keys_below st o new k) refl (sym e)
    (λ x w. (w.0, print_same (print_of x net) (print_of x new) w.1, λ d. unlike (keys_tell st o net new h k d)))

pub few_mislead_counted : FewMisleadCounted
few_mislead_counted st net new o h k e unlike =
    at_most→points (λ x. IsPoint x × (print_of x net ≡ print_of x new)) (λ x. same_print (print_of x net) (print_of x new)) _
    (λ x w t. (w, same_print_lem (print_of x net) (print_of x new) t)) (few_mislead st net new o h k e unlike)

pub both_mislead : BothMislead
both_mislead net new x = (
  (λ w. ((w.0.0, ap (λ (f : Print). f.first) w.1), (w.0.1, ap (λ (f : Print). f.second) w.1))),
  (λ w. ((w.0.0, w.1.0), ap₂ as_print w.0.1 w.1.1)),
)

pub same_everywhere : SameEverywhere
same_everywhere net new d x =
    ap₂ as_print (permutations_agree (map key net) (map key new) (perm_map key d) x.first) (permutations_agree (map key net) (map key new) (perm_map key d) x.second)
