-- Potentials rose and the matching grew: the same for lists of the same lengths.
use mathlib.Core.Path.{◌≡◌, sym, ◌∙◌, subst}
use mathlib.Core.List.{List}
use Prim.Native.Nat.{ℕ}
use lib.ListN.{length, set, length-set}
use Rattle.packed_arcs.specs.Entries.{entry}
use Rattle.match_state.specs.Matching.{State}
use Rattle.match_tree.specs.Tree.{Reached}
use Rattle.match_augmenting.specs.Augmenting.{Raised, Alternating}
use Rattle.match_augmenting.proofs.Raising.{alternating}

module _ {h n : ℕ} {T H W mate pi : List ℕ} (S : State h n T H W mate pi) {t r : ℕ} {dist par order : List ℕ} (R : Reached h n T H W mate pi t dist par order r) {h' n' : ℕ}
    (p : h' ≡ length (set order r 255)) (q : n' ≡ n) where
  order_long : h' ≡ h
  order_long = p ∙ length-set order r 255 ∙ R.order_len

  pub path_found : {pi' : List ℕ} → Raised h T mate dist t (entry dist r) pi pi' → Alternating h' n' T H W mate pi' par (set order r 255) t r
  path_found {pi'} U =
      subst (λ (z : ℕ). Alternating z n' T H W mate pi' par (set order r 255) t r) (sym order_long)
      (subst (λ (z : ℕ). Alternating h z T H W mate pi' par (set order r 255) t r) (sym q) (alternating S R U))
