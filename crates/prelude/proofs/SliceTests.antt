-- What `iter().all(..)` and `iter().any(..)` answer over a slice, where the closure computes a test: whether every element passes, or some element.
use mathlib.Core.Path.{◌≡◌, refl, ap, ◌∙◌}
use mathlib.Core.Bool.{Bool, ◌&&◌, ◌||◌}
use mathlib.Core.List.{List, [], ◌∷◌, map}
use denote.Ref.{Bor}
use denote.Param.Members.{Mut}
use Rattle.std.proofs.iter.Yields.{fronts}
use Rattle.std.specs.declared.slice.Iter.{Iter}
use Rattle.std.specs.Fn.{Called}
use Rattle.std.specs.Iterator.{ChecksAll, ChecksAny}
use Rattle.std.specs.List.{list_all, list_any}
use Rattle.std.specs.Slice.Iter.{iter_rest}
use Rattle.std.proofs.lemmas.Iterator.{YieldsList-from_slice}
use Rattle.std.proofs.lemmas.Iterator.Search.{all_from_yields_List, any_from_yields_List}
use Rattle.prelude.specs.Lists.{all, any}

list_all_is : {A : Type 0} (p : A → Bool) (l : List A) → list_all p l ≡ all p l
list_all_is p [] = refl
list_all_is p (a ∷ l) = ap (λ (b : Bool). p a && b) (list_all_is p l)

pub all_in_slice : {A F : Type 0} {g : Mut F (Bor A × Unit {0}) Bool} {s u : Iter A} {f : F} {r : Bool} (p : A → Bool) (l : List A)
    → ChecksAll fronts g s f r u → iter_rest s ≡ l → ((x : Bor A) (b : Bool) (q : F) → Called g f (x, tt) b q → (q ≡ f) × (b ≡ p x.now)) → r ≡ all p l
all_in_slice {s = s} {u = u} {f = f} {r = r} p l ran rest calls = all_from_yields_List p u f r ran (YieldsList-from_slice l rest) calls ∙ list_all_is p l

-- ---- the test of what each element stands for

module _ {A B : Type 0} (p : B → Bool) (held : A → B) where
  all_held : (l : List A) → all (λ a. p (held a)) l ≡ all p (map held l)
  all_held [] = refl
  all_held (a ∷ l) = ap (λ (b : Bool). p (held a) && b) (all_held l)

  any_held : (l : List A) → list_any (λ a. p (held a)) l ≡ any p (map held l)
  any_held [] = refl
  any_held (a ∷ l) = ap (λ (b : Bool). p (held a) || b) (any_held l)

  module _ {F : Type 0} {g : Mut F (Bor A × Unit {0}) Bool} {s u : Iter A} {f : F} {r : Bool} (l : List A) where
    pub every_held : ChecksAll fronts g s f r u → iter_rest s ≡ l
        → ((x : Bor A) (b : Bool) (q : F) → Called g f (x, tt) b q → (q ≡ f) × (b ≡ p (held x.now))) → r ≡ all p (map held l)
    every_held ran rest calls = all_in_slice (λ a. p (held a)) l ran rest calls ∙ all_held l

    pub some_held : ChecksAny fronts g s f r u → iter_rest s ≡ l
        → ((x : Bor A) (b : Bool) (q : F) → Called g f (x, tt) b q → (q ≡ f) × (b ≡ p (held x.now))) → r ≡ any p (map held l)
    some_held ran rest calls = any_from_yields_List (λ a. p (held a)) u f r ran (YieldsList-from_slice l rest) calls ∙ any_held l
