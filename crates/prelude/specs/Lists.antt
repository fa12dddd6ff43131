-- Lists: what holds of every element or of one, permutations, and how many different things meet a condition.
use Rattle.std.specs.Prelude.{◌≡◌, ◌⊎◌, Bool, true, false, ◌&&◌, ◌||◌, List, [], ◌∷◌, ◌++◌, ℕ, zero, suc, ◌≤◌, ℤ, pos, length, get_or}

-- P holds of every element.
abbrev pub Every : {A : Type 0} → (A → Type 0) → List A → Type 0
Every P [] = Unit {0}
Every P (a ∷ l) = P a × Every P l

-- P holds of some element.
abbrev pub Some : {A : Type 0} → (A → Type 0) → List A → Type 0
Some P [] = ⊥
Some P (a ∷ l) = P a ⊎ Some P l

-- a is an element of the list.
abbrev pub Member : {A : Type 0} → A → List A → Type 0
Member a l = Some (λ b. a ≡ b) l

-- No two elements are equal.
abbrev pub Distinct : {A : Type 0} → List A → Type 0
Distinct [] = Unit {0}
Distinct (a ∷ l) = Every (λ b. ¬ (a ≡ b)) l × Distinct l

-- The second list has the elements of the first, each as often, in any order.
pub data Perm {A : Type 0} : List A → List A → Type 0 where
  none : Perm [] []
  keep : {x : A} {xs ys : List A} → Perm xs ys → Perm (x ∷ xs) (x ∷ ys)
  swap : {x y : A} {xs : List A} → Perm (x ∷ y ∷ xs) (y ∷ x ∷ xs)
  then : {xs ys zs : List A} → Perm xs ys → Perm ys zs → Perm xs zs

-- At most k different things meet P.
abbrev pub AtMost : {A : Type 0} → ℕ → (A → Type 0) → Type 0
AtMost {A} k P = (l : List A) → Distinct l → Every P l → length l ≤ k

-- The test holds of every element.
abbrev pub all : {A : Type 0} → (A → Bool) → List A → Bool
all p [] = true
all p (a ∷ l) = p a && all p l

-- The test holds of some element.
abbrev pub any : {A : Type 0} → (A → Bool) → List A → Bool
any p [] = false
any p (a ∷ l) = p a || any p l

-- g 0, …, g (n - 1).
unfoldable pub list_to : {A : Type 0} → ℕ → (ℕ → A) → List A
list_to zero g = []
list_to (suc n) g = list_to n g ++ (g n ∷ [])

-- The entry at the index i, 0 past the end.
abbrev pub at : List ℤ → ℕ → ℤ
at l i = get_or l i (pos 0)
