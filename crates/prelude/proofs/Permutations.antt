-- Permutations: what they keep, how a permutation of images lifts, and a constructive decision for lists of numbers.
use mathlib.Core.Path.{◌≡◌, refl, sym, ◌∙◌, ap, ap₂, subst}
use mathlib.Core.Logic.{◌≢◌, ◌⊎◌, inl, inr}
use mathlib.Core.List.{List, [], ◌∷◌, map, nil≢cons, cons≢nil, head-eq_of_cons-eq, tail-eq_of_cons-eq}
use Prim.Native.Nat.{ℕ, suc, ◌+◌}
use native.Mathlib.Nat.{add_left_cancel}
use native.Mathlib.Decide.{ℕ_discrete}
use native.Mathlib.Omega.{arith}
use borrow.Author.Tests.{eq-eqb, ne_eqb}
use lib.Dec.{eqb}
use lib.ListN.{length}
use Rattle.prelude.specs.Choice.{indicator}
use Rattle.prelude.specs.Lists.{Every, Some, Perm, none, keep, swap, then}

-- ---- what a permutation keeps

module _ {A : Type 0} where
  pub perm_refl : (xs : List A) → Perm xs xs
  perm_refl [] = none
  perm_refl (x ∷ xs) = keep (perm_refl xs)

  pub perm_sym : {xs ys : List A} → Perm xs ys → Perm ys xs
  perm_sym none = none
  perm_sym (keep h) = keep (perm_sym h)
  perm_sym swap = swap
  perm_sym (then h k) = then (perm_sym k) (perm_sym h)

  pub perm_length : {xs ys : List A} → Perm xs ys → length xs ≡ length ys
  perm_length none = refl
  perm_length (keep h) = ap suc (perm_length h)
  perm_length swap = refl
  perm_length (then h k) = perm_length h ∙ perm_length k

  pub perm_every : (P : A → Type 0) {xs ys : List A} → Perm xs ys → Every P xs → Every P ys
  perm_every P none a = tt
  perm_every P (keep h) a = (a.0, perm_every P h a.1)
  perm_every P swap a = (a.1.0, (a.0, a.1.1))
  perm_every P (then h k) a = perm_every P k (perm_every P h a)

  pub perm_some : (P : A → Type 0) {xs ys : List A} → Perm xs ys → Some P xs → Some P ys
  perm_some P none m = m
  perm_some P (keep h) (inl q) = inl q
  perm_some P (keep h) (inr m) = inr (perm_some P h m)
  perm_some P swap (inl q) = inr (inl q)
  perm_some P swap (inr (inl q)) = inl q
  perm_some P swap (inr (inr m)) = inr (inr m)
  perm_some P (then h k) m = perm_some P k (perm_some P h m)

-- ---- permutations of images

module _ {A B : Type 0} (f : A → B) where
  -- a permutation of the images is the image of a permutation
  pub perm_lift : {ys zs : List B} → Perm ys zs → (xs : List A) → map f xs ≡ ys → (ws : List A) × Perm xs ws × (map f ws ≡ zs)
  perm_lift none [] e = ([], none, refl)
  perm_lift none (a ∷ xs) e = absurd (cons≢nil e)
  perm_lift (keep h) [] e = absurd (nil≢cons e)
  perm_lift (keep h) (a ∷ xs) e =
      let w : (ws : List A) × Perm xs ws × (map f ws ≡ _) = perm_lift h xs (tail-eq_of_cons-eq e) in
      (a ∷ w.0, keep w.1, ap₂ ◌∷◌ (head-eq_of_cons-eq e) w.2)
  perm_lift swap [] e = absurd (nil≢cons e)
  perm_lift swap (a ∷ []) e = absurd (nil≢cons (tail-eq_of_cons-eq e))
  perm_lift swap (a ∷ b ∷ xs) e =
      (b ∷ a ∷ xs, swap, ap₂ ◌∷◌ (head-eq_of_cons-eq (tail-eq_of_cons-eq e)) (ap₂ ◌∷◌ (head-eq_of_cons-eq e) (tail-eq_of_cons-eq (tail-eq_of_cons-eq e))))
  perm_lift (then h k) xs e =
      let w : (ws : List A) × Perm xs ws × (map f ws ≡ _) = perm_lift h xs e in
      let v : (vs : List A) × Perm w.0 vs × (map f vs ≡ _) = perm_lift k w.0 w.2 in
      (v.0, then w.1 v.1, v.2)

  pub perm_map : {xs ys : List A} → Perm xs ys → Perm (map f xs) (map f ys)
  perm_map none = none
  perm_map (keep h) = keep (perm_map h)
  perm_map swap = swap
  perm_map (then h k) = then (perm_map h) (perm_map k)

  -- lists with equal images are equal, where f is injective on what meets W
  map_injective : (W : A → Type 0) → ((a b : A) → W a → W b → f a ≡ f b → a ≡ b) → (xs ys : List A) → Every W xs → Every W ys → map f xs ≡ map f ys → xs ≡ ys
  map_injective W inj [] [] hx hy e = refl
  map_injective W inj [] (y ∷ ys) hx hy e = absurd (nil≢cons e)
  map_injective W inj (x ∷ xs) [] hx hy e = absurd (cons≢nil e)
  map_injective W inj (x ∷ xs) (y ∷ ys) hx hy e =
      ap₂ ◌∷◌ (inj x y hx.0 hy.0 (head-eq_of_cons-eq e)) (map_injective W inj xs ys hx.1 hy.1 (tail-eq_of_cons-eq e))

  -- so lists whose images are permutations are permutations themselves
  pub perm_unmap : (W : A → Type 0) → ((a b : A) → W a → W b → f a ≡ f b → a ≡ b) → (xs ys : List A) → Every W xs → Every W ys → Perm (map f xs) (map f ys) → Perm xs ys
  perm_unmap W inj xs ys hx hy h =
      let w : (ws : List A) × Perm xs ws × (map f ws ≡ map f ys) = perm_lift h xs refl in
      subst (λ (l : List A). Perm xs l) (map_injective W inj w.0 ys (perm_every W w.1 hx) hy w.2) w.1

-- ---- a decision, by how often each number stands in a list

unfoldable pub occurs : ℕ → List ℕ → ℕ
occurs k [] = 0
occurs k (x ∷ xs) = indicator (eqb k x) + occurs k xs

pub perm_occurs : (k : ℕ) {xs ys : List ℕ} → Perm xs ys → occurs k xs ≡ occurs k ys
unfolding occurs
perm_occurs k none = refl
perm_occurs k (keep {x} h) = ap (λ (n : ℕ). indicator (eqb k x) + n) (perm_occurs k h)
perm_occurs k swap = omega arith
perm_occurs k (then h l) = perm_occurs k h ∙ perm_occurs k l

-- k taken out of the list, or the fact that it is not there
find : (k : ℕ) (xs : List ℕ) → ((ys : List ℕ) × Perm (k ∷ ys) xs) ⊎ (occurs k xs ≡ 0)
unfolding occurs
find k [] = inr refl
find k (x ∷ xs) = go (ℕ_discrete k x) (find k xs)
  where
    go : Dec (k ≡ x) → ((ys : List ℕ) × Perm (k ∷ ys) xs) ⊎ (occurs k xs ≡ 0) → ((ys : List ℕ) × Perm (k ∷ ys) (x ∷ xs)) ⊎ (occurs k (x ∷ xs) ≡ 0)
    go (yes e) w = inl (xs, subst (λ (y : ℕ). Perm (k ∷ xs) (y ∷ xs)) e (perm_refl (k ∷ xs)))
    go (no n) (inl w) = inl (x ∷ w.0, then swap (keep w.1))
    go (no n) (inr z) = inr (rw (ne_eqb k x n, z))

occurs_self : (k : ℕ) (xs : List ℕ) → occurs k (k ∷ xs) ≡ suc (occurs k xs)
unfolding occurs
occurs_self k xs = rw (eq-eqb k k refl) (omega arith)

-- two lists are permutations of one another, or some number does not stand in both equally often
pub perm_or_not : (xs ys : List ℕ) → Perm xs ys ⊎ ((k : ℕ) × (occurs k xs ≢ occurs k ys))
unfolding occurs
perm_or_not [] [] = inl none
perm_or_not [] (y ∷ ys) = inr (y, λ e. let f = occurs_self y ys in omega arith)
perm_or_not (x ∷ xs) ys = go (find x ys) (λ zs. perm_or_not xs zs)
  where
    go : ((zs : List ℕ) × Perm (x ∷ zs) ys) ⊎ (occurs x ys ≡ 0)
        → ((zs : List ℕ) → Perm xs zs ⊎ ((k : ℕ) × (occurs k xs ≢ occurs k zs)))
        → Perm (x ∷ xs) ys ⊎ ((k : ℕ) × (occurs k (x ∷ xs) ≢ occurs k ys))
    go (inr z) f = inr (x, λ e. let g = occurs_self x xs in omega arith)
    go (inl w) f = on (f w.0)
      where
        on : Perm xs w.0 ⊎ ((k : ℕ) × (occurs k xs ≢ occurs k w.0)) → Perm (x ∷ xs) ys ⊎ ((k : ℕ) × (occurs k (x ∷ xs) ≢ occurs k ys))
        on (inl h) = inl (then (keep h) w.1)
        on (inr v) = inr (v.0, λ e. v.1 (add_left_cancel (indicator (eqb v.0 x)) (e ∙ sym (perm_occurs v.0 w.1))))

pub perm_decided : (xs ys : List ℕ) → Dec (Perm xs ys)
perm_decided xs ys = go (perm_or_not xs ys)
  where
    go : Perm xs ys ⊎ ((k : ℕ) × (occurs k xs ≢ occurs k ys)) → Dec (Perm xs ys)
    go (inl h) = yes h
    go (inr v) = no (λ h. v.1 (perm_occurs v.0 h))
