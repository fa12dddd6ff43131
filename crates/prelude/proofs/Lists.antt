-- What holds of every element of a list or of one, a list of different elements without one of them, and lists of what is numbered from 0 on.
use mathlib.Core.Path.{◌≡◌, refl, sym, ◌∙◌, ap, ap₂, subst}
use mathlib.Core.Logic.{inl, inr, ⊎_map}
use mathlib.Core.Bool.{Bool}
use mathlib.Core.List.{List, [], ◌∷◌, ◌++◌, map, append_assoc, append-nil}
use Prim.Native.Nat.{ℕ, zero, suc, ◌≤◌, ◌<◌, suc-le-suc}
use native.Mathlib.Nat.{le_refl}
use native.Mathlib.Decide.{ℕ_discrete}
use native.Mathlib.Omega.{arith}
use lib.Dec.{T}
use lib.ListN.{length, get_or, take, length-append}
use lib.Seq.{take-suc}
use Rattle.prelude.specs.Lists.{Every, Some, Member, Distinct, all, any, list_to}
use Rattle.prelude.proofs.Booleans.{and_left, and_right, both, either, in_either}

pub every_map : {A : Type 0} {P Q : A → Type 0} → ((a : A) → P a → Q a) → (l : List A) → Every P l → Every Q l
every_map k [] e = tt
every_map k (a ∷ l) e = (k a e.0, every_map k l e.1)

-- from two rules that hold of every element
pub every_zip : {A : Type 0} {P Q R : A → Type 0} → ((a : A) → P a → Q a → R a) → (l : List A) → Every P l → Every Q l → Every R l
every_zip k [] e f = tt
every_zip k (a ∷ l) e f = (k a e.0 f.0, every_zip k l e.1 f.1)

-- what holds of every element holds of each
pub every_at : {A : Type 0} (P : A → Type 0) (l : List A) → Every P l → {a : A} → Member a l → P a
every_at P [] e m = absurd m
every_at P (b ∷ l) e (inl q) = subst P (sym q) e.0
every_at P (b ∷ l) e (inr m) = every_at P l e.1 m

-- of the images under f
pub every_image : {A B : Type 0} (f : A → B) (P : B → Type 0) (l : List A) → Every P (map f l) → Every (λ a. P (f a)) l
every_image f P [] e = tt
every_image f P (a ∷ l) e = (e.0, every_image f P l e.1)

pub image_every : {A B : Type 0} (f : A → B) (P : B → Type 0) (l : List A) → Every (λ a. P (f a)) l → Every P (map f l)
image_every f P [] e = tt
image_every f P (a ∷ l) e = (e.0, image_every f P l e.1)

-- a test of every element
pub all→every : {A : Type 0} {P : A → Type 0} (p : A → Bool) → ((a : A) → T (p a) → P a) → (l : List A) → T (all p l) → Every P l
all→every p k [] t = tt
all→every p k (a ∷ l) t = (k a (and_left (p a) (all p l) t), all→every p k l (and_right (p a) (all p l) t))

pub every→all : {A : Type 0} {P : A → Type 0} (p : A → Bool) → ((a : A) → P a → T (p a)) → (l : List A) → Every P l → T (all p l)
every→all p k [] e = tt
every→all p k (a ∷ l) e = both (p a) (all p l) (k a e.0) (every→all p k l e.1)

-- a test of some element
module _ {A : Type 0} {P : A → Type 0} (p : A → Bool) where
  pub any→some : ((a : A) → T (p a) → P a) → (l : List A) → T (any p l) → Some P l
  any→some k [] t = t
  any→some k (a ∷ l) t = ⊎_map (k a) (any→some k l) (either (p a) (any p l) t)

  pub some→any : ((a : A) → P a → T (p a)) → (l : List A) → Some P l → T (any p l)
  some→any k [] h = h
  some→any k (a ∷ l) h = in_either (p a) (any p l) (⊎_map (k a) (some→any k l) h)

-- a list of different elements without k: it lacks k, and is shorter by one at most
pub record Without {A : Type 0} (k : A) (l : List A) : Type 1 where
  pub rest : List A
  pub distinct : Distinct rest
  pub others : Every (λ a. ¬ (k ≡ a)) rest
  pub part : (P : A → Type 0) → Every P l → Every P rest
  pub size : length l ≤ suc (length rest)

pub without : {A : Type 0} → Discrete A → (k : A) (l : List A) → Distinct l → Without k l
without dec k [] d = record { rest = []; distinct = tt; others = tt; part = λ P a. tt; size = omega arith }
without {A} dec k (x ∷ xs) d = go (dec k x) (without dec k xs d.1)
  where
    go : Dec (k ≡ x) → Without k xs → Without k (x ∷ xs)
    go (yes e) w =
        record {
          rest = xs;
          distinct = d.1;
          others = subst (λ (y : A). Every (λ z. ¬ (y ≡ z)) xs) (sym e) d.0;
          part = λ P a. a.1;
          size = le_refl _;
        }
    go (no n) w =
        record {
          rest = x ∷ w.rest;
          distinct = (w.part (λ y. ¬ (x ≡ y)) d.0, w.distinct);
          others = (n, w.others);
          part = λ P a. (a.0, w.part P a.1);
          size = suc-le-suc w.size;
        }

-- one element among others, put in and left out
pub every_insert : {A : Type 0} (P : A → Type 0) (xs ys : List A) (a : A) → P a → Every P (xs ++ ys) → Every P (xs ++ a ∷ ys)
every_insert P [] ys a p h = (p, h)
every_insert P (x ∷ xs) ys a p h = (h.0, every_insert P xs ys a p h.1)

pub every_of : {A : Type 0} (P : A → Type 0) (xs ys : List A) (a : A) → Every P (xs ++ a ∷ ys) → P a × Every P (xs ++ ys)
every_of P [] ys a h = (h.0, h.1)
every_of P (x ∷ xs) ys a h = let r = every_of P xs ys a h.1 in (r.0, (h.0, r.1))

pub every_snoc : {A : Type 0} (P : A → Type 0) (l : List A) (a : A) → Every P l → P a → Every P (l ++ a ∷ [])
every_snoc P l a e p = every_insert P l [] a p (rw (append-nil l) e)

pub every_append : {A : Type 0} (P : A → Type 0) (xs ys : List A) → Every P xs → Every P ys → Every P (xs ++ ys)
every_append P [] ys e f = f
every_append P (x ∷ xs) ys e f = (e.0, every_append P xs ys e.1 f)

-- ---- lists of what is numbered from 0 on

pub list_to_length : {A : Type 0} (n : ℕ) (g : ℕ → A) → length (list_to n g) ≡ n
unfolding list_to
list_to_length zero g = refl
list_to_length (suc n) g = length-append (list_to n g) (g n ∷ []) ∙ omega (arith, list_to_length n g)

-- the entries of a list, listed
pub list_to_take : {A : Type 0} (d : A) (xs : List A) (g : ℕ → A) → ((e : ℕ) → e < length xs → g e ≡ get_or xs e d) → (n : ℕ) → n ≤ length xs → list_to n g ≡ take n xs
unfolding list_to
list_to_take d xs g h zero l = refl
list_to_take d xs g h (suc n) l =
    ap₂ (λ ys y. ys ++ (y ∷ [])) (list_to_take d xs g h n (omega arith)) (h n (omega arith)) ∙ sym (take-suc xs n d (omega arith))

-- the list below m, with the entry of the number e in its place
pub record Split {A : Type 0} (h : ℕ → A) (e m : ℕ) : Type 0 where
  pub later : List A
  pub is : list_to m h ≡ list_to e h ++ (h e ∷ later)

pub split : {A : Type 0} (h : ℕ → A) (e m : ℕ) → e < m → Split h e m
unfolding list_to
split h e zero l = absurd (omega arith)
split {A} h e (suc m) l = go (ℕ_discrete e m) (split h e m)
  where
    go : Dec (e ≡ m) → (e < m → Split h e m) → Split h e (suc m)
    go (yes q) before = record { later = []; is = sym (ap (λ (k : ℕ). list_to k h ++ (h k ∷ [])) q) }
    go (no q) before =
        let s = before (omega arith) in
        record { later = s.later ++ (h m ∷ []); is = ap (λ (k : List A). k ++ (h m ∷ [])) s.is ∙ append_assoc (list_to e h) (h e ∷ s.later) (h m ∷ []) }
