-- At most so many things: of one kind or another, and of pairs.
use mathlib.Core.Path.{◌≡◌, refl, sym, ◌∙◌}
use mathlib.Core.Logic.{◌⊎◌, inl, inr}
use mathlib.Core.List.{List, [], ◌∷◌, map}
use Prim.Native.Nat.{ℕ, zero, suc, ◌+◌, ◌*◌, ◌≤◌}
use native.Mathlib.Decide.{ℕ_discrete}
use native.Mathlib.Omega.{arith}
use lib.ListN.{length, length-map}
use Rattle.prelude.specs.Lists.{Every, Distinct, AtMost}
use Rattle.prelude.proofs.Lists.{every_map, every_zip, image_every}

-- a list of different things, each of one kind or of another, taken apart
pub record Parts {A : Type 0} (P Q : A → Type 0) (l : List A) : Type 1 where
  pub first : List A
  pub second : List A
  pub first_distinct : Distinct first
  pub second_distinct : Distinct second
  pub first_so : Every P first
  pub second_so : Every Q second
  pub first_part : (R : A → Type 0) → Every R l → Every R first
  pub second_part : (R : A → Type 0) → Every R l → Every R second
  pub size : length l ≡ length first + length second

pub parts : {A : Type 0} (P Q : A → Type 0) (l : List A) → Distinct l → Every (λ a. P a ⊎ Q a) l → Parts P Q l
parts P Q [] d e = record { first = []; second = []; first_distinct = tt; second_distinct = tt; first_so = tt; second_so = tt; first_part = λ R h. tt; second_part = λ R h. tt; size = refl }
parts {A} P Q (a ∷ l) d e = go e.0 (parts P Q l d.1 e.1)
  where
    go : P a ⊎ Q a → Parts P Q l → Parts P Q (a ∷ l)
    go (inl h) w = record {
      first = a ∷ w.first;
      second = w.second;
      first_distinct = (w.first_part (λ b. ¬ (a ≡ b)) d.0, w.first_distinct);
      second_distinct = w.second_distinct;
      first_so = (h, w.first_so);
      second_so = w.second_so;
      first_part = λ R q. (q.0, w.first_part R q.1);
      second_part = λ R q. w.second_part R q.1;
      size = omega (arith, w.size);
    }
    go (inr h) w = record {
      first = w.first;
      second = a ∷ w.second;
      first_distinct = w.first_distinct;
      second_distinct = (w.second_part (λ b. ¬ (a ≡ b)) d.0, w.second_distinct);
      first_so = w.first_so;
      second_so = (h, w.second_so);
      first_part = λ R q. w.first_part R q.1;
      second_part = λ R q. (q.0, w.second_part R q.1);
      size = omega (arith, w.size);
    }

pub at_most_or : {A : Type 0} {P Q : A → Type 0} {m n : ℕ} → AtMost m P → AtMost n Q → AtMost (m + n) (λ a. P a ⊎ Q a)
at_most_or {A} {P} {Q} f g l d e =
    let w = parts P Q l d e in
    omega (arith, f w.first w.first_distinct w.first_so, g w.second w.second_distinct w.second_so, w.size)

-- things with two numbers each that tell them apart
module _ {X : Type 0} (f g : X → ℕ) (tell : (x y : X) → f x ≡ f y → g x ≡ g y → x ≡ y) where
  -- of those with the same first number the second ones differ
  seconds : (a : ℕ) (l : List X) → Distinct l → Every (λ y. f y ≡ a) l → Distinct (map g l)
  seconds a [] d e = tt
  seconds a (x ∷ l) d e = (others l d.0 e.1, seconds a l d.1 e.1)
    where
      others : (l : List X) → Every (λ y. ¬ (x ≡ y)) l → Every (λ y. f y ≡ a) l → Every (λ k. ¬ (g x ≡ k)) (map g l)
      others [] h k = tt
      others (y ∷ l) h k = ((λ q. h.0 (tell x y (e.0 ∙ sym k.0) q)), others l h.1 k.1)

  module _ (n : ℕ) (Q : ℕ → Type 0) (few : AtMost n Q) where
    -- one first number more
    one_more : (m : ℕ) → ((P : ℕ → Type 0) → AtMost m P → AtMost (m * n) (λ x. P (f x) × Q (g x)))
        → (P : ℕ → Type 0) → AtMost (suc m) P → AtMost (suc m * n) (λ x. P (f x) × Q (g x))
    one_more m ih P h [] d e = omega arith
    one_more m ih P h (x ∷ l) d e = total (parts Same Other (x ∷ l) d (every_map (λ y (w : P (f y) × Q (g y)). kind (ℕ_discrete (f y) (f x))) (x ∷ l) e)) (ih Rest rest)
      where
        Same : X → Type 0
        Same y = f y ≡ f x

        Other : X → Type 0
        Other y = ¬ (f y ≡ f x)

        kind : {y : X} → Dec (f y ≡ f x) → Same y ⊎ Other y
        kind (yes q) = inl q
        kind (no q) = inr q

        Rest : ℕ → Type 0
        Rest k = P k × ¬ (k ≡ f x)

        rest : AtMost m Rest
        rest ks dk ek =
            let z = h (f x ∷ ks) (every_map {P = Rest} {Q = λ k. ¬ (f x ≡ k)} (λ k w q. w.1 (sym q)) ks ek, dk) (e.0.0, every_map (λ k (w : Rest k). w.0) ks ek) in
            omega arith

        total : Parts Same Other (x ∷ l) → AtMost (m * n) (λ y. Rest (f y) × Q (g y)) → length (x ∷ l) ≤ suc m * n
        total w more =
            let one = few (map g w.first) (seconds (f x) w.first w.first_distinct w.first_so)
            (image_every g Q w.first (every_map (λ y (v : P (f y) × Q (g y)). v.1) w.first (w.first_part (λ y. P (f y) × Q (g y)) e))) in
            let two = more w.second w.second_distinct
            (every_zip (λ y (v : P (f y) × Q (g y)) (o : Other y). ((v.0, o), v.1)) w.second (w.second_part (λ y. P (f y) × Q (g y)) e) w.second_so) in
            omega (arith, w.size, one, two, length-map w.first g)

    none_of : (P : ℕ → Type 0) → AtMost 0 P → AtMost (0 * n) (λ x. P (f x) × Q (g x))
    none_of P h [] d e = omega arith
    none_of P h (x ∷ l) d e = absurd (let z = h (f x ∷ []) (tt, tt) (e.0.0, tt) in omega arith)

    pub at_most_pairs : (m : ℕ) (P : ℕ → Type 0) → AtMost m P → AtMost (m * n) (λ x. P (f x) × Q (g x))
    at_most_pairs zero P h = none_of P h
    at_most_pairs (suc m) P h = one_more m (at_most_pairs m) P h
