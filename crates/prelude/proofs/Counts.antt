-- How many numbers below a bound, or pairs of them, pass a test: the count is k at most where no k + 1 different ones pass.
use mathlib.Core.Path.{◌≡◌, refl, sym, ◌∙◌, ap, subst}
use mathlib.Core.Bool.{Bool, true, false, not}
use mathlib.Core.List.{List, [], ◌∷◌, ◌++◌, map}
use Prim.Native.Nat.{ℕ, zero, suc, ◌+◌, ◌≤◌, ◌<◌}
use native.Mathlib.Omega.{arith}
use lib.Dec.{T}
use lib.ListN.{length, length-append, length-map}
use Rattle.prelude.specs.Choice.{indicator}
use Rattle.prelude.specs.Lists.{Every, Distinct, AtMost}
use Rattle.prelude.specs.Sums.{sum_to, count, count_pairs}
use Rattle.prelude.proofs.Lists.{every_map, image_every, every_append}

-- the number x is below n and passes
abbrev pub Passes : (ℕ → Bool) → ℕ → ℕ → Type 0
Passes f n x = (x < n) × T (f x)

-- the numbers below n that pass, as a list
record Listed (f : ℕ → Bool) (n : ℕ) : Type 0 where
  numbers : List ℕ
  different : Distinct numbers
  each : Every (Passes f n) numbers
  counted : length numbers ≡ count f n

listed : (f : ℕ → Bool) (n : ℕ) → Listed f n
unfolding sum_to
listed f zero = record { numbers = []; different = tt; each = tt; counted = refl }
listed f (suc n) = go (f n) refl (listed f n)
  where
    wider : (w : Listed f n) → Every (Passes f (suc n)) w.numbers
    wider w = every_map (λ x (a : Passes f n x). (omega arith, a.1)) w.numbers w.each

    go : (b : Bool) → f n ≡ b → Listed f n → Listed f (suc n)
    go false e w = record { numbers = w.numbers; different = w.different; each = wider w; counted = rw e (w.counted ∙ omega arith) }
    go true e w =
        record {
          numbers = n ∷ w.numbers;
          different = (every_map (λ x (a : Passes f n x). omega arith) w.numbers w.each, w.different);
          each = ((omega arith, subst T (sym e) tt), wider w);
          counted = rw e (ap suc w.counted ∙ omega arith);
        }

pub at_most→count : (f : ℕ → Bool) (n k : ℕ) → AtMost k (Passes f n) → count f n ≤ k
at_most→count f n k h =
    let w : Listed f n = listed f n in
    subst (λ (m : ℕ). m ≤ k) w.counted (h w.numbers w.different w.each)

-- those that pass and those that do not
pub count_not : (f : ℕ → Bool) (n : ℕ) → count (λ i. not (f i)) n + count f n ≡ n
unfolding sum_to
count_not f zero = refl
count_not f (suc n) = go (f n) (count_not f n)
  where
    go : (b : Bool) → count (λ i. not (f i)) n + count f n ≡ n → (count (λ i. not (f i)) n + indicator (not b)) + (count f n + indicator b) ≡ suc n
    go true e = omega arith
    go false e = omega arith

-- ---- pairs

-- things that are made of two numbers, which they tell
module _ {X : Type 0} (make : ℕ → ℕ → X) (f g : X → ℕ) (first-told : (i j : ℕ) → f (make i j) ≡ i) (second-told : (i j : ℕ) → g (make i j) ≡ j) where
  -- those of one first number differ as their second numbers do
  row_distinct : (i : ℕ) (ks : List ℕ) → Distinct ks → Distinct (map (make i) ks)
  row_distinct i [] d = tt
  row_distinct i (k ∷ ks) d =
      (image_every (make i) (λ y. ¬ (make i k ≡ y)) ks (every_map (λ j ne e. ne (sym (second-told i k) ∙ ap g e ∙ second-told i j)) ks d.0), row_distinct i ks d.1)

  -- and from those whose first number is less
  rows_distinct : (i : ℕ) (ks : List ℕ) (l : List X) → Distinct ks → Distinct l → Every (λ x. f x < i) l → Distinct (map (make i) ks ++ l)
  rows_distinct i [] l d e h = e
  rows_distinct i (k ∷ ks) l d e h =
      (every_append (λ y. ¬ (make i k ≡ y)) (map (make i) ks) l (row_distinct i (k ∷ ks) d).0 (every_map (λ x low q. let same : i ≡ f x = sym (first-told i k) ∙ ap f q in omega arith) l h), rows_distinct i ks l d.1 e h)

  -- the things of pairs that pass, as a list: those whose first number is below b
  record ListedPairs (P : X → Type 0) (t : ℕ → ℕ → Bool) (n b : ℕ) : Type 0 where
    things : List X
    different : Distinct things
    each : Every P things
    low : Every (λ x. f x < b) things
    counted : length things ≡ sum_to b (λ i. count (t i) n)

  listed_pairs : (P : X → Type 0) (t : ℕ → ℕ → Bool) (n b : ℕ) → ((i j : ℕ) → i < b → Passes (t i) n j → P (make i j)) → ListedPairs P t n b
  unfolding sum_to
  listed_pairs P t n zero h = record { things = []; different = tt; each = tt; low = tt; counted = refl }
  listed_pairs P t n (suc b) h = go (listed (t b) n) (listed_pairs P t n b (λ i j low. h i j (omega arith)))
    where
      go : Listed (t b) n → ListedPairs P t n b → ListedPairs P t n (suc b)
      go w v = record {
        things = map (make b) w.numbers ++ v.things;
        different = rows_distinct b w.numbers v.things w.different v.different v.low;
        each = every_append P (map (make b) w.numbers) v.things (image_every (make b) P w.numbers (every_map (λ j p. h b j (omega arith) p) w.numbers w.each)) v.each;
        low = every_append (λ x. f x < suc b) (map (make b) w.numbers) v.things
            (image_every (make b) (λ x. f x < suc b) w.numbers (every_map (λ j p. let e = first-told b j in omega arith) w.numbers w.each))
            (every_map (λ x l. omega arith) v.things v.low);
        counted = length-append (map (make b) w.numbers) v.things ∙ omega (arith, length-map w.numbers (make b), w.counted, v.counted);
      }

  pub at_most→pairs : (P : X → Type 0) (t : ℕ → ℕ → Bool) (n k : ℕ) → ((i j : ℕ) → i < n → Passes (t i) n j → P (make i j)) → AtMost k P → count_pairs t n ≤ k
  at_most→pairs P t n k h few =
      let w = listed_pairs P t n n h in
      subst (λ (m : ℕ). m ≤ k) w.counted (few w.things w.different w.each)
