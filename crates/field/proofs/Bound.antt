-- The polynomial argument, for any prime q: two lists of m keys whose products are congruent at m different points are permutations.
use mathlib.Core.Path.{◌≡◌, refl, sym, ◌∙◌, ap, subst}
use mathlib.Core.Logic.{◌⊎◌, inl, inr}
use mathlib.Core.List.{List, [], ◌∷◌}
use Prim.Native.Nat.{ℕ, suc, ◌+◌, ◌*◌, ◌-◌, ◌≤◌, ◌<◌}
use native.Mathlib.Nat.{suc_inj, le_of_suc-le-suc, le_trans}
use native.Mathlib.Decide.{ℕ_discrete, dec_le}
use native.Mathlib.Omega.{arith}
use lib.ListN.{length}
use Rattle.prelude.specs.Lists.{Every, Distinct, Perm, none, keep, swap, then, AtMost}
use Rattle.prelude.proofs.Lists.{every_map, every_zip, Without, without}
use Rattle.prelude.proofs.Permutations.{perm_refl, perm_sym, perm_length, perm_every}
use Rattle.field.specs.Field.{Prime, factor, product}
use Rattle.field.specs.Promises.{misleading}
use Rattle.field.proofs.Modular.{Congruent, by, same, back, ◌⨾◌, add, mul, zeros, minus, unminus, equal, euclid}
use Rattle.field.proofs.Roots.{value, factor_zero, all_zero}

-- a permutation has the same product
pub product_perm : (q r : ℕ) {ks ls : List ℕ} → Perm ks ls → product q r ks ≡ product q r ls
unfolding product
product_perm q r none = refl
product_perm q r (keep h) = cc (product_perm q r h)
product_perm q r swap = omega arith
product_perm q r (then h k) = product_perm q r h ∙ product_perm q r k

-- ---- the product over the keys is a monic polynomial of the point

-- the monic polynomial f times x + k, with c added
times_linear : ℕ → ℕ → List ℕ → List ℕ
times_linear k c [] = (k + c) ∷ []
times_linear k c (d ∷ ds) = (k * d + c) ∷ times_linear k d ds

times_linear_value : (k c : ℕ) (f : List ℕ) (x : ℕ) → value 1 (times_linear k c f) x ≡ c + (x + k) * value 1 f x
unfolding times_linear
times_linear_value k c [] x = omega arith
times_linear_value k c (d ∷ ds) x = omega (arith, ap (λ (n : ℕ). x * n) (times_linear_value k d ds x))

length_times_linear : (k c : ℕ) (f : List ℕ) → length (times_linear k c f) ≡ suc (length f)
unfolding times_linear
length_times_linear k c [] = refl
length_times_linear k c (d ∷ ds) = ap suc (length_times_linear k d ds)

-- the product multiplied out
expanded : ℕ → List ℕ → List ℕ
expanded q [] = []
expanded q (k ∷ ks) = times_linear (q - k) 0 (expanded q ks)

expanded_value : (q : ℕ) (ks : List ℕ) (x : ℕ) → value 1 (expanded q ks) x ≡ product q x ks
unfolding expanded product
expanded_value q [] x = refl
expanded_value q (k ∷ ks) x =
    times_linear_value (q - k) 0 (expanded q ks) x ∙ omega (arith, ap (λ (n : ℕ). factor q x k * n) (expanded_value q ks x))

length_expanded : (q : ℕ) (ks : List ℕ) → length (expanded q ks) ≡ length ks
unfolding expanded
length_expanded q [] = refl
length_expanded q (k ∷ ks) = length_times_linear (q - k) 0 (expanded q ks) ∙ ap suc (length_expanded q ks)

-- ---- the difference of two such polynomials has a lower degree

-- f + (q - 1) g, for monic f and g of one degree: its last coefficient would be q, which is 0, and is left out
difference : ℕ → List ℕ → List ℕ → List ℕ
difference q [] g = []
difference q (c ∷ cs) [] = []
difference q (c ∷ cs) (d ∷ ds) = (c + (q - 1) * d) ∷ difference q cs ds

length_difference : (q : ℕ) (f g : List ℕ) → length (difference q f g) ≤ length f
unfolding difference
length_difference q [] g = omega arith
length_difference q (c ∷ cs) [] = omega arith
length_difference q (c ∷ cs) (d ∷ ds) = let h = length_difference q cs ds in omega arith

difference_value :
    {q : ℕ} → 1 ≤ q → (f g : List ℕ) → length f ≡ length g → (x : ℕ) → Congruent q (value 0 (difference q f g) x) (value 1 f x + (q - 1) * value 1 g x)
unfolding difference
difference_value one [] [] e x = back (minus one (same 1))
difference_value one [] (d ∷ ds) e x = absurd (omega arith)
difference_value one (c ∷ cs) [] e x = absurd (omega arith)
difference_value {q} one (c ∷ cs) (d ∷ ds) e x =
    add (same (c + (q - 1) * d)) (mul (same x) (difference_value one cs ds (suc_inj e) x)) ⨾ by (omega arith)

-- ---- where the products of two lists are congruent, the lists are permutations or the points are few

-- congruent at x, which is any number
abbrev SameProduct : ℕ → List ℕ → List ℕ → ℕ → Type 0
SameProduct q ks ls x = Congruent q (product q x ks) (product q x ls)

-- congruent at r, which is one of the points 0 to q - 1: for q = p it is `Agree`
abbrev AgreeModulo : ℕ → List ℕ → List ℕ → ℕ → Type 0
AgreeModulo q ks ls r = (r < q) × SameProduct q ks ls r

abbrev Below : ℕ → List ℕ → Type 0
Below q ks = Every (λ k. k < q) ks

module _ {q : ℕ} (prime : Prime q) where
  one : 1 ≤ q
  one = let t = prime.two in omega arith

  -- as many different points as keys: then the products are congruent everywhere
  same_everywhere :
      (ks ls rs : List ℕ) → length ks ≡ length ls → length ks ≤ length rs → Distinct rs → Every (AgreeModulo q ks ls) rs → (x : ℕ) → SameProduct q ks ls x
  same_everywhere ks ls rs e long d h x = unminus one (to x ⨾ all_zero prime rs f short d roots x)
    where
      f : List ℕ
      f = difference q (expanded q ks) (expanded q ls)

      same_length : length (expanded q ks) ≡ length (expanded q ls)
      same_length = length_expanded q ks ∙ e ∙ sym (length_expanded q ls)

      short : length f ≤ length rs
      short = omega (arith, length_difference q (expanded q ks) (expanded q ls), length_expanded q ks)

      to : (x : ℕ) → Congruent q (product q x ks + (q - 1) * product q x ls) (value 0 f x)
      to x = by (cc (expanded_value q ks x, expanded_value q ls x)) ⨾ back (difference_value one (expanded q ks) (expanded q ls) same_length x)

      roots : Every (λ r. (r < q) × Congruent q (value 0 f r) 0) rs
      roots = every_map (λ r (a : AgreeModulo q ks ls r). (a.0, back (to r) ⨾ minus one a.1)) rs h

  -- a key at which the product is 0 is in the list
  taken_out : (k : ℕ) (ls : List ℕ) → k < q → Below q ls → Congruent q (product q k ls) 0 → (ms : List ℕ) × Perm (k ∷ ms) ls
  unfolding product
  taken_out k [] hk hl z =
      let t = prime.two in
      let e : ◌≡◌ {A = ℕ} 1 0 = equal (omega arith) (omega arith) z in
      absurd (omega arith)
  taken_out k (l ∷ ls) hk hl z = go (euclid prime (factor q k l) (product q k ls) z) (taken_out k ls hk hl.1)
    where
      go : Congruent q (factor q k l) 0 ⊎ Congruent q (product q k ls) 0 → (Congruent q (product q k ls) 0 → (ms : List ℕ) × Perm (k ∷ ms) ls) → (ms : List ℕ) × Perm (k ∷ ms) (l ∷ ls)
      go (inl w) f = (ls, subst (λ (m : ℕ). Perm (k ∷ ls) (m ∷ ls)) (factor_zero prime k l hk hl.0 w) (perm_refl (k ∷ ls)))
      go (inr w) f = let m : (ms : List ℕ) × Perm (k ∷ ms) ls = f w in (l ∷ m.0, then swap (keep m.1))

  -- at a point other than k, the factor of k is taken off
  cancelled : (k : ℕ) (ks ms : List ℕ) (r : ℕ) → k < q → ¬ (k ≡ r) → AgreeModulo q (k ∷ ks) (k ∷ ms) r → AgreeModulo q ks ms r
  unfolding product
  cancelled k ks ms r hk ne (hr, h) =
      (hr, go (euclid prime (factor q r k) (product q r ks + (q - 1) * product q r ms) (by (omega arith) ⨾ minus one h)))
    where
      go : Congruent q (factor q r k) 0 ⊎ Congruent q (product q r ks + (q - 1) * product q r ms) 0 → SameProduct q ks ms r
      go (inl z) = absurd (ne (sym (factor_zero prime r k hr hk z)))
      go (inr z) = unminus one z

  -- the product over a list is 0 at its first key
  zero_at : (k : ℕ) (ks : List ℕ) → k < q → Congruent q (product q k (k ∷ ks)) 0
  unfolding product
  zero_at k ks hk = let e : k + (q - k) ≡ q = omega arith in by (ap (λ (n : ℕ). n * product q k ks) e) ⨾ zeros (product q k ks)

  -- lists of as many keys that agree at as many different points are permutations: the first key of one is in the other, it is taken
  -- off both and off the points, and the rest agree at the points that are left
  perm_of_points :
      (ks ls rs : List ℕ) → Below q ks → Below q ls → length ks ≡ length ls → length ks ≤ length rs → Distinct rs → Every (AgreeModulo q ks ls) rs → Perm ks ls
  perm_of_points [] [] rs hk hl e long d h = none
  perm_of_points [] (l ∷ ls) rs hk hl e long d h = absurd (omega arith)
  perm_of_points (k ∷ ks) ls rs hk hl e long d h =
      let t : (ms : List ℕ) × Perm (k ∷ ms) ls = taken_out k ls hk.0 hl (back (same_everywhere (k ∷ ks) ls rs e long d h k) ⨾ zero_at k ks hk.0) in
      let w : Without k rs = without ℕ_discrete k rs d in
      then
      (keep
      (perm_of_points ks t.0 w.rest hk.1
      (perm_every (λ k. k < q) (perm_sym t.1) hl).1
      (suc_inj (e ∙ sym (perm_length t.1)))
      (le_of_suc-le-suc (le_trans long w.size))
      w.distinct
      (every_zip
      (λ r (ne : ¬ (k ≡ r)) (a : AgreeModulo q (k ∷ ks) ls r). cancelled k ks t.0 r hk.0 ne (a.0, a.1 ⨾ by (sym (product_perm q r t.1))))
      w.rest w.others (w.part (AgreeModulo q (k ∷ ks) ls) h))))
      t.1

  -- so where they are no permutations, they agree at fewer points than there are keys
  pub few_agree_modulo :
      (ks ls : List ℕ) → Below q ks → Below q ls → length ks ≡ length ls → ¬ (Perm ks ls) → AtMost (misleading (length ks)) (AgreeModulo q ks ls)
  few_agree_modulo ks ls hk hl e unlike rs d h = go (dec_le (length rs) (misleading (length ks)))
    where
      go : Dec (length rs ≤ misleading (length ks)) → length rs ≤ misleading (length ks)
      go (yes l) = l
      go (no l) = absurd (unlike (perm_of_points ks ls rs hk hl e (omega arith) d h))
