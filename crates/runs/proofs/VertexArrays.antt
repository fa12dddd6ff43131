-- Arrays with one entry for each vertex, as the lists of what a function gives: of the node numbers, and of the balances.
use mathlib.Core.Path.{◌≡◌, refl, sym, ◌∙◌, ap, fun_ext}
use mathlib.Core.Logic.{inl, inr}
use mathlib.Core.List.{List, [], ◌∷◌, ◌++◌}
use Prim.Native.Nat.{ℕ, zero, suc, ◌*◌, ◌≤◌, ◌<◌}
use native.Mathlib.Omega.{arith}
use native.Mathlib.Decide.{ℕ_discrete, dec_lt}
use lib.IntN.{ℤ, pos}
use lib.ListN.{length, set, replicate, length-append, length-set, length-replicate, get_or-replicate, get_or-append, get_or-eq_default}
use lib.Seq.{get_or_at, get_or-set_same, get_or-set_other, ext_get_or}
use Rattle.prelude.specs.Lists.{list_to, at}
use Rattle.arc_records.specs.Arcs.{delta}
use Rattle.network.proofs.Sums.{Compared, compared}

pub length_list_to : (n : ℕ) (g : ℕ → ℤ) → length (list_to n g) ≡ n
unfolding list_to
length_list_to zero g = refl
length_list_to (suc n) g = length-append (list_to n g) (g n ∷ []) ∙ omega (arith, length_list_to n g)

at_below : (n : ℕ) (g : ℕ → ℤ) (i : ℕ) → i < n → at (list_to n g) i ≡ g i
unfolding list_to
at_below zero g i h = absurd (omega arith)
at_below (suc n) g i h = go (ℕ_discrete i n) (at_below n g i)
  where
    go : Dec (i ≡ n) → (i < n → at (list_to n g) i ≡ g i) → at (list_to n g ++ g n ∷ []) i ≡ g i
    go (yes e) below = rw e (get_or_at (list_to n g) (g n) [] (pos 0) n (length_list_to n g))
    go (no ne) below = get_or-append (list_to n g) (g n ∷ []) (pos 0) i (omega (arith, length_list_to n g)) ∙ below (omega arith)

-- past the end both are 0
pub at_list_to : (n : ℕ) (g : ℕ → ℤ) → ((i : ℕ) → n ≤ i → g i ≡ pos 0) → at (list_to n g) ≡ g
at_list_to n g past = fun_ext (λ i. go i (dec_lt i n))
  where
    go : (i : ℕ) → Dec (i < n) → at (list_to n g) i ≡ g i
    go i (yes h) = at_below n g i h
    go i (no h) = get_or-eq_default (list_to n g) (pos 0) (omega (arith, length_list_to n g)) ∙ sym (past i (omega arith))

-- an array is the list of its entries
pub list_to_is : (l : List ℤ) (n : ℕ) (g : ℕ → ℤ) → length l ≡ n → ((i : ℕ) → i < n → at l i ≡ g i) → l ≡ list_to n g
list_to_is l n g e h = ext_get_or (pos 0) l (list_to n g) (e ∙ sym (length_list_to n g)) (λ i b. h i (omega arith) ∙ sym (at_below n g i (omega arith)))

pub all_zero : (n : ℕ) (g : ℕ → ℤ) → ((i : ℕ) → g i ≡ pos 0) → replicate n (pos 0) ≡ list_to n g
all_zero n g h = list_to_is (replicate n (pos 0)) n g (length-replicate n (pos 0)) (λ i b. get_or-replicate n i (pos 0) (pos 0) b ∙ sym (h i))

-- ---- node numbers

pub at_list : (n : ℕ) (ys : List ℤ) → length ys ≤ n → at (list_to n (at ys)) ≡ at ys
at_list n ys h = at_list_to n (at ys) (λ i b. get_or-eq_default ys (pos 0) (omega arith))

pub list_more : (n : ℕ) (ys : List ℤ) (z : ℤ) → length ys < n → set (list_to n (at ys)) (length ys) z ≡ list_to n (at (ys ++ z ∷ []))
list_more n ys z b =
    list_to_is (set (list_to n (at ys)) (length ys) z) n (at (ys ++ z ∷ [])) (length-set (list_to n (at ys)) (length ys) z ∙ length_list_to n (at ys)) (λ i h. go i h (ℕ_discrete i (length ys)))
  where
    go : (i : ℕ) → i < n → Dec (i ≡ length ys) → at (set (list_to n (at ys)) (length ys) z) i ≡ at (ys ++ z ∷ []) i
    go i h (yes e) =
        rw e (get_or-set_same (list_to n (at ys)) (length ys) z (pos 0) (omega (arith, length_list_to n (at ys))) ∙ sym (get_or_at ys z [] (pos 0) (length ys) refl))
    go i h (no ne) = get_or-set_other (list_to n (at ys)) (length ys) i z (pos 0) ne ∙ at_below n (at ys) i h ∙ beyond (dec_lt i (length ys))
      where
        beyond : Dec (i < length ys) → at ys i ≡ at (ys ++ z ∷ []) i
        beyond (yes b) = sym (get_or-append ys (z ∷ []) (pos 0) i b)
        beyond (no b) =
            get_or-eq_default ys (pos 0) (omega arith) ∙ sym (get_or-eq_default (ys ++ z ∷ []) (pos 0) (omega (arith, length-append ys (z ∷ []))))

-- ---- an entry changed by the amount x

pub changed : (op : ℤ → ℤ → ℤ) → ((z : ℤ) → op z (pos 0) ≡ z) → (l : List ℤ) (u x : ℕ) → u < length l
    → (v : ℕ) → at (set l u (op (at l u) (pos x))) v ≡ op (at l v) (pos (x * delta u v))
changed op neutral l u x h v = go (compared u v)
  where
    go : Compared u v → at (set l u (op (at l u) (pos x))) v ≡ op (at l v) (pos (x * delta u v))
    go (inl (e, i)) = rw (i, ← e) (get_or-set_same l u (op (at l u) (pos x)) (pos 0) h ∙ ap (λ (k : ℕ). op (at l u) (pos k)) (omega arith))
    go (inr (ne, i)) =
        let none : x * 0 ≡ 0 = omega arith in
        rw (i, none) (get_or-set_other l u v (op (at l u) (pos x)) (pos 0) (λ e. ne (sym e)) ∙ sym (neutral (at l v)))
