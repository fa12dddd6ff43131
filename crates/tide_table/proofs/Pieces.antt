-- A text that is read piece by piece: the bytes before the first that passes a test, and what stands after them.
use mathlib.Core.Path.{◌≡◌, refl, ap, ◌∙◌}
use mathlib.Core.Bool.{Bool, true, false, not}
use mathlib.Core.List.{List, [], ◌∷◌}
use Prim.Native.Nat.{ℕ, suc, ◌≤◌, ◌<◌}
use native.Mathlib.Omega.{arith}
use lib.Dec.{eqb-suc-zero}
use lib.ListN.{length, get_or, take, drop, drop_of_length-le}
use lib.Seq.{drop-cons}
use Rattle.prelude.specs.Choice.{pick}
use Rattle.tide_table.specs.Text.{on_first, pieces, present}
use Rattle.tide_table.specs.Reading.{count_before}

module _ (p : ℕ → Bool) where
  -- ---- the bytes before the first that passes

  pub before_here : (c : ℕ) (l : List ℕ) → p c ≡ true → count_before p (c ∷ l) ≡ 0
  unfolding count_before
  before_here c l e = rw e

  pub before_next : (c : ℕ) (l : List ℕ) → p c ≡ false → count_before p (c ∷ l) ≡ suc (count_before p l)
  unfolding count_before
  before_next c l e = rw e

  pub before_none : count_before p [] ≡ 0
  unfolding count_before
  before_none = refl

  -- from an index on
  pub at_here : (text : List ℕ) (i : ℕ) → i < length text → p (get_or text i 0) ≡ true → count_before p (drop i text) ≡ 0
  at_here text i h e = rw (drop-cons text i 0 h) (before_here (get_or text i 0) (drop (suc i) text) e)

  pub at_next : (text : List ℕ) (i : ℕ) → i < length text → p (get_or text i 0) ≡ false → count_before p (drop i text) ≡ suc (count_before p (drop (suc i) text))
  at_next text i h e = rw (drop-cons text i 0 h) (before_next (get_or text i 0) (drop (suc i) text) e)

  pub at_end : (text : List ℕ) (i : ℕ) → length text ≤ i → count_before p (drop i text) ≡ 0
  at_end text i h = rw (drop_of_length-le text h) before_none

  pub before_within : (l : List ℕ) → count_before p l ≤ length l
  unfolding count_before
  before_within [] = omega arith
  before_within (c ∷ l) = go (p c) (before_within l)
    where
      go : (t : Bool) → count_before p l ≤ length l → pick t 0 (suc (count_before p l)) ≤ suc (length l)
      go true h = omega arith
      go false h = omega arith

  -- the byte that stands there passes
  pub before_found : (l : List ℕ) → count_before p l < length l → p (get_or l (count_before p l) 0) ≡ true
  unfolding count_before
  before_found [] h = absurd (omega arith)
  before_found (c ∷ l) h = go (p c) refl (before_found l) h
    where
      go : (t : Bool) → p c ≡ t → (count_before p l < length l → p (get_or l (count_before p l) 0) ≡ true) → pick t 0 (suc (count_before p l)) < suc (length l) → p (get_or (c ∷ l) (pick t 0 (suc (count_before p l))) 0) ≡ true
      go true e f h = e
      go false e f h = f (omega arith)

  -- ---- the pieces after the first

  unfoldable pub pieces_after : List ℕ → List (List ℕ)
  pieces_after [] = []
  pieces_after (c ∷ l) = pick (p c) (pieces p l) (pieces_after l)

  pub cut : (l : List ℕ) → pieces p l ≡ take (count_before p l) l ∷ pieces_after l
  unfolding count_before pieces pieces_after
  cut [] = refl
  cut (c ∷ l) = go (p c) (cut l)
    where
      go : (t : Bool) → pieces p l ≡ take (count_before p l) l ∷ pieces_after l → pick t ([] ∷ pieces p l) (on_first c (pieces p l)) ≡ take (pick t 0 (suc (count_before p l))) (c ∷ l) ∷ pick t (pieces p l) (pieces_after l)
      go true h = refl
      go false h = ap (on_first c) h

  pub after_more : (l : List ℕ) → count_before p l < length l → pieces_after l ≡ pieces p (drop (suc (count_before p l)) l)
  unfolding count_before pieces_after
  after_more [] h = absurd (omega arith)
  after_more (c ∷ l) h = go (p c) (after_more l) h
    where
      go : (t : Bool) → (count_before p l < length l → pieces_after l ≡ pieces p (drop (suc (count_before p l)) l)) → pick t 0 (suc (count_before p l)) < suc (length l) → pick t (pieces p l) (pieces_after l) ≡ pieces p (drop (pick t 0 (suc (count_before p l))) l)
      go true f h = refl
      go false f h = f (omega arith)

  pub after_none : (l : List ℕ) → length l ≤ count_before p l → pieces_after l ≡ []
  unfolding count_before pieces_after
  after_none [] h = refl
  after_none (c ∷ l) h = go (p c) (after_none l) h
    where
      go : (t : Bool) → (length l ≤ count_before p l → pieces_after l ≡ []) → suc (length l) ≤ pick t 0 (suc (count_before p l)) → pick t (pieces p l) (pieces_after l) ≡ []
      go true f h = absurd (omega arith)
      go false f h = f (omega arith)

  -- ---- the pieces that are not empty

  pub after_present : (l : List ℕ) → present (pieces_after l) ≡ present (pieces p (drop (count_before p l) l))
  unfolding count_before pieces pieces_after present
  after_present [] = refl
  after_present (c ∷ l) = go (p c) refl (after_present l)
    where
      go : (t : Bool) → p c ≡ t → present (pieces_after l) ≡ present (pieces p (drop (count_before p l) l)) → present (pick t (pieces p l) (pieces_after l)) ≡ present (pieces p (drop (pick t 0 (suc (count_before p l))) (c ∷ l)))
      go true e h = rw e
      go false e h = h

  -- what passes the test at the front is no part of them
  pub skip : (l : List ℕ) → present (pieces p l) ≡ present (pieces p (drop (count_before (λ c. not (p c)) l) l))
  unfolding count_before pieces present
  skip [] = refl
  skip (c ∷ l) = go (p c) refl (skip l)
    where
      go : (t : Bool) → p c ≡ t → present (pieces p l) ≡ present (pieces p (drop (count_before (λ c. not (p c)) l) l)) → present (pick t ([] ∷ pieces p l) (on_first c (pieces p l))) ≡ present (pieces p (drop (pick (not t) 0 (suc (count_before (λ c. not (p c)) l))) (c ∷ l)))
      go true e h = h
      go false e h = rw e

  pub first_present : (c : ℕ) (l : List ℕ) → p c ≡ false → present (pieces p (c ∷ l)) ≡ take (count_before p (c ∷ l)) (c ∷ l) ∷ present (pieces p (drop (count_before p (c ∷ l)) (c ∷ l)))
  unfolding present
  first_present c l e = ap present (cut (c ∷ l)) ∙ kept (count_before p (c ∷ l)) (before_next c l e) ∙ ap (λ (ps : List (List ℕ)). take (count_before p (c ∷ l)) (c ∷ l) ∷ ps) (after_present (c ∷ l))
    where
      kept : (n : ℕ) → n ≡ suc (count_before p l) → present (take n (c ∷ l) ∷ pieces_after (c ∷ l)) ≡ take n (c ∷ l) ∷ present (pieces_after (c ∷ l))
      kept n h = rw (h, eqb-suc-zero)
