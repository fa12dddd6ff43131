-- A chain that is walked is what a full scan finds.
use mathlib.Core.Path.{◌≡◌, refl, sym, ap, subst, ◌∙◌}
use mathlib.Core.List.{List, [], ◌∷◌}
use mathlib.Core.Logic.{◌≢◌}
use Prim.Native.Nat.{ℕ, zero, suc, ◌+◌, ◌-◌, ◌<◌, ◌≤◌}
use native.Mathlib.Omega.{arith}
use lib.Dec.{eqb}
use lib.ListN.{length}
use borrow.Author.Tests.{lt-ltb, le-ltb, eq-eqb, ne_eqb}
use Rattle.prelude.specs.Choice.{pick}
use Rattle.packed_arcs.specs.Entries.{entry}
use Rattle.arc_index.specs.ArcIndex.{no_arc, next_arc, scan_from, walk}
use Rattle.arc_index.proofs.Growing.{FirstOf}

-- of the k arcs from lo on, those whose end in the column is v
unfoldable pub scan : (ℕ → ℕ) → ℕ → ℕ → ℕ → List ℕ
scan col v lo zero = []
scan col v lo (suc k) = pick (eqb (col lo) v) (lo ∷ scan col v (lo + 1) k) (scan col v (lo + 1) k)

pub scan_as : (col : ℕ → ℕ) (us : List ℕ) (e v : ℕ) → ((i : ℕ) → i < length us → col (e + i) ≡ entry us i) → scan_from e us v ≡ scan col v e (length us)
unfolding scan scan_from
scan_as col [] e v c = refl
scan_as col (u ∷ us) e v c = rw (here, ← scan_as col us (e + 1) v (λ i l. ap col (shift e i) ∙ c (suc i) (omega arith)))
  where
    shift : (e n : ℕ) → (e + 1) + n ≡ e + suc n
    shift e n = omega arith

    from : (e : ℕ) → e ≡ e + 0
    from e = omega arith

    here : col e ≡ u
    here = ap col (from e) ∙ c 0 (omega arith)

scan_none : (col : ℕ → ℕ) (v lo k : ℕ) → ((j : ℕ) → lo ≤ j → j < lo + k → col j ≢ v) → scan col v lo k ≡ []
unfolding scan
scan_none col v lo zero f = refl
scan_none col v lo (suc k) f = simp (ne_eqb (col lo) v (f lo (omega arith) (omega arith))) (scan_none col v (lo + 1) k (λ j l h. f j (omega arith) (omega arith)))

-- a scan that starts before the first arc found
scan_skip : (col : ℕ → ℕ) (v lo s k : ℕ) → ((j : ℕ) → lo ≤ j → j < lo + s → col j ≢ v) → scan col v lo (s + k) ≡ scan col v (lo + s) k
unfolding scan
scan_skip col v lo zero k f = let a : lo + 0 ≡ lo = omega arith in let b : 0 + k ≡ k = omega arith in rw (a, b)
scan_skip col v lo (suc s) k f =
    ap (scan col v lo) (more s k)
    ∙ simp (ne_eqb (col lo) v (f lo (omega arith) (omega arith)))
    (scan_skip col v (lo + 1) s k (λ j l h. f j (omega arith) (omega arith)) ∙ ap (λ (z : ℕ). scan col v z k) (shift lo s))
  where
    more : (s k : ℕ) → suc s + k ≡ suc (s + k)
    more s k = omega arith

    shift : (lo s : ℕ) → (lo + 1) + s ≡ lo + suc s
    shift lo s = omega arith

pub walk_from : (col : ℕ → ℕ) (m : ℕ) (links : List ℕ) → m ≤ no_arc → ((e : ℕ) → e < m → FirstOf col m (col e) (e + 1) (next_arc links e)) → (k v lo e : ℕ)
    → FirstOf col m v lo e → lo ≤ m → m < lo + k → walk k links e ≡ scan col v lo (m - lo)
unfolding walk scan
walk_from col m links few nexts zero v lo e F l h = absurd (omega arith)
walk_from col m links few nexts (suc k) v lo e (FirstOf.none a d) l h =
    let q : 4096 ≤ e = omega arith in
    simp (le-ltb _ _ q) (sym (scan_none col v lo (m - lo) (λ j g i. d j g (omega arith))))
walk_from col m links few nexts (suc k) v lo e (FirstOf.found a b c d) l h =
    let q : e < 4096 = omega arith in
    simp (lt-ltb _ _ q) (ap (λ (z : List ℕ). e ∷ z) (walk_from col m links few nexts k v (e + 1) (next_arc links e) next (omega arith) (omega arith)) ∙ sym here)
  where
    next : FirstOf col m v (e + 1) (next_arc links e)
    next = subst (λ (z : ℕ). FirstOf col m z (e + 1) (next_arc links e)) c (nexts e b)

    one : scan col v e (suc (m - (e + 1))) ≡ e ∷ scan col v (e + 1) (m - (e + 1))
    one = simp (eq-eqb (col e) v c)

    split : m - lo ≡ (e - lo) + suc (m - (e + 1))
    split = omega arith

    skip : scan col v lo ((e - lo) + suc (m - (e + 1))) ≡ scan col v (lo + (e - lo)) (suc (m - (e + 1)))
    skip = scan_skip col v lo (e - lo) (suc (m - (e + 1))) (λ j g i. d j g (omega arith))

    here : scan col v lo (m - lo) ≡ e ∷ scan col v (e + 1) (m - (e + 1))
    here = ap (scan col v lo) split ∙ skip ∙ ap (λ (z : ℕ). scan col v z (suc (m - (e + 1)))) (omega arith) ∙ one
