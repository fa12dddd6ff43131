-- Laws of checks that run in order.
use mathlib.Core.Path.{◌≡◌, refl, sym, ◌∙◌, ap}
use mathlib.Core.Bool.{true, false, false≢true}
use mathlib.Core.List.{List, [], ◌∷◌, ◌++◌}
use Prim.Native.Nat.{ℕ}
use lib.Dec.{eqb}
use Rattle.prelude.specs.Checks.{Check, ◌unless◌, settle, first_broken, Hold}

pub settled : {A : Type 0} (g : ℕ → A) (cs : List Check) (v : A) → Hold cs → settle g cs v ≡ v
settled g [] v h = refl
settled g ((k unless true) ∷ cs) v h = settled g cs v h.1
settled g ((k unless false) ∷ cs) v h = absurd h.0

pub settle_append : {A : Type 0} (g : ℕ → A) (cs ds : List Check) (v : A) → settle g (cs ++ ds) v ≡ settle g cs (settle g ds v)
settle_append g [] ds v = refl
settle_append g ((k unless true) ∷ cs) ds v = settle_append g cs ds v
settle_append g ((k unless false) ∷ cs) ds v = refl

-- a function of what is settled
pub settle_map : {A B : Type 0} (f : A → B) (g : ℕ → A) (cs : List Check) (v : A) → f (settle g cs v) ≡ settle (λ k. f (g k)) cs (f v)
settle_map f g [] v = refl
settle_map f g ((k unless true) ∷ cs) v = settle_map f g cs v
settle_map f g ((k unless false) ∷ cs) v = refl

-- two values that are equal where the checks hold
pub settle_when : {A : Type 0} (g : ℕ → A) (cs : List Check) (v w : A) → (Hold cs → v ≡ w) → settle g cs v ≡ settle g cs w
settle_when g [] v w h = h tt
settle_when g ((k unless true) ∷ cs) v w h = settle_when g cs v w (λ a. h (tt, a))
settle_when g ((k unless false) ∷ cs) v w h = refl

-- what is settled and is no refusal is the value, and every check holds
pub settled_back : {A : Type 0} (g : ℕ → A) (cs : List Check) (v w : A) → ((k : ℕ) → g k ≡ w → ⊥) → settle g cs v ≡ w → Hold cs × (v ≡ w)
settled_back g [] v w n e = (tt, e)
settled_back g ((k unless true) ∷ cs) v w n e = let u = settled_back g cs v w n e in ((tt, u.0), u.1)
settled_back g ((k unless false) ∷ cs) v w n e = absurd (n k e)

pub hold_append : (cs ds : List Check) → Hold cs → Hold ds → Hold (cs ++ ds)
hold_append [] ds h k = k
hold_append ((j unless b) ∷ cs) ds h k = (h.0, hold_append cs ds h.1 k)

pub hold_left : (cs ds : List Check) → Hold (cs ++ ds) → Hold cs
hold_left [] ds h = tt
hold_left ((j unless b) ∷ cs) ds h = (h.0, hold_left cs ds h.1)

pub hold_right : (cs ds : List Check) → Hold (cs ++ ds) → Hold ds
hold_right [] ds h = h
hold_right ((j unless b) ∷ cs) ds h = hold_right cs ds h.1

-- ---- checks by the number of the first that is broken, as the code has it

-- no check has the number 0
abbrev pub Numbered : List Check → Type 0
Numbered [] = Unit {0}
Numbered ((k unless b) ∷ cs) = (eqb k 0 ≡ false) × Numbered cs

pub numbered_append : (cs ds : List Check) → Numbered cs → Numbered ds → Numbered (cs ++ ds)
numbered_append [] ds n m = m
numbered_append ((k unless b) ∷ cs) ds n m = (n.0, numbered_append cs ds n.1 m)

pub none_broken : (cs : List Check) → Numbered cs → first_broken cs ≡ 0 → Hold cs
none_broken [] n e = tt
none_broken ((k unless true) ∷ cs) n e = (tt, none_broken cs n.1 e)
none_broken ((k unless false) ∷ cs) n e = absurd (false≢true (sym n.0 ∙ ap (λ (j : ℕ). eqb j 0) e))

-- `why` is what a function found of the checks cs, which more checks follow
module _ {A : Type 0} (g : ℕ → A) (cs ds : List Check) (v : A) (n : Numbered cs) (why : ℕ) (found : why ≡ first_broken cs) where
  pub part_refused : (why ≡ 0 → ⊥) → g why ≡ settle g (cs ++ ds) v
  part_refused h = rw found (go cs n (λ e. h (found ∙ e)))
    where
      go : (cs : List Check) → Numbered cs → (first_broken cs ≡ 0 → ⊥) → g (first_broken cs) ≡ settle g (cs ++ ds) v
      go [] n h = absurd (h refl)
      go ((k unless true) ∷ cs) n h = go cs n.1 h
      go ((k unless false) ∷ cs) n h = refl

  pub part_passed : why ≡ 0 → (r : A) → r ≡ settle g ds v → r ≡ settle g (cs ++ ds) v
  part_passed z r e = e ∙ sym (settle_append g cs ds v ∙ settled g cs (settle g ds v) (none_broken cs n (sym found ∙ z)))
