-- An exposed right vertex that is matched, and right vertices one after the other.
use mathlib.Core.Path.{◌≡◌, refl, sym, ◌∙◌, subst}
use mathlib.Core.Bool.{true, false}
use mathlib.Core.List.{List}
use Prim.Native.Nat.{ℕ, ◌+◌, ◌/◌, ◌<◌, ◌≤◌}
use native.Mathlib.Omega.{arith}
use native.Mathlib.Decide.{dec_lt}
use lib.ListN.{length}
use Rattle.packed_arcs.specs.Entries.{entry}
use Rattle.arc_index.specs.ArcIndex.{no_arc}
use Rattle.match_state.specs.Matching.{State}
use Rattle.match_tree.specs.Tree.{Reached, SearchedBack}
use Rattle.match_augmenting.specs.Augmenting.{Augmented}
use Rattle.match_rounds.specs.Serving.{Stuck, Served, PassOutcome}

-- a state with h and n as the lengths of other lists
pub state_at : {h n h' n' : ℕ} {T H W mate pi : List ℕ} → h' ≡ h → n' ≡ n → State h n T H W mate pi → State h' n' T H W mate pi
state_at {h} {n} {h'} {n'} {T} {H} {W} {mate} {pi} p q S =
    subst (λ (z : ℕ). State z n' T H W mate pi) (sym p) (subst (λ (z : ℕ). State h z T H W mate pi) (sym q) S)

-- ---- one of them

module _ {h n : ℕ} {T H W mate pi : List ℕ} {t r : ℕ} {dist par order : List ℕ} (X : SearchedBack h n T H W mate pi t dist par order r) where
  pub search_lengths : (length dist ≡ h) × (length par ≡ h) × (length order ≡ h)
  search_lengths = go X
    where
      go : SearchedBack h n T H W mate pi t dist par order r → (length dist ≡ h) × (length par ≡ h) × (length order ≡ h)
      go (SearchedBack.reached R) = (R.dist_len, R.par_len, R.order_len)
      go (SearchedBack.stuck a keys k nd R f) = (R.dist_len, R.par_len, R.order_len)

  -- with h as the length of another list
  pub reached_at : r < h → {h' : ℕ} → h' ≡ h → Reached h' n T H W mate pi t dist par order r
  reached_at l {h'} p = subst (λ (z : ℕ). Reached z n T H W mate pi t dist par order r) (sym p) (go X)
    where
      go : SearchedBack h n T H W mate pi t dist par order r → Reached h n T H W mate pi t dist par order r
      go (SearchedBack.reached R) = R
      go (SearchedBack.stuck a keys k nd R f) = absurd (omega arith)

module _ {h n : ℕ} {T H W mate pi : List ℕ} (S : State h n T H W mate pi) {t r : ℕ} {dist par order : List ℕ} (X : SearchedBack h n T H W mate pi t dist par order r) where
  pub search_stuck : h ≤ r → Served h n T H W mate t dist mate pi false
  search_stuck g = Served.stuck (search_lengths X).0 S (go X)
    where
      go : SearchedBack h n T H W mate pi t dist par order r → Stuck h n T H W mate pi t dist
      go (SearchedBack.reached R) = absurd (omega (arith, R.left))
      go (SearchedBack.stuck a keys k nd R f) = record { par = par; order = order; keys = keys; k = k; nd = nd; tree = R; none = f }

  pub served : {pi' mate' : List ℕ} {h' n' : ℕ} → h' ≡ h → n' ≡ n → Augmented h' n' T H W mate pi' t mate' → Served h n T H W mate t dist mate' pi' true
  served p q A = Served.grown (search_lengths X).0 (state_at (sym p) (sym q) A.state) A.root (λ b g l m. A.kept b (omega arith) (omega arith) m)

-- it was matched already
pub was_matched : {h n : ℕ} {T H W mate pi : List ℕ} {t : ℕ} {dist : List ℕ} → State h n T H W mate pi → length dist ≡ h → entry mate t < no_arc → Served h n T H W mate t dist mate pi true
was_matched S d m = Served.grown d S m (λ b g l x. x)

-- ---- one after the other

-- before the right vertex v: where the step is 1, those before it are matched
pub record Passing (h n : ℕ) (T H W : List ℕ) (step : ℕ) (dist mate pi : List ℕ) (v : ℕ) : Type 0 where
  pub dist_len : length dist ≡ h
  pub state : State h n T H W mate pi
  pub from : h ≤ v
  pub near : v ≤ n + 15
  pub matched : step ≡ 1 → (b : ℕ) → h ≤ b → b < v → b < n → entry mate b < no_arc

module _ {h n : ℕ} {T H W : List ℕ} {step : ℕ} where
  pub pass_start : {dist mate pi : List ℕ} → length dist ≡ h → State h n T H W mate pi → Passing h n T H W step dist mate pi h
  pass_start e S = record { dist_len = e; state = S; from = omega arith; near = omega (arith, S.graph.within); matched = λ z b g l k. absurd (omega arith) }

  pub pass_on : {dist mate pi dist' mate' pi' : List ℕ} {v h' n' : ℕ} → h' ≡ h → n' ≡ n → Passing h n T H W step dist mate pi v → v < n → step ≤ 16
      → Served h' n' T H W mate v dist' mate' pi' true → Passing h n T H W step dist' mate' pi' (v + step)
  pass_on {dist} {mate} {pi} {dist'} {mate'} {pi'} {v} {h'} {n'} p q P l k (Served.grown d S m f) = record {
    dist_len = d ∙ p;
    state = state_at (sym p) (sym q) S;
    from = omega (arith, P.from);
    near = omega arith;
    matched = λ o b g x y. go o b g x y (dec_lt b v);
  }
    where
      go : step ≡ 1 → (b : ℕ) → h ≤ b → b < v + step → b < n → Dec (b < v) → entry mate' b < no_arc
      go o b g x y (yes z) = f b (omega arith) (omega arith) (P.matched o b g z y)
      go o b g x y (no z) = let e : b ≡ v = omega arith in rw e m

  pub pass_stuck : {dist mate pi dist' mate' pi' : List ℕ} {v h' n' : ℕ} → h' ≡ h → n' ≡ n → Passing h n T H W step dist mate pi v → v < n
      → Served h' n' T H W mate v dist' mate' pi' false → PassOutcome h n T H W step dist' mate' pi' v
  pass_stuck {dist} {mate} {pi} {dist'} {mate'} {pi'} {v} {h'} {n'} p q P l (Served.stuck d S K) = PassOutcome.stuck (d ∙ p) (state_at (sym p) (sym q) S) l P.from
      (subst (λ (z : ℕ). Stuck z n T H W mate' pi' v dist') p (subst (λ (z : ℕ). Stuck h' z T H W mate' pi' v dist') q K))

  pub pass_end : {dist mate pi : List ℕ} {v : ℕ} → Passing h n T H W step dist mate pi v → n ≤ v → PassOutcome h n T H W step dist mate pi n
  pass_end P g = PassOutcome.whole P.dist_len P.state refl (λ o b x y. P.matched o b x (omega arith) y)

-- ---- pass after pass

-- between passes, with the step of the last one: of 16, 4 and 1 after a step of 64
pub data Step : ℕ → Type 0 where
  before_all : Step 64
  sixteenth : Step 16
  fourth : Step 4
  each : Step 1

-- the step of the next pass
pub next_step : {s : ℕ} → Step s → 1 < s → Step (s / 4) × (0 < s / 4) × (s / 4 ≤ 16)
next_step before_all l = (sixteenth, omega arith, omega arith)
next_step sixteenth l = (fourth, omega arith, omega arith)
next_step fourth l = (each, omega arith, omega arith)
next_step each l = absurd (omega arith)

-- after the pass with this step nothing is stuck; after the last all right vertices are matched
pub record Passed (h n : ℕ) (T H W : List ℕ) (dist mate pi : List ℕ) (s : ℕ) : Type 0 where
  pub step : Step s
  pub dist_len : length dist ≡ h
  pub state : State h n T H W mate pi
  pub matched : s ≡ 1 → (b : ℕ) → h ≤ b → b < n → entry mate b < no_arc

module _ {h n : ℕ} {T H W : List ℕ} where
  pub passes_start : {dist mate pi : List ℕ} → length dist ≡ h → State h n T H W mate pi → Passed h n T H W dist mate pi 64
  passes_start e S = record { step = before_all; dist_len = e; state = S; matched = λ z. absurd (omega arith) }

  pub passes_on : {dist mate pi : List ℕ} {s r : ℕ} → Step s → PassOutcome h n T H W s dist mate pi r → n ≤ r → Passed h n T H W dist mate pi s
  passes_on t (PassOutcome.whole d S e f) l = record { step = t; dist_len = d; state = S; matched = f }
  passes_on t (PassOutcome.stuck d S k g K) l = absurd (omega arith)

  pub passes_end : {dist mate pi : List ℕ} {s : ℕ} → Passed h n T H W dist mate pi s → s ≤ 1 → PassOutcome h n T H W 1 dist mate pi n
  passes_end {dist} {mate} {pi} {s} P l = PassOutcome.whole P.dist_len P.state refl (λ z. P.matched (last P.step l))
    where
      last : {s : ℕ} → Step s → s ≤ 1 → s ≡ 1
      last before_all l = absurd (omega arith)
      last sixteenth l = absurd (omega arith)
      last fourth l = absurd (omega arith)
      last each l = refl

-- a pass that came to its end leaves a state
pub pass_state : {h n : ℕ} {T H W dist mate pi : List ℕ} {step r : ℕ} → PassOutcome h n T H W step dist mate pi r → State h n T H W mate pi × (length dist ≡ h)
pass_state (PassOutcome.whole d S e f) = (S, d)
pass_state (PassOutcome.stuck d S l g K) = (S, d)

-- a vertex that cannot be matched cannot be in another pass
pub pass_failed : {h n : ℕ} {T H W dist mate pi : List ℕ} {step r : ℕ} → PassOutcome h n T H W step dist mate pi r → r < n → {k : ℕ} → PassOutcome h n T H W k dist mate pi r
pass_failed (PassOutcome.whole d S e f) l = absurd (omega arith)
pass_failed (PassOutcome.stuck d S l g K) m = PassOutcome.stuck d S l g K

pub pass_at : {h n h' n' : ℕ} {T H W dist mate pi : List ℕ} {step r : ℕ} → h' ≡ h → n' ≡ n → PassOutcome h' n' T H W step dist mate pi r → PassOutcome h n T H W step dist mate pi r
pass_at {h} {n} {h'} {n'} {T} {H} {W} {dist} {mate} {pi} {step} {r} p q O =
    subst (λ (z : ℕ). PassOutcome z n T H W step dist mate pi r) p (subst (λ (z : ℕ). PassOutcome h' z T H W step dist mate pi r) q O)
