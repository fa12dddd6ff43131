-- What a scan of arcs or vertices knows of those that it has seen, and the slack between two extremes.
use mathlib.Core.Path.{◌≡◌, ap}
use mathlib.Core.List.{List}
use mathlib.Core.Logic.{◌⊎◌, inl, inr, ◌≢◌}
use Prim.Native.Nat.{ℕ, ◌+◌, ◌-◌, ◌<◌, ◌≤◌, min}
use native.Mathlib.Omega.{arith}
use lib.ListN.{length, set}
use lib.Seq.{get_or-set_same}
use borrow.Author.Count.{below_more}
use Rattle.packed_arcs.specs.Entries.{entry}
use Rattle.packed_arcs.proofs.ListLoops.{set_cases}
use Rattle.arc_index.specs.ArcIndex.{no_arc}
use Rattle.match_slack.specs.Slack.{Slack}

-- ---- the lightest arc from each vertex

-- no arc below e weighs less than what is noted for its tail
abbrev pub LightestBelow : List ℕ → List ℕ → List ℕ → ℕ → Type 0
LightestBelow T W lightest e = (i : ℕ) → i < e → entry lightest (entry T i) ≤ entry W i

pub lightest_turn : (T W l : List ℕ) (e a k : ℕ) → a < length l → a ≡ entry T e → k ≡ min (entry W e) (entry l a) → LightestBelow T W l e → LightestBelow T W (set l a k) (e + 1)
lightest_turn T W l e a k h q m S =
    below_more (λ i. entry (set l a k) (entry T i) ≤ entry W i) e (λ i b. omega (arith, lower (entry T i) (set_cases l a k (entry T i) h), S i b))
    (omega (arith, m, get_or-set_same l a k 0 h, ap (entry (set l a k)) q))
  where
    lower : (v : ℕ) → ((v ≡ a) × (entry (set l a k) v ≡ k)) ⊎ ((v ≢ a) × (entry (set l a k) v ≡ entry l v)) → entry (set l a k) v ≤ entry l v
    lower v (inl s) = omega (arith, m, s.1, ap (entry l) s.0)
    lower v (inr s) = omega (arith, s.1)

-- ---- the lightest arc from an exposed vertex

-- r is at most the greatest weight, and at most what is noted for any exposed vertex below e
abbrev pub Floor : List ℕ → List ℕ → ℕ → ℕ → Type 0
Floor lightest mate e r = (r ≤ 32767) × ((a : ℕ) → a < e → entry mate a ≡ no_arc → r ≤ entry lightest a)

-- ---- the greatest potential of a matched vertex

-- r is at least the potential of any matched vertex from h on and below e
abbrev pub Top : List ℕ → List ℕ → ℕ → ℕ → ℕ → Type 0
Top mate pi h e r = (b : ℕ) → b < e → h ≤ b → entry mate b < no_arc → entry pi b ≤ r

-- ---- the slack between them

pub between : (lightest mate pi : List ℕ) (floor top : ℕ) → Floor lightest mate (length lightest) floor → Top mate pi (length lightest) (length pi) top → Slack lightest mate pi (floor - top)
between lightest mate pi floor top F G =
    record { most = omega (arith, F.0); dearer = λ s a b i q j k m. omega (arith, F.1 a i q, G b k j m); small = λ s b j k m. omega (arith, F.0, G b k j m) }
