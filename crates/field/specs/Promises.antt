-- What is promised of fingerprints (PANEL 4); proofs/Promises.antt keeps it.
use Rattle.std.specs.Prelude.{◌≡◌, List, ℕ, ◌-◌, ◌≤◌, ◌<◌, length}
use Rattle.prelude.specs.Lists.{Every, Perm, AtMost}
use Rattle.prelude.specs.Sums.{count}
use Rattle.field.specs.Field.{p, Prime, fingerprint, Agree, agree}

-- p is prime.
abbrev pub PrimeModulus : Type 0
PrimeModulus = Prime p

-- The lists are as long, their keys are below p, and they are no permutations of one another.
pub record Different (ks ls : List ℕ) : Type 0 where
  pub first_below : Every (λ k. k < p) ks
  pub second_below : Every (λ k. k < p) ls
  pub as_long : length ks ≡ length ls
  pub unlike : ¬ (Perm ks ls)

-- How many points may mislead, for m keys: m - 1, and none for m 0 or 1 (PANEL 4).
abbrev pub misleading : ℕ → ℕ
misleading m = m - 1

-- Lists that are no permutations agree at m - 1 points at most.
abbrev pub FewAgree : Type 0
FewAgree = (ks ls : List ℕ) → Different ks ls → AtMost (misleading (length ks)) (Agree ks ls)

-- The same as a count over the points 0 to p - 1.
abbrev pub FewCounted : Type 0
FewCounted = (ks ls : List ℕ) → Different ks ls → count (agree ks ls) p ≤ misleading (length ks)

-- Permutations agree at every point.
abbrev pub PermutationsAgree : Type 0
PermutationsAgree = (ks ls : List ℕ) → Perm ks ls → (r : ℕ) → fingerprint r ks ≡ fingerprint r ls
