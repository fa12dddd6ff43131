-- The nearest of the vertices that were looked at, if one is reached.
use mathlib.Core.Path.{◌≡◌, refl}
use mathlib.Core.List.{List}
use Prim.Native.Nat.{ℕ, ◌+◌, ◌≤◌, ◌<◌}
use native.Mathlib.Omega.{arith}
use lib.ListN.{length}
use Rattle.std.specs.Prelude.{Option, None, Some, MatchOption}
use Rattle.packed_arcs.specs.Entries.{entry}
use Rattle.flow_residual.specs.Phase.{NearestSoFar, Nearest}
use Rattle.flow_residual.proofs.PhaseLaws.{best_take, best_skip}

-- of those below v
pub data SoFar (need key : List ℕ) (v : ℕ) : Option ℕ → ℕ → Type 0 where
  none : {k : ℕ} → NearestSoFar need key v (length key) k → SoFar need key v None k
  some : {t k : ℕ} → NearestSoFar need key v t k → t < length key → SoFar need key v (Some t) k

pub taken : {need key : List ℕ} {v k k' : ℕ} {best best' : Option ℕ} → SoFar need key v best k → v < length key → (0 < entry need v) × (entry key v < k) → best' ≡ Some v → k' ≡ entry key v → SoFar need key (v + 1) best' k'
taken (SoFar.none B) h better e q = rw e (SoFar.some (best_take B h better refl q) h)
taken (SoFar.some B l) h better e q = rw e (SoFar.some (best_take B h better refl q) h)

pub skipped : {need key : List ℕ} {v k k' : ℕ} {best best' : Option ℕ} → SoFar need key v best k → v < length key → (0 < entry need v → k ≤ entry key v) → best' ≡ best → k' ≡ k → SoFar need key (v + 1) best' k'
skipped (SoFar.none B) h worse e q = rw e (SoFar.none (best_skip B h worse refl q))
skipped (SoFar.some B l) h worse e q = rw e (SoFar.some (best_skip B h worse refl q) l)

whole : {need key : List ℕ} {v b k : ℕ} → length key ≤ v → NearestSoFar need key v b k → Nearest need key b
whole {need} {key} {v} {b} {k} h B =
    record { k = k; best_of = record { within = omega arith; which = B.which; least = λ j hj hn. B.least j (omega arith) hn } }

-- of all
pub nearest : {need key : List ℕ} {v k : ℕ} {best : Option ℕ} → length key ≤ v → SoFar need key v best k → MatchOption best (Nearest need key (length key)) (λ t. Nearest need key t × (t < length key))
nearest h (SoFar.none B) = whole h B
nearest h (SoFar.some B l) = (whole h B, l)
