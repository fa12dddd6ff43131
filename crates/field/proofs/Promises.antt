-- The promises of specs/Promises.antt, kept.
use mathlib.Core.Path.{◌≡◌, ap}
use mathlib.Core.List.{List, [], ◌∷◌}
use Prim.Native.Nat.{ℕ, ◌%◌, ◌<◌}
use native.Mathlib.Omega.{arith}
use lib.Dec.{eqb→eq}
use lib.ListN.{length}
use Rattle.prelude.specs.Lists.{Every, Perm, AtMost}
use Rattle.prelude.proofs.Lists.{every_map}
use Rattle.prelude.proofs.Permutations.{perm_decided}
use Rattle.prelude.proofs.Counts.{Passes, at_most→count}
use Rattle.field.specs.Field.{p, fingerprint, Agree, agree}
use Rattle.field.specs.Promises.{PrimeModulus, misleading, FewAgree, FewCounted, PermutationsAgree}
use Rattle.field.proofs.Prime.{p_prime}
use Rattle.field.proofs.Bound.{product_perm, few_agree_modulo}

pub prime_modulus : PrimeModulus
prime_modulus = p_prime

-- the polynomial argument, with q = p
pub few_agree : FewAgree
few_agree ks ls h rs d a =
    few_agree_modulo prime_modulus ks ls h.first_below h.second_below h.as_long h.unlike rs d
    (every_map (λ r (w : Agree ks ls r). (w.0, record { residues = w.1 })) rs a)

pub few_counted : FewCounted
few_counted ks ls h =
    at_most→count (agree ks ls) p (misleading (length ks))
    (λ rs d a. few_agree ks ls h rs d (every_map (λ r (w : Passes (agree ks ls) p r). (w.0, eqb→eq (fingerprint r ks) (fingerprint r ls) w.1)) rs a))

pub permutations_agree : PermutationsAgree
permutations_agree ks ls h r = ap (λ (n : ℕ). n % p) (product_perm p r h)

-- The bound as a caller uses it: points that meet P only where the fingerprints agree though the lists are no permutations are few.
-- Where the lists are permutations there is no such point.
pub few_bad :
    (ks ls : List ℕ) (P : ℕ → Type 0) → Every (λ k. k < p) ks → Every (λ k. k < p) ls → length ks ≡ length ls
    → ((r : ℕ) → P r → (r < p) × (fingerprint r ks ≡ fingerprint r ls) × ¬ (Perm ks ls))
    → AtMost (misleading (length ks)) P
few_bad ks ls P hk hl e h = go (perm_decided ks ls)
  where
    go : Dec (Perm ks ls) → AtMost (misleading (length ks)) P
    go (yes same) [] d a = omega arith
    go (yes same) (r ∷ rs) d a = absurd ((h r a.0).2 same)
    go (no unlike) rs d a =
        few_agree ks ls (record { first_below = hk; second_below = hl; as_long = e; unlike = unlike }) rs d
        (every_map (λ r (w : P r). ((h r w).0, (h r w).1)) rs a)
