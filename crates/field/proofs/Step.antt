-- One more key: what it does to the fingerprint of a list, and the laws by which the code that multiplies a factor in is proved.
use mathlib.Core.Path.{◌≡◌, refl, ◌∙◌, ap}
use mathlib.Core.List.{List, [], ◌∷◌, ◌++◌}
use Prim.Native.Nat.{ℕ, ◌+◌, ◌*◌, ◌-◌, ◌%◌}
use native.Mathlib.Omega.{arith}
use Rattle.field.specs.Field.{p, factor, product, fingerprint, extended}
use Rattle.field.proofs.Modular.{same, back, mul, reduced}

-- the product may be reduced before the factor is multiplied in
product_reduced : (r k : ℕ) (ks : List ℕ) → factor p r k * product p r ks % p ≡ extended r (fingerprint r ks) k
product_reduced r k ks = (mul (same (factor p r k)) (back (reduced (product p r ks)))).residues

product_snoc : (q r k : ℕ) (ks : List ℕ) → product q r (ks ++ (k ∷ [])) ≡ factor q r k * product q r ks
unfolding product
product_snoc q r k [] = refl
product_snoc q r k (l ∷ ks) = omega (arith, ap (λ (n : ℕ). factor q r l * n) (product_snoc q r k ks))

-- a key at the end, as a session takes them in
pub fingerprint_snoc : (r k : ℕ) (ks : List ℕ) → fingerprint r (ks ++ (k ∷ [])) ≡ extended r (fingerprint r ks) k
fingerprint_snoc r k ks = ap (λ (n : ℕ). n % p) (product_snoc p r k ks) ∙ product_reduced r k ks

-- ---- for the code: the factor is reduced first, and that changes no residue

pub factor_reduced : (r g f k : ℕ) → g ≡ p - k → (r + g) % p * f % p ≡ extended r f k
factor_reduced r g f k e = (mul (reduced (r + g)) (same f)).residues ∙ ap (λ (n : ℕ). (r + n) * f % p) e
