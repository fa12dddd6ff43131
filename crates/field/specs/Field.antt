-- The prime p, and the fingerprint of a list of numbers, the keys, at a point (PANEL 4).
use Rattle.std.specs.Prelude.{◌≡◌, ◌⊎◌, Bool, List, [], ◌∷◌, ℕ, ◌+◌, ◌*◌, ◌-◌, ◌%◌, ◌≤◌, ◌<◌, eqb}

-- The modulus (PANEL 4); that it is prime is promised and proved.
abbrev pub p : ℕ
p = 2147483647

-- A prime number: at least 2, and in every product of two factors that makes it, the first is 1 or the number itself.
pub record Prime (n : ℕ) : Type 0 where
  pub two : 2 ≤ n
  pub only : (d e : ℕ) → d * e ≡ n → (d ≡ 1) ⊎ (d ≡ n)

-- r - k modulo q, for k at most q: q is added so that no number is negative.
abbrev pub factor : ℕ → ℕ → ℕ → ℕ
factor q r k = r + (q - k)

-- The product of r - k over the keys, not yet reduced; 1 for the empty list.
unfoldable pub product : ℕ → ℕ → List ℕ → ℕ
product q r [] = 1
product q r (k ∷ ks) = factor q r k * product q r ks

-- The fingerprint at the point r (PANEL 4): the product, reduced modulo p.
abbrev pub fingerprint : ℕ → List ℕ → ℕ
fingerprint r ks = product p r ks % p

-- The fingerprint f at the point r, with the factor of one more key.
abbrev pub extended : ℕ → ℕ → ℕ → ℕ
extended r f k = factor p r k * f % p

-- The two lists have one fingerprint at r, which is one of the points 0 to p - 1.
abbrev pub Agree : List ℕ → List ℕ → ℕ → Type 0
Agree ks ls r = (r < p) × (fingerprint r ks ≡ fingerprint r ls)

-- The same as a test of a point.
abbrev pub agree : List ℕ → List ℕ → ℕ → Bool
agree ks ls r = eqb (fingerprint r ks) (fingerprint r ls)
