-- The decimal digits of a number.
use mathlib.Core.Path.{◌≡◌, ◌∙◌, ap, sym, subst}
use mathlib.Core.List.{List, [], ◌∷◌, ◌++◌}
use Prim.Native.Nat.{ℕ, zero, suc, ◌+◌, ◌-◌, ◌/◌, ◌%◌, ◌^◌, ◌≤◌, ◌<◌}
use native.Mathlib.Decide.{dec_le}
use native.Mathlib.Nat.{pow-suc, le_of_suc-le-suc, lt_of_not-le, pow-le-pow_right}
use native.Mathlib.Omega.{arith}
use Rattle.std.specs.Prelude.{drop, replicate}
use Rattle.std.proofs.lemmas.List.{drop-drop, drop-replicate}
use Rattle.io.specs.Digits.{hex_digit_ascii, last_digits, IsDigitCount}
use Rattle.prelude.proofs.Choice.{ltb_on, ltb_off}
use Rattle.program_io.specs.Line.{decimal_to, decimal}

-- ---- digits

below_power : (k : ℕ) → k < 10 ^ k
below_power zero = omega arith
below_power (suc k) = omega (arith, below_power k, pow-suc 10 k)

decimal_to_lem : (k f n : ℕ) → IsDigitCount 10 1 n (suc k) → suc k ≤ f → last_digits 10 (suc k) n ≡ decimal_to f n
unfolding decimal_to
decimal_to_lem k zero n w h = absurd (omega arith)
decimal_to_lem zero (suc f) n w h =
    let digit : n % 10 ≡ n = omega (arith, w.1) in
    ltb_on (List ℕ) _ _ _ n 10 (omega (arith, w.1)) (ap (λ (d : ℕ). hex_digit_ascii d ∷ []) digit)
decimal_to_lem (suc k) (suc f) n w h =
    ltb_off (List ℕ) _ _ _ n 10 (omega (arith, high, one, pow-suc 10 k))
    (ap (λ (l : List ℕ). l ++ (hex_digit_ascii (n % 10) ∷ [])) (decimal_to_lem k f (n / 10) fewer (omega arith)))
  where
    high : 10 ^ suc k ≤ n
    high = subst (λ (j : ℕ). 10 ^ j ≤ n) (omega arith) (w.2 (omega arith))

    one : 1 ≤ 10 ^ k
    one = let h : k < 10 ^ k = below_power k in omega arith

    fewer : IsDigitCount 10 1 (n / 10) (suc k)
    fewer = (
      omega arith,
      omega (arith, w.1, pow-suc 10 (suc k)),
      λ m. subst (λ (j : ℕ). 10 ^ j ≤ n / 10) (omega arith) (let q : 10 ^ k ≤ n / 10 = omega (arith, high, pow-suc 10 k) in q),
    )

pub decimal_digits : (n k : ℕ) → IsDigitCount 10 1 n k → last_digits 10 k n ≡ decimal n
decimal_digits n zero w = absurd (omega (arith, w.0))
decimal_digits n (suc k) w = decimal_to_lem k (suc n) n w (few (dec_le (suc k) 1))
  where
    few : Dec (suc k ≤ 1) → suc k ≤ suc n
    few (yes h) = omega arith
    few (no h) =
        let high : 10 ^ k ≤ n = subst (λ (j : ℕ). 10 ^ j ≤ n) (omega arith) (w.2 (omega arith)) in
        omega (arith, below_power k)

-- no more than twenty digits hold a number of 64 bits
pub few_digits : (n k : ℕ) → n < 2 ^ 64 → IsDigitCount 10 1 n k → k ≤ 20
few_digits n k small fewest = le_of_suc-le-suc (lt_of_not-le more)
  where
    more : 20 < k → ⊥
    more over =
        let p : 10 ^ (k - 1) ≤ n = fewest.2 (omega arith) in
        let q : 10 ^ 20 ≤ 10 ^ (k - 1) = pow-le-pow_right {n = 10} (omega arith) {i = 20} {j = k - 1} (omega arith) in
        omega arith

-- ---- zeros behind a text

-- the zeros that are left where the text grows by j bytes
pub zeros_behind : (n k j : ℕ) (xs : List ℕ) → drop k xs ≡ replicate (n - k) 0 → drop (k + j) xs ≡ replicate (n - (k + j)) 0
zeros_behind n k j xs zeros =
    sym (drop-drop j k xs) ∙ ap (drop j) zeros ∙ drop-replicate j (n - k) 0 ∙ ap (λ (i : ℕ). replicate i 0) (omega arith)
