-- A mark that is set is there, the other marks are as they were, and there is none past the words.
use mathlib.Core.Path.{◌≡◌, refl, sym, ◌∙◌, ap}
use mathlib.Core.Bool.{true, false}
use mathlib.Core.List.{List}
use Prim.Native.Nat.{ℕ, zero, suc, ◌+◌, ◌-◌, ◌*◌, ◌/◌, ◌%◌, ◌^◌, ◌≤◌, ◌<◌}
use native.Mathlib.Nat.{mod-lt, div-eq_of_lt, div_self, mul-mod_left, zero-div}
use native.Mathlib.Decide.{ℕ_discrete, dec_lt}
use native.Mathlib.Omega.{arith}
use lib.Dec.{eqb, lit<}
use lib.Pow.{pow-lt, pow_pos, pow-add, shl-shr}
use lib.Bits.{bit_or, or_shr, or_mod, or_zero_r}
use lib.ListN.{length, get_or, set, get_or-eq_default}
use lib.Seq.{get_or-set_same, get_or-set_other}
use Rattle.prelude.specs.Choice.{indicator}
use Rattle.words.specs.Marks.{with_mark, is_marked}

-- ---- one word

-- bit j of the word that has bit i alone
bit_above : (d j : ℕ) → 2 ^ (d + 1 + j) / 2 ^ j % 2 ≡ 0
bit_above d j =
    ap (λ (k : ℕ). k / 2 ^ j % 2) (pow-add 2 (d + 1) j) ∙ ap (λ (k : ℕ). k % 2) (shl-shr (2 ^ (d + 1)) j)
    ∙ ap (λ (k : ℕ). k % 2) (pow-add 2 d 1) ∙ mul-mod_left (2 ^ d) 2

bit_other : (i j : ℕ) → (i ≡ j → ⊥) → 2 ^ i / 2 ^ j % 2 ≡ 0
bit_other i j ne = by (dec_lt i j)
  where
    by : Dec (i < j) → 2 ^ i / 2 ^ j % 2 ≡ 0
    by (yes h) = ap (λ (k : ℕ). k % 2) (div-eq_of_lt (pow-lt h))
    by (no h) =
        let n : i ≡ j → ⊥ = ne in
        let e : i ≡ i - j - 1 + 1 + j = omega arith in
        ap (λ (k : ℕ). 2 ^ k / 2 ^ j % 2) e ∙ bit_above (i - j - 1) j

or_one : (x : ℕ) → x < 2 → bit_or x 1 ≡ 1
or_one zero h = refl
or_one (suc zero) h = refl
or_one (suc (suc x)) h = absurd (omega arith)

-- bit j of a word with bit i set
bit_or_lem : (v i j : ℕ) → bit_or v (2 ^ i) / 2 ^ j % 2 ≡ bit_or (v / 2 ^ j % 2) (2 ^ i / 2 ^ j % 2)
bit_or_lem v i j = ap (λ (k : ℕ). k % 2) (or_shr v (2 ^ i) j) ∙ or_mod (v / 2 ^ j) (2 ^ i / 2 ^ j) 1

bit_set : (v i : ℕ) → bit_or v (2 ^ i) / 2 ^ i % 2 ≡ 1
bit_set v i =
    bit_or_lem v i i ∙ ap (λ (k : ℕ). bit_or (v / 2 ^ i % 2) (k % 2)) (div_self (pow_pos i)) ∙ or_one (v / 2 ^ i % 2) (mod-lt (v / 2 ^ i) {m = 2} (lit< tt))

bit_kept : (v i j : ℕ) → (i ≡ j → ⊥) → bit_or v (2 ^ i) / 2 ^ j % 2 ≡ v / 2 ^ j % 2
bit_kept v i j ne = bit_or_lem v i j ∙ ap (λ (k : ℕ). bit_or (v / 2 ^ j % 2) k) (bit_other i j ne) ∙ or_zero_r (v / 2 ^ j % 2)

-- ---- the words

pub marked_same : (words : List ℕ) (v : ℕ) → v / 64 < length words → is_marked (with_mark words v) v ≡ true
unfolding is_marked with_mark
marked_same words v h =
    let word = get_or words (v / 64) 0 in
    ap (λ (k : ℕ). eqb (k / 2 ^ (v % 64) % 2) 1) (get_or-set_same words (v / 64) (bit_or word (2 ^ (v % 64))) 0 h)
    ∙ ap (λ (k : ℕ). eqb k 1) (bit_set word (v % 64))

pub marked_other : (words : List ℕ) (v u : ℕ) → v / 64 < length words → (v ≡ u → ⊥) → is_marked (with_mark words v) u ≡ is_marked words u
unfolding is_marked with_mark
marked_other words v u h ne = by (ℕ_discrete (v / 64) (u / 64))
  where
    word : ℕ
    word = bit_or (get_or words (v / 64) 0) (2 ^ (v % 64))

    by : Dec (v / 64 ≡ u / 64) → eqb (get_or (set words (v / 64) word) (u / 64) 0 / 2 ^ (u % 64) % 2) 1 ≡ eqb (get_or words (u / 64) 0 / 2 ^ (u % 64) % 2) 1
    by (yes e) =
        let n : v ≡ u → ⊥ = ne in
        let kept = bit_kept (get_or words (v / 64) 0) (v % 64) (u % 64) (λ q. omega arith) in
        rw (← e) (ap (λ (k : ℕ). eqb (k / 2 ^ (u % 64) % 2) 1) (get_or-set_same words (v / 64) word 0 h) ∙ ap (λ (k : ℕ). eqb k 1) kept)
    by (no d) = ap (λ (k : ℕ). eqb (k / 2 ^ (u % 64) % 2) 1) (get_or-set_other words (v / 64) (u / 64) word 0 (λ q. d (sym q)))

-- no vertex past the words is marked
pub marked_past : (words : List ℕ) (v : ℕ) → length words ≤ v / 64 → is_marked words v ≡ false
unfolding is_marked
marked_past words v h = rw (get_or-eq_default words 0 h, zero-div (2 ^ (v % 64)))

-- a mark as a bit of its word
flag : (b : ℕ) → b < 2 → b ≡ indicator (eqb b 1)
flag zero h = refl
flag (suc zero) h = refl
flag (suc (suc b)) h = absurd (omega arith)

pub mark_bit : (words : List ℕ) (v k j : ℕ) → v ≡ k * 64 + j → j < 64 → get_or words k 0 / 2 ^ j % 2 ≡ indicator (is_marked words v)
unfolding is_marked
mark_bit words v k j e h =
    let p : k ≡ v / 64 = omega arith in
    let q : j ≡ v % 64 = omega arith in
    rw (p, q) (flag _ (mod-lt (get_or words (v / 64) 0 / 2 ^ (v % 64)) {m = 2} (lit< tt)))
