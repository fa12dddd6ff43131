-- What is promised of a drawn point and of a drawn pair; proofs/Promises.antt keeps it.
use Rattle.std.specs.Prelude.{◌≡◌, Bool, false, ◌&&◌, Option, Some, None, List, [], ◌∷◌, ◌++◌, ℕ, zero, suc, ◌+◌, ◌^◌, ◌≤◌, ◌<◌, eqb}
use Rattle.prelude.specs.Choice.{indicator}
use Rattle.prelude.specs.Sums.{sum_to, count}
use Rattle.field.specs.Field.{p}
use Rattle.file_fields.specs.Bytes.{read32, bytes32}
use Rattle.point_draw.specs.Draw.{or_else, first_point, drawn, first_pair, drawn_pair}

-- What is drawn is a point: it is below p, and its four bytes are read back as it.
abbrev pub DrawsPoints : Type 0
DrawsPoints = (random : List ℕ) (r : ℕ) → drawn random ≡ Some r → (r < p) × (read32 (bytes32 r) 0 ≡ r)

-- Is r what was drawn?
abbrev pub is_drawn : ℕ → Option ℕ → Bool
is_drawn r (Some k) = eqb k r
is_drawn r None = false

-- How many words of 32 bits there are, and how many lists of k words pass a test.
abbrev pub words : ℕ
words = 2 ^ 32

unfoldable pub count_lists : ℕ → (List ℕ → Bool) → ℕ
count_lists zero test = indicator (test [])
count_lists (suc k) test = sum_to words (λ w. count_lists k (λ ws. test (w ∷ ws)))

-- Of all words each point is given by two, and no number from p on by any.
abbrev pub TwoWordsEach : Type 0
TwoWordsEach = (r : ℕ) → r < p → count (λ w. is_drawn r (or_else w None)) words ≡ 2

abbrev pub NoOther : Type 0
NoOther = (r : ℕ) → p ≤ r → count (λ w. is_drawn r (or_else w None)) words ≡ 0

-- Every point is equally likely: of all lists of k words as many draw one point as any other.
abbrev pub EquallyLikely : Type 0
EquallyLikely =
    (k r s : ℕ) → r < p → s < p
    → count_lists k (λ ws. is_drawn r (first_point ws)) ≡ count_lists k (λ ws. is_drawn s (first_point ws))

-- What is drawn is a pair of points: both are below p, and the eight bytes are read back as the first and the second.
abbrev pub DrawsPairs : Type 0
DrawsPairs =
    (random : List ℕ) (r q : ℕ) → drawn_pair random ≡ Some (r, q)
    → (r < p) × (q < p) × (read32 (bytes32 r ++ bytes32 q) 0 ≡ r) × (read32 (bytes32 r ++ bytes32 q) 4 ≡ q)

-- Are r and q, in this order, the pair that was drawn?
abbrev pub is_drawn_pair : ℕ → ℕ → Option (ℕ × ℕ) → Bool
is_drawn_pair r q (Some (a, b)) = eqb a r && eqb b q
is_drawn_pair r q None = false

-- Every pair is equally likely, pairs of equal points too: of all lists of j + k words, j for the first point and k for the second, as many draw one pair as any other.
abbrev pub PairsEquallyLikely : Type 0
PairsEquallyLikely =
    (j k r q s t : ℕ) → r < p → q < p → s < p → t < p
    → count_lists (j + k) (λ ws. is_drawn_pair r q (first_pair j ws)) ≡ count_lists (j + k) (λ ws. is_drawn_pair s t (first_pair j ws))
