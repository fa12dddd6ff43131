-- The lines that the programs print, as lists of bytes (PANEL 10).
use Rattle.std.specs.Prelude.{Bool, List, [], ◌∷◌, ◌++◌, ℕ, zero, suc, ◌/◌, ◌%◌, ltb, leb, length}
use Rattle.io.specs.Digits.{hex_digit_ascii}
use Rattle.prelude.specs.Choice.{pick}

-- The digits of n in base 10, most significant first and with no zeros in front, where n has at most k of them.
unfoldable pub decimal_to : ℕ → ℕ → List ℕ
decimal_to zero n = []
decimal_to (suc k) n = pick (ltb n 10) (hex_digit_ascii n ∷ []) (decimal_to k (n / 10) ++ (hex_digit_ascii (n % 10) ∷ []))

-- The digits of n: it has at most n + 1 of them.
abbrev pub decimal : ℕ → List ℕ
decimal n = decimal_to (suc n) n

-- A word, a number and a line end.
abbrev pub number_line : List ℕ → ℕ → List ℕ
number_line word n = word ++ decimal n ++ (10 ∷ [])

-- The line of a refusal: `refused`, a blank and the number.
abbrev pub refused_line : ℕ → List ℕ
refused_line k = number_line (114 ∷ 101 ∷ 102 ∷ 117 ∷ 115 ∷ 101 ∷ 100 ∷ 32 ∷ []) k

-- The line for a file of so many bytes: `written`, a blank and their number if it was saved, else `not written`.
abbrev pub saved_line : ℕ → Bool → List ℕ
saved_line size done =
    pick done
    (number_line (119 ∷ 114 ∷ 105 ∷ 116 ∷ 116 ∷ 101 ∷ 110 ∷ 32 ∷ []) size)
    (110 ∷ 111 ∷ 116 ∷ 32 ∷ 119 ∷ 114 ∷ 105 ∷ 116 ∷ 116 ∷ 101 ∷ 110 ∷ 10 ∷ [])

-- A text that goes into a line of 32 bytes, and a word that leaves room for a number of 64 bits; of any longer one nothing is made.
abbrev pub fitting_text : List ℕ → List ℕ
fitting_text text = pick (leb (length text) 32) text []

abbrev pub fitting_line : List ℕ → ℕ → List ℕ
fitting_line word n = pick (leb (length word) 11) (number_line word n) []
