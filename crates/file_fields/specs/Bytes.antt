-- Numbers in bytes, the high ones first (PANEL 7).
use Rattle.std.specs.Prelude.{List, [], ◌∷◌, ◌++◌, ℕ, suc, ◌+◌, ◌-◌, ◌*◌, ◌/◌, ◌%◌, ◌^◌, ltb, ℤ, pos, negsuc, get_or}
use Rattle.prelude.specs.Choice.{pick}

-- The byte at the index i, 0 past the end: reading is total.
abbrev pub byte_at : List ℕ → ℕ → ℕ
byte_at file i = get_or file i 0

-- Two bytes as a number of 16 bits: the high half stands first.
abbrev pub joined16 : ℕ → ℕ → ℕ
joined16 high low = 256 * high + low

-- Two numbers of 16 bits as one of 32.
abbrev pub joined32 : ℕ → ℕ → ℕ
joined32 high low = 65536 * high + low

-- The two bytes of a number of 16 bits.
abbrev pub byte16 : ℕ → List ℕ
byte16 v = v / 256 ∷ v % 256 ∷ []

-- The number of 16 bits at the index i.
abbrev pub read16 : List ℕ → ℕ → ℕ
read16 file i = joined16 (byte_at file i) (byte_at file (i + 1))

-- The four bytes of 32 bits.
abbrev pub bytes32 : ℕ → List ℕ
bytes32 k = byte16 (k / 65536) ++ byte16 (k % 65536)

-- The 32 bits at the index i.
abbrev pub read32 : List ℕ → ℕ → ℕ
read32 file i = joined32 (read16 file i) (read16 file (i + 2))

-- Two's complement (PANEL 7): the 32 bits that stand for z, -(n + 1) as 2 ^ 32 - (n + 1).
unfoldable pub pattern_of : ℤ → ℕ
pattern_of (pos n) = n
pattern_of (negsuc n) = 2 ^ 32 - suc n

-- The number that 32 bits stand for.
unfoldable pub signed_of : ℕ → ℤ
signed_of k = pick (ltb k (2 ^ 31)) (pos k) (negsuc (2 ^ 32 - suc k))

-- The four bytes of a signed number.
abbrev pub byte32 : ℤ → List ℕ
byte32 z = bytes32 (pattern_of z)

-- The signed number of 32 bits at the index i.
abbrev pub read_signed : List ℕ → ℕ → ℤ
read_signed file i = signed_of (read32 file i)
