-- The bits of a word of marks that belong to a range of vertices: the mask under which marked pumps, or sites, are counted (PANEL 5, check 16).
use Rattle.std.specs.Prelude.{ℕ, ◌-◌, ◌*◌, ◌^◌, min}

-- How many of the 64 bits of word k belong to vertices below h: the first ones.
abbrev pub bits_below : ℕ → ℕ → ℕ
bits_below h k = min (h - k * 64) 64

-- Those bits.
unfoldable pub mask_below : ℕ → ℕ → ℕ
mask_below h k = 2 ^ bits_below h k - 1

-- The bits of word k that belong to the vertices from low to high - 1.
unfoldable pub mask : ℕ → ℕ → ℕ → ℕ
mask low high k = mask_below high k - mask_below low k
