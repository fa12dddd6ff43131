-- How much of a file counts (PANEL 10).
use Rattle.std.specs.Prelude.{List, ℕ, take}

-- Of a network file and of an annotation file the first 32768 bytes count.
abbrev pub counted : List ℕ → List ℕ
counted file = take 32768 file
