-- What is promised of tide tables (PANEL 14); proofs/Promises.antt keeps it.
use Rattle.std.specs.Prelude.{◌≡◌, ℕ, ◌≤◌, T, length}
use mathlib.Core.List.{List, [], ◌∷◌, ◌++◌, map, flat_map}
use Rattle.prelude.specs.Lists.{Every}
use Rattle.tide_windows.specs.Windows.{Window}
use Rattle.tide_table.specs.Text.{is_number, value}
use Rattle.tide_table.specs.TideTable.{most_bytes, bad_line_of, windows_of}

-- Three numbers as they are written.
pub record Numbers : Type 0 where
  pub position : List ℕ
  pub first : List ℕ
  pub end : List ℕ

-- Each of the three is a decimal number, and not too great.
pub record AllNumbers (w : Numbers) : Type 0 where
  pub position : T (is_number w.position)
  pub first : T (is_number w.first)
  pub end : T (is_number w.end)

-- The window that they say.
abbrev pub window_said : Numbers → Window
window_said w = record { position = value w.position; first = value w.first; end = value w.end }

-- A line of a table: the three with a space, 32, between, and a line end, 10.
abbrev pub line_written : Numbers → List ℕ
line_written w = w.position ++ 32 ∷ (w.first ++ 32 ∷ (w.end ++ 10 ∷ []))

-- A table that was written line by line, and is not too long, has no bad line and says these windows in their order.
abbrev pub WrittenRead : Type 0
WrittenRead =
    (ws : List Numbers) → Every AllNumbers ws → length (flat_map line_written ws) ≤ most_bytes
    → (bad_line_of (flat_map line_written ws) ≡ 0) × (windows_of (flat_map line_written ws) ≡ map window_said ws)
