-- What is promised of windows (PANEL 14); proofs/Promises.antt keeps it.
use Rattle.std.specs.Prelude.{◌↔◌, List, ℕ, T}
use Rattle.tide_windows.specs.Windows.{Window, is_open, Open, window_ok, WindowFits}

-- The test of an open record holds exactly where the record is open (PANEL 14).
abbrev pub OpenMeans : Type 0
OpenMeans = (ws : List Window) (t k : ℕ) → T (is_open ws t k) ↔ Open ws t k

-- The test of a window holds exactly where the window fits (PANEL 14, check 22).
abbrev pub WindowMeans : Type 0
WindowMeans = (m : ℕ) (w : Window) → T (window_ok m w) ↔ WindowFits m w
