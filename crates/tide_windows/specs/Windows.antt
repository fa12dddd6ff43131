-- Windows of a tide table: when a channel record is open, and the checks of windows (PANEL 14).
use Rattle.std.specs.Prelude.{◌≡◌, ◌⊎◌, ◌≢◌, Bool, ◌&&◌, ◌||◌, not, List, [], ◌∷◌, map, ℕ, ◌≤◌, ◌<◌, eqb, leb, ltb, length, get_or}
use Rattle.prelude.specs.Checks.{Check, ◌unless◌}
use Rattle.prelude.specs.Lists.{Every, Some, all, any}

-- ---- windows

-- A window (PANEL 14): the position of a record in the network file, a first minute and an end minute of the week.
pub record Window : Type 0 where
  pub position : ℕ
  pub first : ℕ
  pub end : ℕ

-- The window of a row of three numbers, as it is handed over: position, first, end.
abbrev pub window_in : List ℕ → Window
window_in row = record { position = get_or row 0 0; first = get_or row 1 0; end = get_or row 2 0 }

-- The windows of a list of rows.
abbrev pub windows_in : List (List ℕ) → List Window
windows_in rows = map window_in rows

-- ---- the limits

-- The most windows (PANEL 14, check 21).
abbrev pub most_windows : ℕ
most_windows = 64

-- The last minute of a week, which begins with the minute 0 (PANEL 14, check 22).
abbrev pub last_minute : ℕ
last_minute = 10079

-- The last end of a window (PANEL 14, check 22).
abbrev pub last_end : ℕ
last_end = 10080

-- ---- when a record is open

-- Is it a window of the record at the position k?
abbrev pub is_of : ℕ → Window → Bool
is_of k w = eqb w.position k

-- Is the minute t in the window? The first minute is, the end is not.
abbrev pub includes : ℕ → Window → Bool
includes t w = leb w.first t && ltb t w.end

-- Is the record at the position k open at the minute t (PANEL 14)? It has no window, or t is in one of its windows.
unfoldable pub is_open : List Window → ℕ → ℕ → Bool
is_open ws t k = not (any (is_of k) ws) || any (λ w. is_of k w && includes t w) ws

-- The minute t is in the window, and the window is of the record at the position k.
pub record OpenBy (t k : ℕ) (w : Window) : Type 0 where
  pub its : w.position ≡ k
  pub from_first : w.first ≤ t
  pub before_end : t < w.end

-- The same as a statement: the record has no window, or t is in one of its windows.
abbrev pub Open : List Window → ℕ → ℕ → Type 0
Open ws t k = Every (λ w. w.position ≢ k) ws ⊎ Some (OpenBy t k) ws

-- ---- which windows may be handed over

-- Does the window have the position of one of m records, minutes of a week, and an end after its first (PANEL 14, check 22)?
abbrev pub window_ok : ℕ → Window → Bool
window_ok m w = (ltb w.position m && leb w.first last_minute) && (leb w.end last_end && ltb w.first w.end)

-- The same as a statement.
pub record WindowFits (m : ℕ) (w : Window) : Type 0 where
  pub of_a_record : w.position < m
  pub first_within : w.first ≤ last_minute
  pub end_within : w.end ≤ last_end
  pub end_after_first : w.first < w.end

-- The checks of the windows and of the minute, for a file of m records (PANEL 14): 21, there are not too many; 22, the minute and each window fit.
abbrev pub windows_checks : ℕ → List Window → ℕ → List Check
windows_checks m ws t = 21 unless leb (length ws) most_windows ∷ 22 unless (leb t last_minute && all (window_ok m) ws) ∷ []
