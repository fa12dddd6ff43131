-- The loop's invariant: from i on it finds the same byte.
use mathlib.Core.Path.{◌≡◌}
use Prim.Native.Nat.{◌+◌, ◌≤◌, max}
use lib.ListN.{length, drop}
use Rattle.tide_table.specs.Reading.{is_sought, count_before}
use Rattle.tide_table.proofs.text.find.Given as goal

abbrev pub invariant-loop-i : goal.invariant-loop-i
invariant-loop-i l =
    (l.i + count_before (is_sought l.sought) (drop l.i l.text) ≡ l.at + count_before (is_sought l.sought) (drop l.at l.text))
    × (l.at ≤ l.i) × (l.i ≤ max l.at (length l.text))
