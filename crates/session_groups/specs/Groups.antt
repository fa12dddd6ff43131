-- The groups of what a session knows, and what each step makes of one (PANEL 6).
use Rattle.std.specs.Prelude.{List, ℕ, ◌+◌, ℤ, pos, replicate}
use Rattle.prelude.specs.Choice.{pick}
use Rattle.prelude.specs.Integers.{eq_z}
use Rattle.words.specs.Marks.{with_mark}
use Rattle.arc_records.specs.Arcs.{Arc}
use Rattle.points.specs.Points.{empty_stream, extend_stream}
use Rattle.session_groups.specs.declared.Numbering.{Numbering}
use Rattle.session_groups.specs.declared.Reading.{Reading}
use Rattle.session_groups.specs.declared.Repeating.{Repeating}

-- ---- the phases, each with its number (PANEL 6)

-- Over; so is a session with any number but the other three.
abbrev pub phase_over : ℕ
phase_over = 0

-- Reading: arcs are read.
abbrev pub phase_reading : ℕ
phase_reading = 1

-- Read: the reading has ended, and no claim stands yet.
abbrev pub phase_read : ℕ
phase_read = 2

-- Claimed: a claim stands.
abbrev pub phase_claimed : ℕ
phase_claimed = 3

-- ---- what a step makes of each group

-- One arc more is read.
abbrev pub read_more : Reading → Arc → Reading
read_more g e = record { setting = g.setting; point = g.point; list = extend_stream g.point g.list e }

-- The claim k stands, with no node number yet.
abbrev pub claimed : ℕ → Numbering
claimed k = record { claim = k; given = 0; marks = replicate 4 0 }

-- The marks with the number z of the vertex v. The number 1 sets the mark, also where the numbers are potentials: no rule then looks at marks (PANEL 5).
abbrev pub marks_after : List ℕ → ℕ → ℤ → List ℕ
marks_after words v z = pick (eq_z z (pos 1)) (with_mark words v) words

-- One node number more is given.
abbrev pub number_more : Numbering → ℤ → Numbering
number_more g z = record { claim = g.claim; given = g.given + 1; marks = marks_after g.marks g.given z }

-- Nothing is repeated yet.
abbrev pub unrepeated : Repeating
unrepeated = record { list = empty_stream; cost = pos 0; cut = pos 0 }
