-- What a session knows but for the node numbers and the balances of the vertices: its groups, what they say, and what each step makes of them (PANEL 6).
use Rattle.std.specs.Prelude.{Bool, List, [], ◌∷◌, ◌++◌, ℕ, ◌*◌, eqb, ℤ, pos}
use Rattle.prelude.specs.Checks.{Check, ◌unless◌}
use Rattle.prelude.specs.Choice.{indicator}
use Rattle.words.specs.Bounded.{bounded_sum}
use Rattle.words.specs.Marks.{is_marked}
use Rattle.arc_records.specs.Arcs.{Arc}
use Rattle.network.specs.Network.{Load, crosses}
use Rattle.network.specs.Question.{Setting, asks, unit_cost, units_most}
use Rattle.network.specs.Certificate.{Claim, Sums}
use Rattle.network.specs.Tests.{opening_checks, reading_checks, claim_of, claiming_checks, Numbers, numbering_checks, repeating_checks, finishing_checks}
use Rattle.points.specs.Points.{no_point, point_ok, same_print, empty_stream, extend_stream}
use Rattle.points.specs.declared.Point.{Point}
use Rattle.points.specs.declared.Stream.{Stream}
use Rattle.checks.specs.Held.{asked}
use Rattle.checks.specs.declared.HeldSetting.{HeldSetting}
use Rattle.session_groups.specs.Groups.{phase_over, phase_reading, phase_read, phase_claimed, read_more, claimed, number_more, unrepeated}
use Rattle.session_groups.specs.declared.Numbering.{Numbering}
use Rattle.session_groups.specs.declared.Reading.{Reading}
use Rattle.session_groups.specs.declared.Repeating.{Repeating}
use Rattle.state.specs.declared.State.{State}

-- ---- what a state says

-- Is reading under way?
abbrev pub is_reading : State → Bool
is_reading x = eqb x.phase phase_reading

-- Has reading just ended?
abbrev pub has_read : State → Bool
has_read x = eqb x.phase phase_read

-- Does a claim stand?
abbrev pub is_claimed : State → Bool
is_claimed x = eqb x.phase phase_claimed

-- The setting that was opened.
abbrev pub setting_held : State → Setting
setting_held x = asked x.reading.setting

-- The claim that stands.
abbrev pub claim_held : State → Claim
claim_held x = claim_of x.numbering.claim

-- The marks that were given.
abbrev pub marks_held : State → ℕ → Bool
marks_held x = is_marked x.numbering.marks

-- What was given of the annotation; y gives the node numbers.
abbrev pub numbers_held : State → (ℕ → ℤ) → Numbers
numbers_held x y = record { claim = claim_held x; given = x.numbering.given; number = y; mark = marks_held x }

-- ---- what repeating makes of its group

-- One arc more is repeated: it joins the list, the total cost, and, where it leads out of the marked side, the capacity of the cut.
abbrev pub repeat_more : State → Load → Repeating
repeat_more x l = record {
  list = extend_stream x.reading.point x.repeating.list l.arc;
  cost = bounded_sum x.repeating.cost (pos (l.amount * unit_cost (asks (setting_held x)) l.arc));
  cut = bounded_sum x.repeating.cut (pos (units_most (asks (setting_held x)) l.arc * indicator (crosses (marks_held x) l.arc)));
}

-- ---- states

-- The state of a phase and three groups.
abbrev pub state_of : ℕ → Reading → Numbering → Repeating → State
state_of ph a b c = record { phase = ph; reading = a; numbering = b; repeating = c }

-- A state before the claim.
abbrev pub begun : ℕ → HeldSetting → Point → Stream → State
begun ph st r m = state_of ph (record { setting = st; point = r; list = m }) (claimed 0) unrepeated

-- The state of a session that is over, void or ended (PANEL 6).
abbrev pub idle : State
idle = begun phase_over (record { question = 0; n = 0; s = 0; t = 0 }) no_point empty_stream

-- ---- opening and the six steps: the checks in their order, and the next state

-- The setting in the numbers that a state holds.
abbrev pub held : Setting → HeldSetting
held st = record { question = st.question; n = st.n; s = st.s; t = st.t }

-- Opening (PANEL 6, checks 1 to 4).
abbrev pub open_checks : Setting → Point → List Check
open_checks st r = opening_checks st ++ 4 unless point_ok r ∷ []

-- The state after opening: nothing is read.
abbrev pub opened : Setting → Point → State
opened st r = begun phase_reading (held st) r empty_stream

-- Reading a channel (PANEL 6, checks 5 to 8).
abbrev pub read_checks : State → Arc → List Check
read_checks x e = 5 unless is_reading x ∷ reading_checks (setting_held x) x.reading.list.count e

-- The state with one arc more read.
abbrev pub with_read : State → Arc → State
with_read x e = state_of x.phase (read_more x.reading e) x.numbering x.repeating

-- Ending the reading (PANEL 6, check 5).
abbrev pub end_checks : State → List Check
end_checks x = 5 unless is_reading x ∷ []

-- The state once the reading has ended.
abbrev pub with_end : State → State
with_end x = state_of phase_read x.reading x.numbering x.repeating

-- The claim (PANEL 6, checks 5 and 9).
abbrev pub claim_checks : State → ℕ → List Check
claim_checks x k = 5 unless has_read x ∷ claiming_checks (setting_held x) k

-- The state with the claim k.
abbrev pub with_claim : State → ℕ → State
with_claim x k = state_of phase_claimed x.reading (claimed k) x.repeating

-- A node number (PANEL 6, checks 5 and 10).
abbrev pub number_checks : State → ℤ → List Check
number_checks x z = 5 unless is_claimed x ∷ numbering_checks (setting_held x) (claim_held x) x.numbering.given z

-- The state with one node number more.
abbrev pub with_number : State → ℤ → State
with_number x z = state_of x.phase x.reading (number_more x.numbering z) x.repeating

-- A repeated channel (PANEL 6, checks 5 to 8, 11, 12); y gives the node numbers.
abbrev pub repeat_checks : State → (ℕ → ℤ) → Load → List Check
repeat_checks x y l = 5 unless is_claimed x ∷ repeating_checks (setting_held x) (numbers_held x y) x.reading.list.count x.repeating.list.count l

-- The state with one arc more repeated.
abbrev pub with_repeat : State → Load → State
with_repeat x l = state_of x.phase x.reading x.numbering (repeat_more x l)

-- Finishing (PANEL 6, checks 5, 13 to 16); u are the sums over the repeated arcs.
abbrev pub finish_checks : State → (ℕ → ℤ) → Sums → List Check
finish_checks x y u =
    5 unless is_claimed x
    ∷ finishing_checks (setting_held x) (numbers_held x y) x.reading.list.count x.repeating.list.count
    (same_print x.reading.list.print x.repeating.list.print) u
