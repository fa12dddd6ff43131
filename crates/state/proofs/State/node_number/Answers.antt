use mathlib.Core.Path.{refl, ◌∙◌, ap}
use lib.Dec.{ltb→lt}
use lib.IntN.{ℤ}
use mir.Facts.{to_z-of_z}
use Rattle.state.specs.State.{state_of, number_checks, with_number}
use Rattle.state.specs.Turns.{turn_of, number_turn}
use Rattle.session_groups.specs.Groups.{number_more}
use Rattle.session_groups.specs.declared.Numbering.{Numbering}
use Rattle.refusals.proofs.Exits.{exit_as, number_not_0}
use Rattle.state.proofs.Laws.{turn_refused, turn_holds, turn_accepted}
use Rattle.state.proofs.State.node_number.Goals as goal

pub returns-in_err-number_check : goal.returns-in_err-number_check
unfolding number_turn
returns-in_err-number_check c =
    let found = simp (to_z-of_z c.ranges.y) at c.in_err-number_check.ensures in
    exit_as (turn_of c.args.self) _ _ c.from_residual.ensures.1
    ∙ turn_refused c.args.self (with_number c.args.self c.args.y) (number_checks c.args.self c.args.y) (refl, (refl, (refl, tt))) _ found (number_not_0 _)

pub with_number-self-requires : goal.with_number-self-requires
with_number-self-requires c =
    let found = simp (to_z-of_z c.ranges.y) at c.in_ok-number_check.ensures in
    let h = turn_holds c.args.self (with_number c.args.self c.args.y) (number_checks c.args.self c.args.y) (refl, (refl, (refl, tt))) 0 found refl in
    ltb→lt c.args.self.numbering.given c.args.self.reading.setting.n h.1.0

pub returns : goal.returns
unfolding number_turn
returns c =
    let found = simp (to_z-of_z c.ranges.y) at c.in_ok-number_check.ensures in
    turn_accepted c.args.self (with_number c.args.self c.args.y) (number_checks c.args.self c.args.y) (refl, (refl, (refl, tt))) 0 found refl _
    (ap (λ (g : Numbering). state_of c.args.self.phase c.args.self.reading g c.args.self.repeating) (c.with_number-self.ensures ∙ ap (λ (z : ℤ). number_more c.args.self.numbering z) (to_z-of_z c.ranges.y)))
