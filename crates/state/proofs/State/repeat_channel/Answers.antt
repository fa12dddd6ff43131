use mathlib.Core.Path.{◌≡◌, refl, sym, ◌∙◌, ap, ap₂}
use mathlib.Core.Bool.{Bool, not, ◌&&◌}
use mathlib.Core.List.{List}
use Prim.Native.Nat.{ℕ}
use lib.IntN.{ℤ}
use Rattle.prelude.specs.Checks.{Check, first_broken}
use Rattle.refusals.specs.Refusals.{why}
use Rattle.refusals.proofs.Exits.{exit_as, number_not_0}
use Rattle.prelude.specs.Lists.{at}
use Rattle.prelude.proofs.Settle.{Numbered}
use Rattle.network.specs.Network.{load_held}
use Rattle.network.specs.Certificate.{Ends}
use Rattle.state.specs.State.{repeat_checks, with_repeat}
use Rattle.state.specs.Turns.{turn_of, repeat_turn}
use Rattle.arc_records.specs.declared.Record.{Record}
use Rattle.state.specs.declared.State.{State}
use Rattle.state.proofs.Laws.{turn_refused, turn_holds, turn_accepted, arc_broken, load_broken, load_limits}
use Rattle.state.proofs.State.repeat_channel.Goals as goal
use Rattle.state.proofs.State.repeat_channel.Goals.{After-load_check}

-- the checks, and the state where they hold
abbrev checks : State → List ℤ → Record → ℕ → List Check
checks x ys e v = repeat_checks x (at ys) (load_held e v)

abbrev next : State → Record → ℕ → State
next x e v = with_repeat x (load_held e v)

numbered : (x : State) (ys : List ℤ) (e : Record) (v : ℕ) → Numbered (checks x ys e v)
numbered x ys e v = (refl, (refl, (refl, (refl, (refl, (refl, (refl, tt)))))))

-- what was found of the check of the arc and of that of its amount
found : (l : After-load_check) → why l.load_check.result ≡ first_broken (checks l.args.self l.args.potentials.now l.args.arc l.args.x)
found l =
    load_broken l.args.self (at l.args.potentials.now) l.args.arc l.args.x 0 l.in_ok-repeat_check.ensures refl
    l.row_of.ensures l.ends_of-ends.ensures _ l.load_check.ensures

pub returns-in_err-repeat_check : goal.returns-in_err-repeat_check
unfolding repeat_turn
returns-in_err-repeat_check c =
    let s = c.args in
    exit_as (turn_of s.self) _ _ c.from_residual.ensures.1
    ∙ turn_refused s.self (next s.self s.arc s.x) (checks s.self s.potentials.now s.arc s.x) (numbered s.self s.potentials.now s.arc s.x) _
    (arc_broken s.self (at s.potentials.now) s.arc s.x _ c.in_err-repeat_check.ensures (number_not_0 _)) (number_not_0 _)

pub returns-in_err-load_check : goal.returns-in_err-load_check
unfolding repeat_turn
returns-in_err-load_check c =
    let s = c.args in
    exit_as (turn_of s.self) _ _ c.from_residual-in_err-load_check.ensures.1
    ∙ turn_refused s.self (next s.self s.arc s.x) (checks s.self s.potentials.now s.arc s.x) (numbered s.self s.potentials.now s.arc s.x) _
    (sym (ap why c.in_err-load_check.was) ∙ found (goal.at.returns-in_err-load_check c).After-load_check) (number_not_0 _)

pub with_repeat-requires : goal.with_repeat-requires
with_repeat-requires c =
    let s = c.args in
    let h = turn_holds s.self (next s.self s.arc s.x) (checks s.self s.potentials.now s.arc s.x) (numbered s.self s.potentials.now s.arc s.x) 0 (sym (ap why c.in_ok-load_check.was) ∙ found (goal.at.with_repeat-requires c).After-load_check) refl in
    let k = load_limits s.self (at s.potentials.now) s.arc s.x h in
    record { count_lt_count = k.room; weight_bound = k.weight; x_bound = k.amount; crossing_value = c.leads_out-crossing.ensures ∙ ap₂ (λ (a b : Bool). a && not b) (ap (λ (u : Ends). u.tail_marked) c.ends_of-ends.ensures) (ap (λ (u : Ends). u.head_marked) c.ends_of-ends.ensures) }

pub returns : goal.returns
unfolding repeat_turn
returns c =
    let s = c.args in
    turn_accepted s.self (next s.self s.arc s.x) (checks s.self s.potentials.now s.arc s.x) (numbered s.self s.potentials.now s.arc s.x) 0 (sym (ap why c.in_ok-load_check.was) ∙ found (goal.at.returns c).After-load_check) refl _ c.with_repeat.ensures
