use mathlib.Core.Path.{◌≡◌, refl, sym, ◌∙◌}
use mathlib.Core.Bool.{true}
use native.Mathlib.Omega.{arith}
use lib.ListN.{get_or}
use Rattle.tide_table.specs.Text.{is_digit}
use Rattle.tide_table.proofs.Numbers.{no_number, read_start, read_end, read_no_digit, read_too_great, read_turn}
use Rattle.tide_table.proofs.text.number.Goals as goal

pub returns-then-is_empty : goal.returns-then-is_empty
returns-then-is_empty c = no_number _ (grind arith)

pub loop-c-init : goal.loop-c-init
loop-c-init c = read_start _ (grind arith)

pub returns-then-not-is_digit : goal.returns-then-not-is_digit
returns-then-not-is_digit c =
    read_no_digit _ _ _ c.loop-c.invariant _ c.loop-c-test.true refl
    (sym c.is_digit.ensures ∙ c.if-not-is_digit.true)

pub returns-in_err-checked_mul : goal.returns-in_err-checked_mul
returns-in_err-checked_mul c =
    let digit : is_digit (get_or c.args.word.now c.loop-c.c-index 0) ≡ true = sym c.is_digit.ensures ∙ c.if-not-is_digit.false in
    rw c.from_residual.ensures (read_too_great _ _ _ c.loop-c.invariant _ c.loop-c-test.true refl digit (omega (arith, c.in_err-checked_mul.ensures)))

pub returns-in_err-n : goal.returns-in_err-n
returns-in_err-n c =
    let digit : is_digit (get_or c.args.word.now c.loop-c.c-index 0) ≡ true = sym c.is_digit.ensures ∙ c.if-not-is_digit.false in
    rw c.from_residual-in_err-n.ensures (read_too_great _ _ _ c.loop-c.invariant _ c.loop-c-test.true refl digit (omega (arith, c.in_ok-checked_mul.ensures, c.from.ensures, c.in_err-n.ensures)))

pub loop-c-preserved : goal.loop-c-preserved
loop-c-preserved c =
    let digit : is_digit (get_or c.args.word.now c.loop-c.c-index 0) ≡ true = sym c.is_digit.ensures ∙ c.if-not-is_digit.false in
    read_turn _ _ _ c.loop-c.invariant _ c.loop-c-test.true refl digit _
    (omega (arith, c.in_ok-checked_mul.ensures, c.from.ensures, c.in_ok-n.ensures)) (omega (arith, c.in_ok-n.ensures))

pub returns : goal.returns
returns c = read_end _ _ _ c.loop-c.invariant c.loop-c-test.false
