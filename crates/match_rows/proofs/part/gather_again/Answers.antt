use Rattle.match_rows.proofs.LightestLast.{rows_loosened, since_before, none_exposed, lightest_last, one_front, next_moved, next_lightest, two_front}
use Rattle.match_rows.proofs.OtherOrder.{exchanged}
use Rattle.match_rows.proofs.part.gather_again.Goals as goal

pub gather_exposed-exposed-requires : goal.gather_exposed-exposed-requires
gather_exposed-exposed-requires c = let P = rows_loosened c.requires.rows.0 c.requires.rows.1 in record { rows = (P.0, c.requires.rows.1, P.1); by_index = c.requires.by_index }

pub returns-then-end-first : goal.returns-then-end-first
returns-then-end-first c =
    let small = c.requires.rows.1 in
    let F = since_before c.requires.rows.0 small c.gather_exposed-exposed.ensures in
    none_exposed small F c.if-end-first.true c.note.ensures

pub returns-then-last-first : goal.returns-then-last-first
returns-then-last-first c =
    let small = c.requires.rows.1 in
    let F = since_before c.requires.rows.0 small c.gather_exposed-exposed.ensures in
    one_front small (lightest_last small F c.if-end-first.false (exchanged c.swap.ensures.len c.swap.ensures.by_index)) c.note-then-last-first.ensures

pub returns : goal.returns
returns c =
    let small = c.requires.rows.1 in
    let F = since_before c.requires.rows.0 small c.gather_exposed-exposed.ensures in
    let P = next_moved small F c.if-end-first.false (exchanged c.swap.ensures.len c.swap.ensures.by_index) c.if-last-first.false c.moved-second.ensures in
    two_front small (lightest_last small F c.if-end-first.false (exchanged c.swap.ensures.len c.swap.ensures.by_index)) P.0 P.1 (next_lightest small F c.if-end-first.false (exchanged c.swap.ensures.len c.swap.ensures.by_index) c.if-last-first.false c.moved-second.ensures) (exchanged c.swap-2.ensures.len c.swap-2.ensures.by_index) c.note-2.ensures
