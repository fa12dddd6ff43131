use mathlib.Core.Path.{refl, sym, subst, ◌∙◌}
use Prim.Native.Nat.{ℕ, ◌<◌}
use Rattle.std.specs.Prelude.{IfSome}
use Rattle.match_rounds.proofs.Serving.{state_at}
use Rattle.match_least_cost.proofs.Finding.{bipartite_at, outcome_at, pass_again}
use Rattle.match_least_cost.proofs.find.Goals as goal

pub note_lightest-requires : goal.note_lightest-requires
note_lightest-requires c =
    (bipartite_at c.requires.rows_len.4 c.arrange_and_bid.auto.pi c.requires.bipartite, c.requires.rows_len.5)

pub serve_all-unmatched-requires : goal.serve_all-unmatched-requires
serve_all-unmatched-requires c =
    record { state = state_at refl c.arrange_and_bid.auto.pi c.arrange_and_bid.ensures.state; rows = (c.arrange_and_bid.ensures.rows, c.note_lightest.ensures, c.note_lightest.auto.lightest ∙ c.requires.rows_len.4); par_len = (c.requires.rows_len.1, c.requires.rows_len.2) }

pub write_found-requires : goal.write_found-requires
write_found-requires c =
    record { pass_outcome = pass_again c.serve_all-unmatched.result (sym c.serve_all-unmatched.auto.dist) (sym c.serve_all-unmatched.auto.pi) c.serve_all-unmatched.ensures.pass_outcome; in_mate = subst (λ (n : ℕ). IfSome c.serve_all-unmatched.result (λ t. t < n)) (sym c.serve_all-unmatched.auto.mate) c.serve_all-unmatched.ensures.in_mate; x_len = c.requires.rows_len.3 }

-- the lengths of rows, mate and pi stay
pub shape_of-rows : goal.shape_of-rows
shape_of-rows c =
    c.serve_all-unmatched.auto.rows ∙ c.arrange_and_bid.auto.rows

pub shape_of-mate : goal.shape_of-mate
shape_of-mate c =
    c.serve_all-unmatched.auto.mate ∙ c.arrange_and_bid.auto.mate

pub shape_of-pi : goal.shape_of-pi
shape_of-pi c =
    c.write_found.auto.pi ∙ c.serve_all-unmatched.auto.pi ∙ c.arrange_and_bid.auto.pi

pub returns : goal.returns
returns c =
    outcome_at c.serve_all-unmatched.auto.dist (c.serve_all-unmatched.auto.pi ∙ c.arrange_and_bid.auto.pi) c.write_found.ensures

pub shape_of-lightest : goal.shape_of-lightest
shape_of-lightest c = c.note_lightest.auto.lightest

pub shape_of-dist : goal.shape_of-dist
shape_of-dist c = c.serve_all-unmatched.auto.dist

pub shape_of-par : goal.shape_of-par
shape_of-par c = c.serve_all-unmatched.auto.par

pub shape_of-order : goal.shape_of-order
shape_of-order c = c.serve_all-unmatched.auto.order

pub shape_of-x : goal.shape_of-x
shape_of-x c = c.write_found.auto.x
