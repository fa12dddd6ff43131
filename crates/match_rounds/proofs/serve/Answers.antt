use mathlib.Core.Path.{refl, ◌∙◌}
use native.Mathlib.Omega.{arith}
use Rattle.match_rounds.proofs.Serving.{state_at, search_lengths, reached_at, search_stuck, served}
use Rattle.match_rounds.proofs.serve.Goals as goal

pub search-requires : goal.search-requires
search-requires c = record { state = c.requires.state; rows = c.requires.rows; dist_len_bound = c.requires.dist_len_bound }

pub returns-in_default : goal.returns-in_default
returns-in_default c =
    let found = c.in_default.ensures.searched_back in
    record { served = search_stuck c.requires.state found (omega (arith, search_lengths found)); rows_2 = c.in_default.ensures.rows_2 }

pub match_reached-requires : goal.match_reached-requires
match_reached-requires c =
    let found = c.in-Some.ensures.searched_back in
    let same = (search_lengths found).0 in
    record { state = state_at same refl c.requires.state; reached = reached_at found (omega (arith, c.in-Some.ensures.in_dist)) same }

-- the length of order stays
pub shape_of-order : goal.shape_of-order
shape_of-order c =
    c.match_reached.auto.order ∙ c.search.auto.order

pub returns : goal.returns
returns c =
    let found = c.in-Some.ensures.searched_back in
    record { served = served c.requires.state found (search_lengths found).0 refl c.match_reached.ensures; rows_2 = c.in-Some.ensures.rows_2 }

pub shape_of-rows-in_default : goal.shape_of-rows-in_default
shape_of-rows-in_default c = c.search.auto.rows

pub shape_of-mate-in_default : goal.shape_of-mate-in_default
shape_of-mate-in_default c = refl

pub shape_of-pi-in_default : goal.shape_of-pi-in_default
shape_of-pi-in_default c = refl

pub shape_of-dist-in_default : goal.shape_of-dist-in_default
shape_of-dist-in_default c = c.search.auto.dist

pub shape_of-par-in_default : goal.shape_of-par-in_default
shape_of-par-in_default c = c.search.auto.par

pub shape_of-order-in_default : goal.shape_of-order-in_default
shape_of-order-in_default c = c.search.auto.order

pub shape_of-rows : goal.shape_of-rows
shape_of-rows c = c.search.auto.rows

pub shape_of-mate : goal.shape_of-mate
shape_of-mate c = c.match_reached.auto.mate

pub shape_of-pi : goal.shape_of-pi
shape_of-pi c = c.match_reached.auto.pi

pub shape_of-dist : goal.shape_of-dist
shape_of-dist c = c.search.auto.dist

pub shape_of-par : goal.shape_of-par
shape_of-par c = c.search.auto.par
