use mathlib.Core.Path.{refl}
use Rattle.match_state.proofs.Pairs.{is_exposed}
use Rattle.match_rounds.proofs.Serving.{was_matched}
use Rattle.match_rounds.proofs.serve_exposed.Goals as goal

pub returns-then-mate-t-lt-NO_ARC : goal.returns-then-mate-t-lt-NO_ARC
returns-then-mate-t-lt-NO_ARC c = record { served = was_matched c.requires.state refl c.if-mate-t-lt-NO_ARC.true; rows_2 = c.requires.rows.0 }

pub serve-requires : goal.serve-requires
serve-requires c =
    record { state = c.requires.state; rows = c.requires.rows; dist_len_bound = (c.requires.dist_len_bound.0, c.requires.dist_len_bound.1, is_exposed c.requires.state.graph c.requires.state.pairs c.args.t c.requires.dist_len_bound.1 c.if-mate-t-lt-NO_ARC.false, c.requires.dist_len_bound.2, c.requires.dist_len_bound.3) }

pub shape_of-rows : goal.shape_of-rows
shape_of-rows c = c.serve.auto.rows

pub shape_of-mate : goal.shape_of-mate
shape_of-mate c = c.serve.auto.mate

pub shape_of-pi : goal.shape_of-pi
shape_of-pi c = c.serve.auto.pi

pub shape_of-dist : goal.shape_of-dist
shape_of-dist c = c.serve.auto.dist

pub shape_of-par : goal.shape_of-par
shape_of-par c = c.serve.auto.par

pub shape_of-order : goal.shape_of-order
shape_of-order c = c.serve.auto.order

pub returns : goal.returns
returns c = c.serve.ensures
