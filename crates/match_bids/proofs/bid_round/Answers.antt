use mathlib.Core.Path.{sym, ◌∙◌}
use native.Mathlib.Omega.{arith}
use Rattle.match_bids.proofs.Bidding.{sized, resized}
use Rattle.match_bids.proofs.bid_round.Goals as goal

pub loop-t-init : goal.loop-t-init
loop-t-init c = c.requires.0

pub bid-requires : goal.bid-requires
bid-requires c =
    record { state = (sized c.loop-t.invariant, c.requires.1); h_le_t = (c.loop-t.auto.t, omega (arith, c.loop-t-test.true, c.loop-t.invariant.priced.len)) }

pub loop-t-preserved : goal.loop-t-preserved
loop-t-preserved c =
    resized c.loop-t.invariant.priced.len c.bid.ensures

pub shape_of-mate : goal.shape_of-mate
shape_of-mate c = c.loop-t.invariant.pairs.len ∙ sym c.requires.0.pairs.len

pub shape_of-pi : goal.shape_of-pi
shape_of-pi c = c.loop-t.invariant.priced.len

pub returns : goal.returns
returns c = c.loop-t.invariant
