use Rattle.match_bids.proofs.Bidding.{sized, resized}
use Rattle.match_bids.proofs.bid_all.Goals as goal

pub bid_round-requires-2 : goal.bid_round-requires-2
bid_round-requires-2 c =
    (sized c.bid_round.ensures, c.requires.1)

pub returns : goal.returns
returns c =
    resized c.bid_round.ensures.priced.len c.bid_round-2.ensures
