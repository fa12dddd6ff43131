use Rattle.match_offers.proofs.both_cheapest.Goals as goal

pub returns-then-two : goal.returns-then-two
returns-then-two c = (c.two_cheapest-two.ensures.both c.if-two.true, c.if-two.true, c.two_cheapest-two.ensures.cheapest)
