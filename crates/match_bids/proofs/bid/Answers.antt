use mathlib.Core.Path.{◌≡◌}
use native.Mathlib.Omega.{arith}
use Rattle.packed_arcs.specs.Entries.{entry}
use Rattle.arc_index.specs.ArcIndex.{no_arc}
use Rattle.match_offers.specs.Offers.{Offer}
use Rattle.arc_index.specs.Columns.{record_tails, record_heads, record_weights}
use Rattle.match_state.proofs.Pairs.{is_exposed}
use Rattle.match_bids.proofs.Bidding.{affordable, offer, room, taken_offer}
use Rattle.arc_index.proofs.Columns.{tails_len}
use Rattle.match_bids.proofs.bid.Goals as goal
use Rattle.match_bids.proofs.bid.Goals.{After-choose-e, Else-mate-t-lt-NO_ARC}

-- the arc that was chosen is an offer
here : (c : After-choose-e)
    → let rs = c.args.records.now in
    Offer (record_tails rs) (record_heads rs) (record_weights rs) c.args.pi.now c.args.t c.choose-e.result c.cost_of-u.result
here c =
    offer c.args.t _ _ c.choose-e.result c.cost_of-u.result c.requires.state.0 c.in-Some.ensures.0 c.in-Some.ensures.1 c.in-Some.ensures.2
    c.cost_of-u.ensures c.if-u-gt-MOST.false c.choose-e.ensures

-- before that t was exposed
exposed : (c : Else-mate-t-lt-NO_ARC) → entry c.args.mate.now c.args.t ≡ no_arc
exposed c = is_exposed c.requires.state.0.graph c.requires.state.0.pairs c.args.t c.requires.h_le_t.1 c.if-mate-t-lt-NO_ARC.false

pub both_cheapest-requires : goal.both_cheapest-requires
both_cheapest-requires c =
    record { rows = (c.requires.state.1, omega (arith, c.requires.h_le_t.1, c.requires.state.0.graph.small)); affordable = (affordable c.requires.state.0, c.requires.state.0.graph.small) }

pub cost_of-u-requires : goal.cost_of-u-requires
cost_of-u-requires c =
    (affordable c.requires.state.0, omega (arith, (c.in-Some.ensures.2.second c.in-Some.ensures.0).arc c.in-Some.ensures.1, tails_len c.args.records.now))

pub choose-e-requires : goal.choose-e-requires
choose-e-requires c = (
  affordable c.requires.state.0,
  omega (arith, c.in-Some.ensures.2.first.arc c.in-Some.ensures.0, tails_len c.args.records.now),
  c.requires.state.0.pairs.len,
)

pub assign-requires : goal.assign-requires
assign-requires c =
    room c.requires.state.0 c.requires.h_le_t.0 c.requires.h_le_t.1 (exposed (goal.at.assign-requires c).Else-mate-t-lt-NO_ARC) (here (goal.at.assign-requires c).After-choose-e)

pub returns : goal.returns
returns c =
    taken_offer c.requires.state.0 c.requires.h_le_t.0 c.requires.h_le_t.1 (exposed (goal.at.returns c).Else-mate-t-lt-NO_ARC) (here (goal.at.returns c).After-choose-e) _ _ c.assign.ensures.mate_after
    c.assign.ensures.pi_after

pub returns-then-mate-t-lt-NO_ARC : goal.returns-then-mate-t-lt-NO_ARC
returns-then-mate-t-lt-NO_ARC c = c.requires.state.0

pub returns-then-u-gt-MOST : goal.returns-then-u-gt-MOST
returns-then-u-gt-MOST c = c.requires.state.0
