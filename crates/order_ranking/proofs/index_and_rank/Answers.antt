use mathlib.Core.Path.{◌∙◌, ap}
use Prim.Native.Nat.{ℕ}
use lib.ListN.{take}
use Rattle.order_ranking.proofs.Indexed.{chained_built}
use Rattle.order_ranking.proofs.index_and_rank.Goals as goal

pub rank_all-requires : goal.rank_all-requires
rank_all-requires c =
    record {
      chained = (
        chained_built c.args.records.now c.args.links.now _ c.requires.arcs.0 c.requires.arcs.1 c.index.ensures.1,
        c.first_arcs.ensures ∙ ap (λ (n : ℕ). take n c.index.new.links) c.requires.ranks_value.1,
      );
      ranks_value = (c.requires.ranks_value.0, c.requires.ranks_value.2, c.requires.ranks_value.3);
    }
