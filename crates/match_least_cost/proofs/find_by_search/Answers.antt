use mathlib.Core.Path.{refl, sym, ap, ◌∙◌}
use mathlib.Core.List.{List}
use Prim.Native.Nat.{ℕ, ◌+◌, ◌≤◌}
use native.Mathlib.Omega.{arith}
use lib.ListN.{length, length-replicate}
use Rattle.packed_arcs.specs.Entries.{zero_list}
use Rattle.packed_arcs.proofs.LentParts.{zero_list_length}
use Rattle.arc_index.specs.Columns.{record_tails, record_heads, record_weights}
use Rattle.arc_index.proofs.Columns.{tails_len}
use Rattle.match_state.specs.Matching.{Bipartite}
use Rattle.match_least_cost.proofs.Finding.{same_part, bipartite_at, outcome_at}
use Rattle.match_least_cost.proofs.find_by_search.Goals as goal

-- few enough vertices on the left, and few enough records
left_few : (h n : ℕ) (T H W : List ℕ) → Bipartite h n T H W → h ≤ 255
left_few h n T H W G = omega (arith, G.within, G.small)

records_few : (rs : List ℕ) (h n : ℕ) → Bipartite h n (record_tails rs) (record_heads rs) (record_weights rs) → 769 + length rs ≤ 4865
records_few rs h n G = omega (arith, G.few, tails_len rs)

pub slice_bounds-rows-end : goal.slice_bounds-rows-end
slice_bounds-rows-end c =
    records_few c.args.records.now c.args.h (length c.args.pi.now) c.requires.bipartite

pub slice_bounds-find-end : goal.slice_bounds-find-end
slice_bounds-find-end c =
    sym (zero_list_length (769 + length c.args.records.now) 4865 (records_few c.args.records.now c.args.h (length c.args.pi.now) c.requires.bipartite))

pub slice_bounds-find-end-2 : goal.slice_bounds-find-end-2
slice_bounds-find-end-2 c =
    sym (zero_list_length c.args.h 255 (left_few _ _ _ _ _ c.requires.bipartite))

pub slice_bounds-find-end-3 : goal.slice_bounds-find-end-3
slice_bounds-find-end-3 c =
    let n = length c.args.pi.now in
    sym (ap length (same_part n 255 4096 c.requires.bipartite.small) ∙ length-replicate n 4096)

pub slice_bounds-find-end-4 : goal.slice_bounds-find-end-4
slice_bounds-find-end-4 c =
    sym (zero_list_length c.args.h 255 (left_few _ _ _ _ _ c.requires.bipartite))

pub slice_bounds-find-end-5 : goal.slice_bounds-find-end-5
slice_bounds-find-end-5 c =
    sym (zero_list_length c.args.h 255 (left_few _ _ _ _ _ c.requires.bipartite))

pub slice_bounds-find-end-6 : goal.slice_bounds-find-end-6
slice_bounds-find-end-6 c =
    sym (zero_list_length c.args.h 255 (left_few _ _ _ _ _ c.requires.bipartite))

pub find-requires : goal.find-requires
find-requires c =
    let n = length c.args.pi.now in
    let few = left_few _ _ _ _ _ c.requires.bipartite in
    let long = zero_list_length c.args.h 255 few in
    record {
      bipartite = bipartite_at long refl c.requires.bipartite;
      rows_len = (
        zero_list_length (769 + length c.args.records.now) 4865 (records_few c.args.records.now c.args.h n c.requires.bipartite),
        refl,
        refl,
        c.requires.x_len.0,
        refl,
        same_part c.args.h 255 0 few ∙ ap zero_list (sym long),
      );
      mate_value = (same_part n 255 4096 c.requires.bipartite.small, c.requires.x_len.1);
    }

pub returns : goal.returns
returns c =
    outcome_at (zero_list_length c.args.h 255 (left_few _ _ _ _ _ c.requires.bipartite)) refl c.find.ensures
