use mathlib.Core.Path.{◌≡◌, sym, ◌∙◌}
use Prim.Native.Nat.{◌+◌, ◌≤◌}
use native.Mathlib.Omega.{arith}
use borrow.Author.Rules.{rules}
use lib.ListN.{length, take}
use Rattle.prelude.proofs.Tested.{not_on, not_off}
use Rattle.packed_arcs.specs.Entries.{zero_list}
use Rattle.packed_arcs.proofs.LentParts.{zero_list_length, zero_list_part}
use Rattle.order_path.proofs.Rankings.{arcs_as}
use Rattle.order_acyclicity.proofs.Outcomes.{zeros_as, Searchable, search_refused, search_facts, search_decided}
use Rattle.order_acyclicity.proofs.search.Goals as goal
use Rattle.order_acyclicity.proofs.search.Goals.{Else-not-is_searchable}

-- once the test is passed
facts : (c : Else-not-is_searchable) → Searchable c.args.records.now (length c.args.ranks.now) (length c.args.marks.now)
facts c = search_facts c.args.records.now c.args.ranks.now c.args.marks.now _ c.is_searchable.ensures (not_on _ c.if-not-is_searchable.false)

-- a part of an array for the vertices, and that for the links
vertices_part : (c : Else-not-is_searchable) → let n = length c.args.ranks.now in length (take n (zero_list 255)) ≡ n
vertices_part c = zero_list_length (length c.args.ranks.now) 255 (facts c).small

links_fit : (c : Else-not-is_searchable) → 256 + length c.args.records.now ≤ 4352
links_fit c = omega (arith, (facts c).few)

links_part : (c : Else-not-is_searchable) → let k = 256 + length c.args.records.now in length (take k (zero_list 4352)) ≡ k
links_part c = zero_list_length (256 + length c.args.records.now) 4352 (links_fit c)

pub returns-then-not-is_searchable : goal.returns-then-not-is_searchable
returns-then-not-is_searchable c =
    search_refused c.args.records.now c.args.ranks.now c.args.marks.now _ c.is_searchable.ensures (not_off _ c.if-not-is_searchable.true)

pub decide-requires : goal.decide-requires
decide-requires c =
    let f = facts (goal.at.decide-requires c).Else-not-is_searchable in
    let same = c.fill.auto.self in
    let zero : c.fill.new.self ≡ zero_list (length c.args.ranks.now) = search rules in
    let none : c.fill-2.new.self ≡ zero_list (length c.args.marks.now) = search rules in
    let vertices = vertices_part (goal.at.decide-requires c).Else-not-is_searchable ∙ sym same in record {
      arcs = (arcs_as same f.arcs, links_part (goal.at.decide-requires c).Else-not-is_searchable);
      ranks_value = (zeros_as (sym same) zero, zeros_as f.one_each none);
      into_len = (vertices, vertices, zeros_as (sym same) (zero_list_part (length c.args.ranks.now) 255 f.small));
    }

pub returns : goal.returns
returns c =
    let none : c.fill-2.new.self ≡ zero_list (length c.args.marks.now) = search rules in
    search_decided c.args.records.now c.args.ranks.now c.args.marks.now _ c.is_searchable.ensures (not_on _ c.if-not-is_searchable.false) c.fill.auto.self
    none (c.decide.auto.ranks ∙ c.fill.auto.self) c.decide.ensures

pub slice_bounds-links-end : goal.slice_bounds-links-end
slice_bounds-links-end c = links_fit (goal.at.slice_bounds-links-end c).Else-not-is_searchable

pub slice_bounds-decide-end : goal.slice_bounds-decide-end
slice_bounds-decide-end c = sym (links_part (goal.at.slice_bounds-decide-end c).Else-not-is_searchable)

pub slice_bounds-into-end : goal.slice_bounds-into-end
slice_bounds-into-end c = (facts (goal.at.slice_bounds-into-end c).Else-not-is_searchable).small

pub slice_bounds-decide-end-2 : goal.slice_bounds-decide-end-2
slice_bounds-decide-end-2 c = sym (vertices_part (goal.at.slice_bounds-decide-end-2 c).Else-not-is_searchable)

pub slice_bounds-path-end : goal.slice_bounds-path-end
slice_bounds-path-end c = (facts (goal.at.slice_bounds-path-end c).Else-not-is_searchable).small

pub slice_bounds-decide-end-3 : goal.slice_bounds-decide-end-3
slice_bounds-decide-end-3 c = sym (vertices_part (goal.at.slice_bounds-decide-end-3 c).Else-not-is_searchable)

pub slice_bounds-spot-end : goal.slice_bounds-spot-end
slice_bounds-spot-end c = (facts (goal.at.slice_bounds-spot-end c).Else-not-is_searchable).small

pub slice_bounds-decide-end-4 : goal.slice_bounds-decide-end-4
slice_bounds-decide-end-4 c = sym (vertices_part (goal.at.slice_bounds-decide-end-4 c).Else-not-is_searchable)
