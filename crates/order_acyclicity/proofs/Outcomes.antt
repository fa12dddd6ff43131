-- The outcomes of the search, from the test's result u, which the code negates, and from what the work after it gave.
use mathlib.Core.Path.{◌≡◌, refl, sym, ◌∙◌, ap, subst}
use mathlib.Core.Bool.{Bool, true, false, not, ◌&&◌}
use mathlib.Core.List.{List}
use Prim.Native.Nat.{ℕ, ◌<◌, ◌≤◌}
use native.Mathlib.Omega.{arith}
use lib.Dec.{T, eqb, leb, ltb, eqb→eq, leb→le, ltb→lt}
use lib.ListN.{length}
use Rattle.prelude.specs.Lists.{all}
use Rattle.prelude.proofs.Booleans.{and_left, and_right, true→T}
use Rattle.prelude.proofs.Tested.{passed, refused as failed}
use Rattle.arc_records.specs.Limits.{most_vertices, most_arcs}
use Rattle.arc_records.specs.Arcs.{word_arc}
use Rattle.packed_arcs.specs.Entries.{entry, zero_list}
use Rattle.packed_arcs.proofs.ListLoops.{each_entry}
use Rattle.arc_index.specs.Columns.{record_tails, record_heads}
use Rattle.order_path.specs.Search.{joins_below, searchable, SearchOutcome}
use Rattle.order_path.specs.Steps.{Arcs, ClosedPath, OrderOrCycle}
use Rattle.order_path.specs.Steps.OrderOrCycle.{ordered, cyclic}
use Rattle.order_path.specs.declared.Found.{Found}
use Rattle.std.specs.Prelude.{Ok, Err}
use Rattle.arc_index.proofs.Columns.{tails_len, heads_len, tail_is, head_is}

-- ---- lists of zeros, and as many vertices

pub zeros_as : {l : List ℕ} {n m : ℕ} → n ≡ m → l ≡ zero_list n → l ≡ zero_list m
zeros_as q z = z ∙ ap zero_list q

-- ---- what passes the test

pub record Searchable (rs : List ℕ) (n marks : ℕ) : Type 0 where
  pub small : n ≤ most_vertices
  pub few : length rs ≤ most_arcs
  pub one_each : marks ≡ length rs
  pub arcs : Arcs n (record_tails rs) (record_heads rs)

pub searchable_facts : (rs : List ℕ) (n marks : ℕ) → searchable rs n marks ≡ true → Searchable rs n marks
searchable_facts rs n marks ok =
    let t = true→T (searchable rs n marks) ok in
    let three = and_left (leb n most_vertices && leb (length rs) most_arcs && eqb marks (length rs)) (all (joins_below n) rs) t in
    let two = and_left (leb n most_vertices && leb (length rs) most_arcs) (eqb marks (length rs)) three in
    let small = leb→le n most_vertices (and_left (leb n most_vertices) (leb (length rs) most_arcs) two) in
    let few = leb→le (length rs) most_arcs (and_right (leb n most_vertices) (leb (length rs) most_arcs) two) in
    record {
      small = small;
      few = few;
      one_each = eqb→eq marks (length rs) (and_right (leb n most_vertices && leb (length rs) most_arcs) (eqb marks (length rs)) three);
      arcs = record {
        vertices = small;
        few = omega (arith, few, tails_len rs);
        heads_len = heads_len rs ∙ sym (tails_len rs);
        tails_below = λ e h. omega (arith, tail_is rs e, ltb→lt _ n (and_left (ltb (word_arc (entry rs e)).tail n) (ltb (word_arc (entry rs e)).head n) (joins e h)));
        heads_below = λ e h. omega (arith, head_is rs e, ltb→lt _ n (and_right (ltb (word_arc (entry rs e)).tail n) (ltb (word_arc (entry rs e)).head n) (joins e h)));
      };
    }
  where
    joins : (e : ℕ) → e < length (record_tails rs) → T (joins_below n (entry rs e))
    joins e h =
        each_entry (joins_below n) rs
        (and_right (leb n most_vertices && leb (length rs) most_arcs && eqb marks (length rs)) (all (joins_below n) rs) (true→T (searchable rs n marks) ok)) e
        (omega (arith, tails_len rs))

-- ---- the outcomes

module _ (rs ranks marks : List ℕ) (u : Bool) (e : u ≡ searchable rs (length ranks) (length marks)) where
  pub search_refused : not u ≡ true → SearchOutcome rs ranks marks ranks marks (Err (record {}))
  search_refused h = SearchOutcome.refused (failed (searchable rs (length ranks) (length marks)) u h e) refl refl

  module _ (h : not u ≡ false) where
    ok : searchable rs (length ranks) (length marks) ≡ true
    ok = passed (searchable rs (length ranks) (length marks)) u h e

    pub search_facts : Searchable rs (length ranks) (length marks)
    search_facts = searchable_facts rs (length ranks) (length marks) ok

    -- after ranks and marks were set to 0
    pub search_decided : {ranks₁ marks₁ ranks' marks' : List ℕ} {r : Found} → length ranks₁ ≡ length ranks → marks₁ ≡ zero_list (length marks)
        → length ranks' ≡ length ranks → OrderOrCycle (record_tails rs) (record_heads rs) ranks₁ marks₁ ranks' marks' r → SearchOutcome rs ranks marks ranks' marks' (Ok r)
    search_decided q z k (ordered o m) = SearchOutcome.ordered ok k o (m ∙ z)
    search_decided q z k (cyclic p c) = SearchOutcome.cyclic ok (p ∙ ap zero_list q) c
