use mathlib.Core.Path.{◌≡◌, sym, ◌∙◌}
use mathlib.Core.List.{List}
use Prim.Native.Nat.{ℕ}
use native.Mathlib.Omega.{arith}
use lib.ListN.{length}
use Rattle.arc_index.specs.Columns.{record_tails, record_heads}
use Rattle.match_offers.proofs.Costs.{looking_fits, looking_next, looking_end, looking_both}
use Rattle.arc_index.proofs.Columns.{tails_len, heads_len}
use Rattle.match_offers.proofs.two_cheapest.Goals as goal

same_len : (rs : List ℕ) → length (record_heads rs) ≡ length (record_tails rs)
same_len rs = heads_len rs ∙ sym (tails_len rs)

pub bounds-pi-a : goal.bounds-pi-a
bounds-pi-a c =
    let f = looking_fits c.requires.rows.0 c.requires.rows.1 c.requires.affordable.0 c.requires.affordable.1 (same_len c.args.records.now) c.loop-i.invariant c.loop-i-test.true in
    omega (arith, f.0, c.row_record-arc.ensures.tail)

pub overflow_add-cost : goal.overflow_add-cost
overflow_add-cost c =
    let f = looking_fits c.requires.rows.0 c.requires.rows.1 c.requires.affordable.0 c.requires.affordable.1 (same_len c.args.records.now) c.loop-i.invariant c.loop-i-test.true in
    rw (c.row_record-arc.ensures.tail, c.row_record-arc.ensures.weight) (omega (arith, f.1))

pub loop-i-preserved : goal.loop-i-preserved
loop-i-preserved c =
    rw (c.with_arc-two.ensures, c.row_number.ensures, c.row_record-arc.ensures.weight, c.row_record-arc.ensures.tail)
    (looking_next c.requires.rows.0 c.requires.rows.1 c.requires.affordable.0 c.requires.affordable.1 (same_len c.args.records.now) c.loop-i.invariant c.loop-i-test.true)

pub returns : goal.returns
returns c =
    record {
      cheapest = looking_end c.requires.rows.0 c.requires.rows.1 (same_len c.args.records.now) c.loop-i.invariant c.loop-i-test.false;
      both = λ k. (looking_both c.loop-i.invariant k c.requires.rows.0 c.requires.rows.1 (same_len c.args.records.now) c.loop-i-test.false).0;
    }
