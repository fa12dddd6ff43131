-- One row: copied along the chain of its vertex, and kept.
use mathlib.Core.Path.{◌≡◌, sym, ap, ◌∙◌}
use mathlib.Core.List.{List}
use mathlib.Core.Logic.{◌≢◌}
use Prim.Native.Nat.{ℕ, ◌+◌, ◌*◌, ◌%◌, ◌<◌, ◌≤◌}
use native.Mathlib.Decide.{dec_lt}
use native.Mathlib.Omega.{arith}
use lib.ListN.{length, set, length-set}
use lib.Seq.{get_or-set_same, get_or-set_other}
use borrow.Author.Count.{below_more}
use Rattle.packed_arcs.specs.Entries.{entry}
use Rattle.arc_records.specs.Arcs.{word_arc}
use Rattle.arc_index.specs.ArcIndex.{no_arc, next_arc}
use Rattle.arc_index.specs.Chains.{First, Chains}
use Rattle.arc_index.specs.Columns.{record_tails, record_heads, record_weights}
use Rattle.arc_index.proofs.ChainSteps.{is_arc, none_between, none_left, further, next_is}
use Rattle.arc_index.proofs.Columns.{tail_is, weight_is}
use Rattle.match_state.specs.Rows.{numbered, row_number, row_tail, row_weight, RowArc}
use Rattle.match_rows.specs.Copying.{copied, StandsBetween, Row, RowCopied}
use Rattle.match_rows.proofs.CopiedArcs.{copied_grows, copied_less, copied_most}

-- ---- what stands at a position is kept where the position keeps its number

row_arc : {T H W rows : List ℕ} {v i arc : ℕ} → entry rows i ≡ arc → row_number arc < length H → entry H (row_number arc) ≡ v → row_tail arc ≡ entry T (row_number arc)
    → row_weight arc ≡ entry W (row_number arc) → RowArc T H W rows v i
row_arc q n h t w = record { number = rw q n; head = rw q h; tail = rw q t; weight = rw q w }

pub arc_kept : {T H W rows rows' : List ℕ} {v i j : ℕ} → entry rows' j ≡ entry rows i → RowArc T H W rows v i → RowArc T H W rows' v j
arc_kept q A = row_arc q A.number A.head A.tail A.weight

module _ {rows rows' : List ℕ} {start end : ℕ} (same : (j : ℕ) → start ≤ j → j < end → entry rows' j ≡ entry rows j) where
  between_kept : {e : ℕ} → StandsBetween rows start end e → StandsBetween rows' start end e
  between_kept B = record { at = B.at; from = B.from; before = B.before; is = ap row_number (same B.at B.from B.before) ∙ B.is }

  pub row_kept : {T H W : List ℕ} {v : ℕ} → Row T H W rows v start end → Row T H W rows' v start end
  row_kept R = record { own = λ i g l. arc_kept (same i g l) (R.own i g l); all = λ e l q. between_kept (R.all e l q) }

-- ---- a row is copied

-- The row of v is copied from the position `from` up to i: the arcs to it below lo. e comes next, the first from lo on.
pub record Copying (T H W before rows : List ℕ) (v from i e : ℕ) : Type 0 where
  pub len : length rows ≡ length before
  pub kept : (j : ℕ) → j < from → entry rows j ≡ entry before j
  pub forward : from ≤ i
  pub lo : ℕ
  pub low : lo ≤ no_arc
  pub here : First H v lo e
  pub room : i ≤ 769 + copied H (v * no_arc + lo)
  pub own : (j : ℕ) → from ≤ j → j < i → RowArc T H W rows v j
  pub all : (k : ℕ) → k < lo → entry H k ≡ v → StandsBetween rows from i k

-- the arc e is copied
module _ (rs links before rows : List ℕ) (v from i e : ℕ) (C : Chains (record_heads rs) links) (l : e < no_arc) (size : length before ≡ 769 + length (record_heads rs))
    (G : Copying (record_tails rs) (record_heads rs) (record_weights rs) before rows v from i e) where
  abbrev T : List ℕ
  T = record_tails rs

  abbrev H : List ℕ
  H = record_heads rs

  abbrev W : List ℕ
  W = record_weights rs

  -- one more is copied
  more : copied H (v * no_arc + G.lo) < copied H (v * no_arc + (e + 1))
  more =
      let p = is_arc G.here l in
      copied_less H (v * no_arc + G.lo) (v * no_arc + (e + 1)) e p.0 (omega (arith, p.1, further G.here l)) (omega (arith, p.1))

  pub in_rows : i < length rows
  in_rows = omega (arith, G.len, G.room, more, copied_most H (v * no_arc + (e + 1)))

  pub few_positions : i < 769 + no_arc
  few_positions = omega (arith, in_rows, G.len, size, C.few)

  module _ (small : entry rs e < 4294967296) where
    abbrev arc : ℕ
    arc = numbered e (entry rs e)

    abbrev rows₁ : List ℕ
    rows₁ = set rows i arc

    at_i : entry rows₁ i ≡ arc
    at_i = get_or-set_same rows i arc 0 in_rows

    other : (j : ℕ) → j ≢ i → entry rows₁ j ≡ entry rows j
    other j ne = get_or-set_other rows i j arc 0 ne

    number : row_number arc ≡ e
    number = omega arith

    record_of : arc % 4294967296 ≡ entry rs e
    record_of = omega arith

    here : RowArc T H W rows₁ v i
    here =
        row_arc at_i (omega (arith, number, (is_arc G.here l).0)) (ap (entry H) number ∙ (is_arc G.here l).1)
        (ap (λ (w : ℕ). (word_arc w).tail) record_of ∙ sym (tail_is rs e) ∙ ap (entry T) (sym number))
        (ap (λ (w : ℕ). (word_arc w).weight) record_of ∙ sym (weight_is rs e) ∙ ap (entry W) (sym number))

    own₁ : (j : ℕ) → j < i + 1 → from ≤ j → RowArc T H W rows₁ v j
    own₁ = below_more (λ j. from ≤ j → RowArc T H W rows₁ v j) i (λ j b a. arc_kept (other j (λ q. omega arith)) (G.own j a b)) (λ a. here)

    all₁ : (k : ℕ) → k < e + 1 → entry H k ≡ v → StandsBetween rows₁ from (i + 1) k
    all₁ =
        below_more (λ k. entry H k ≡ v → StandsBetween rows₁ from (i + 1) k) e (λ k b q. earlier k b q (dec_lt k G.lo))
        (λ q. record { at = i; from = G.forward; before = omega arith; is = ap row_number at_i ∙ number })
      where
        earlier : (k : ℕ) → k < e → entry H k ≡ v → Dec (k < G.lo) → StandsBetween rows₁ from (i + 1) k
        earlier k b q (yes t) =
            let B = between_kept {rows' = rows₁} (λ j f m. other j (λ r. omega arith)) (G.all k t q) in
            record { at = B.at; from = B.from; before = omega (arith, B.before); is = B.is }
        earlier k b q (no t) = absurd (none_between G.here l k (omega arith) b q)

    pub copying_next : Copying T H W before rows₁ v from (i + 1) (next_arc links e)
    copying_next = record {
      len = length-set rows i arc ∙ G.len;
      kept = λ j b. other j (λ q. omega (arith, G.forward)) ∙ G.kept j b;
      forward = omega (arith, G.forward);
      lo = e + 1;
      low = omega arith;
      here = next_is C G.here l;
      room = omega (arith, G.room, more);
      own = λ j a b. own₁ j b a;
      all = all₁;
    }

-- at the end of the chain
pub copying_end : (T H W before rows : List ℕ) (v from i e : ℕ) → length H ≤ no_arc → no_arc ≤ e → Copying T H W before rows v from i e → RowCopied T H W before rows v from i
copying_end T H W before rows v from i e few h G = record {
  len = G.len;
  kept = G.kept;
  forward = G.forward;
  room = omega (arith, G.room, copied_grows H (v * no_arc + G.lo) ((v + 1) * no_arc) (omega (arith, G.low)));
  row = record { own = G.own; all = λ k l q. go k l q (dec_lt k G.lo) };
}
  where
    go : (k : ℕ) → k < length H → entry H k ≡ v → Dec (k < G.lo) → StandsBetween rows from i k
    go k l q (yes t) = G.all k t q
    go k l q (no t) = absurd (none_left few G.here h k (omega arith) l q)
