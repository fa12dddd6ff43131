-- Rows copied one behind the other.
use mathlib.Core.Path.{◌≡◌, refl, sym, subst₂, ◌∙◌}
use mathlib.Core.List.{List}
use mathlib.Core.Logic.{◌≢◌}
use Prim.Native.Nat.{ℕ, ◌+◌, ◌*◌, ◌<◌, ◌≤◌}
use native.Mathlib.Omega.{arith}
use lib.ListN.{length, set, length-set}
use lib.Seq.{get_or-set_same, get_or-set_other}
use borrow.Author.Count.{below_more}
use Rattle.packed_arcs.specs.Entries.{entry}
use Rattle.arc_index.specs.ArcIndex.{no_arc}
use Rattle.match_state.specs.Rows.{Rows}
use Rattle.match_rows.specs.Copying.{copied, Row, RowCopied}
use Rattle.match_rows.proofs.CopiedArcs.{copied_most}
use Rattle.match_rows.proofs.OneRow.{row_kept}
use Rattle.match_rows.proofs.OtherOrder.{loose_front}

-- The front of the row of w is the row, and none of its arcs is said to be in order.
pub record Loose (rows : List ℕ) (w : ℕ) : Type 0 where
  pub forward : entry rows w ≤ entry rows (w + 1)
  pub end : entry rows (257 + w) ≡ entry rows (w + 1)
  pub none : entry rows (513 + w) ≡ 0

-- The rows of the vertices below v are copied, and that of v begins behind them.
pub record RowsBelow (T H W rows : List ℕ) (v : ℕ) : Type 0 where
  pub len : length rows ≡ 769 + length H
  pub high : (w : ℕ) → w ≤ v → entry rows w ≤ entry rows v
  pub low : (w : ℕ) → w ≤ v → 769 ≤ entry rows w
  pub room : entry rows v ≤ 769 + copied H (v * no_arc)
  pub fronts : (w : ℕ) → w < v → Loose rows w
  pub each : (w : ℕ) → w < v → Row T H W rows w (entry rows w) (entry rows (w + 1))

-- the row of v is copied, and its end noted
module _ (T H W rows rows₁ : List ℕ) (v end : ℕ) (h : v < 256) (B : RowsBelow T H W rows v) (R : RowCopied T H W rows rows₁ v (entry rows v) end) where
  abbrev rows₂ : List ℕ
  rows₂ = set (set (set rows₁ (v + 1) end) (257 + v) end) (513 + v) 0

  size₁ : length (set rows₁ (v + 1) end) ≡ 769 + length H
  size₁ = length-set rows₁ (v + 1) end ∙ R.len ∙ B.len

  size₂ : length (set (set rows₁ (v + 1) end) (257 + v) end) ≡ 769 + length H
  size₂ = length-set (set rows₁ (v + 1) end) (257 + v) end ∙ size₁

  at_count : entry rows₂ (513 + v) ≡ 0
  at_count = get_or-set_same (set (set rows₁ (v + 1) end) (257 + v) end) (513 + v) 0 0 (omega (arith, size₂))

  -- what stands elsewhere than the count
  counted : (j : ℕ) → j ≢ 513 + v → entry rows₂ j ≡ entry (set (set rows₁ (v + 1) end) (257 + v) end) j
  counted j n = get_or-set_other (set (set rows₁ (v + 1) end) (257 + v) end) (513 + v) j 0 0 n

  at_end : entry rows₂ (v + 1) ≡ end
  at_end =
      counted (v + 1) (λ q. omega arith)
      ∙ get_or-set_other (set rows₁ (v + 1) end) (257 + v) (v + 1) end 0 (λ q. omega arith)
      ∙ get_or-set_same rows₁ (v + 1) end 0 (omega (arith, R.len, B.len))

  at_front : entry rows₂ (257 + v) ≡ end
  at_front = counted (257 + v) (λ q. omega arith) ∙ get_or-set_same (set rows₁ (v + 1) end) (257 + v) end 0 (omega (arith, size₁))

  other : (j : ℕ) → j ≢ v + 1 → j ≢ 257 + v → j ≢ 513 + v → entry rows₂ j ≡ entry rows₁ j
  other j ne nf nc = counted j nc ∙ get_or-set_other (set rows₁ (v + 1) end) (257 + v) j end 0 nf ∙ get_or-set_other rows₁ (v + 1) j end 0 ne

  -- what stood before the row of v
  same : (j : ℕ) → j ≢ v + 1 → j ≢ 257 + v → j ≢ 513 + v → j < entry rows v → entry rows₂ j ≡ entry rows j
  same j ne nf nc l = other j ne nf nc ∙ R.kept j l

  begin : (w : ℕ) → w ≤ v → entry rows₂ w ≡ entry rows w
  begin w l = same w (λ q. omega arith) (λ q. omega arith) (λ q. omega arith) (omega (arith, B.low v (omega arith)))

  noted : (w : ℕ) → w < v → Loose rows₂ w
  noted w l =
      let low = B.low v (omega arith) in
      let L = B.fronts w l in
      record {
        forward = rw (begin w (omega arith), begin (w + 1) (omega arith)) L.forward;
        end = same (257 + w) (λ q. omega arith) (λ q. omega arith) (λ q. omega arith) (omega arith) ∙ L.end ∙ sym (begin (w + 1) (omega arith));
        none = same (513 + w) (λ q. omega arith) (λ q. omega arith) (λ q. omega arith) (omega arith) ∙ L.none;
      }

  each_kept : (w : ℕ) → w < v → Row T H W rows₂ w (entry rows₂ w) (entry rows₂ (w + 1))
  each_kept w l =
      let low = B.low w (omega arith) in
      subst₂ (λ (a b : ℕ). Row T H W rows₂ w a b) (sym (begin w (omega arith))) (sym (begin (w + 1) (omega arith)))
      (row_kept (λ j a b. same j (λ r. omega arith) (λ r. omega arith) (λ r. omega arith) (omega (arith, B.high (w + 1) (omega arith)))) (B.each w l))

  last : Row T H W rows₂ v (entry rows₂ v) (entry rows₂ (v + 1))
  last =
      let low = B.low v (omega arith) in
      subst₂ (λ (a b : ℕ). Row T H W rows₂ v a b) (sym (begin v (omega arith))) (sym at_end)
      (row_kept (λ j a b. other j (λ r. omega arith) (λ r. omega arith) (λ r. omega arith)) R.row)

  pub rows_next : RowsBelow T H W rows₂ (v + 1)
  rows_next = record {
    len = length-set (set (set rows₁ (v + 1) end) (257 + v) end) (513 + v) 0 ∙ size₂;
    high = λ w l.
        below_more (λ w. entry rows₂ w ≤ entry rows₂ (v + 1)) (v + 1) (λ w l. omega (arith, begin w (omega arith), at_end, B.high w (omega arith), R.forward)) (omega arith) w (omega arith);
    low = λ w l.
        below_more (λ w. 769 ≤ entry rows₂ w) (v + 1) (λ w l. omega (arith, begin w (omega arith), B.low w (omega arith))) (omega (arith, at_end, B.low v (omega arith), R.forward)) w (omega arith);
    room = omega (arith, at_end, R.room);
    fronts = below_more (λ w. Loose rows₂ w) v noted (record { forward = omega (arith, begin v (omega arith), at_end, R.forward); end = at_front ∙ sym at_end; none = at_count });
    each = below_more (λ w. Row T H W rows₂ w (entry rows₂ w) (entry rows₂ (w + 1))) v each_kept last;
  }

pub rows_end : (T H W rows : List ℕ) (v : ℕ) → length H ≤ no_arc → 256 ≤ v → RowsBelow T H W rows v → Rows T H W rows
rows_end T H W rows v few h B = record {
  few = few;
  len = B.len;
  begins = λ w l. B.low w (omega arith);
  ends = λ w l. omega (arith, B.high w (omega arith), B.room, copied_most H (v * no_arc), B.len);
  fronts = λ w l. let L = B.fronts w (omega arith) in loose_front (omega (arith, L.forward, L.end)) (omega (arith, L.end)) L.none;
  own = λ w i l. (B.each w (omega arith)).own i;
  all = λ e l s. let P = (B.each (entry H e) (omega arith)).all e l refl in record { at = P.at; from = P.from; before = P.before; is = P.is };
}
