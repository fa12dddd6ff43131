-- Rows stay rows where two positions of one row are exchanged, or another front is noted.
use mathlib.Core.Path.{◌≡◌, sym, ap, subst, ◌∙◌}
use mathlib.Core.List.{List}
use mathlib.Core.Logic.{◌≢◌}
use Prim.Native.Nat.{ℕ, ◌+◌, ◌-◌, ◌<◌, ◌≤◌}
use native.Mathlib.Decide.{ℕ_discrete}
use native.Mathlib.Omega.{arith}
use lib.ListN.{length, get_or, set, length-set}
use lib.Seq.{get_or-set_same, get_or-set_other}
use Rattle.packed_arcs.specs.Entries.{entry}
use Rattle.match_state.specs.Rows.{row_number, Front, Rows}
use Rattle.match_rows.specs.Parting.{Exchanged, FrontNoted}
use Rattle.match_rows.proofs.OneRow.{arc_kept}

-- The number x stands at one of the positions from start on, up to end - 1.
pub record Held (rows : List ℕ) (start end x : ℕ) : Type 0 where
  pub at : ℕ
  pub from : start ≤ at
  pub before : at < end
  pub is : entry rows at ≡ x

-- each row holds what it held, in any order
module _ {T H W rows rows' : List ℕ} (R : Rows T H W rows) (len : length rows' ≡ length rows) (same : (v : ℕ) → v ≤ 256 → entry rows' v ≡ entry rows v)
    (fronts' : (v : ℕ) → v < 256 → Front rows' v (entry rows' (257 + v)) (entry rows' (513 + v)))
    (stood : (v k : ℕ) → v < 256 → entry rows v ≤ k → k < entry rows (v + 1) → Held rows (entry rows v) (entry rows (v + 1)) (entry rows' k))
    (stands : (v k : ℕ) → v < 256 → entry rows v ≤ k → k < entry rows (v + 1) → Held rows' (entry rows v) (entry rows (v + 1)) (entry rows k)) where
  rows_rearranged : Rows T H W rows'
  rows_rearranged = record {
    few = R.few;
    len = len ∙ R.len;
    begins = λ v l. omega (arith, same v l, R.begins v l);
    ends = λ v l. omega (arith, same v l, R.ends v l);
    fronts = fronts';
    own = λ v k l f b.
        let S = stood v k l (omega (arith, same v (omega arith))) (omega (arith, same (v + 1) (omega arith))) in
        arc_kept (sym S.is) (R.own v S.at l S.from S.before);
    all = λ e l s.
        let I = R.all e l s in
        let S = stands (entry H e) I.at s I.from I.before in
        record {
          at = S.at;
          from = omega (arith, S.from, same (entry H e) (omega arith));
          before = omega (arith, S.before, same (entry H e + 1) (omega arith));
          is = ap row_number S.is ∙ I.is;
        };
  }

-- a front is kept where its arcs are
front_kept : {rows rows' : List ℕ} {v s c : ℕ} → entry rows' v ≡ entry rows v → entry rows' (v + 1) ≡ entry rows (v + 1) → ((k : ℕ) → entry rows v ≤ k → k < s → entry rows' k ≡ entry rows k)
    → Front rows v s c → Front rows' v s c
front_kept {rows} {rows'} {v} {s} {c} p q kept F = record {
  within = omega (arith, q, F.within);
  many = omega (arith, p, F.many);
  two = F.two;
  ordered = λ d j l f g.
      let m = F.many in
      let f₀ = the_start j f in
      rw (kept (s - d - 1) (omega arith) (omega arith), kept j f₀ (omega arith)) (F.ordered d j l f₀ g);
}
  where
    the_start : (j : ℕ) → entry rows' v ≤ j → entry rows v ≤ j
    the_start j f = omega (arith, p)

-- no arc of it is said to be in order
pub loose_front : {rows : List ℕ} {v s c : ℕ} → entry rows v ≤ s → s ≤ entry rows (v + 1) → c ≡ 0 → Front rows v s c
loose_front f w z = record { within = w; many = omega (arith, z); two = omega (arith, z); ordered = λ d j l. absurd (omega (arith, z)) }

-- ---- two positions exchanged

pub exchanged : {Z : Type 0} {rows rows' : List ℕ} {i j : ℕ} → length rows' ≡ length rows → ((d : ℕ) → get_or rows' i d ≡ get_or rows j d) × ((d : ℕ) → get_or rows' j d ≡ get_or rows i d) × ((k d : ℕ) → k ≢ i → k ≢ j → get_or rows' k d ≡ get_or rows k d) × Z
    → Exchanged rows rows' i j
exchanged l S = record { len = l; left = S.0 0; right = S.1 0; others = λ k a b. S.2 k 0 a b }

pub exchanged_back : {rows rows' : List ℕ} {i j : ℕ} → Exchanged rows rows' i j → Exchanged rows' rows i j
exchanged_back E = record { len = sym E.len; left = sym E.right; right = sym E.left; others = λ k a b. sym (E.others k a b) }

-- what stood at k stands between the same bounds, where both or none of the two positions are between them
pub still_held : {rows rows' : List ℕ} {i j : ℕ} → Exchanged rows rows' i j → (start end : ℕ) → (start ≤ i → i < end → (start ≤ j) × (j < end))
    → (start ≤ j → j < end → (start ≤ i) × (i < end)) → (k : ℕ) → start ≤ k → k < end → Held rows' start end (entry rows k)
still_held {rows} {rows'} {i} {j} E start end there here k f b = go (ℕ_discrete k i) (ℕ_discrete k j)
  where
    go : Dec (k ≡ i) → Dec (k ≡ j) → Held rows' start end (entry rows k)
    go (yes p) d = let t = there (omega arith) (omega arith) in record { at = j; from = t.0; before = t.1; is = E.right ∙ ap (entry rows) (sym p) }
    go (no p) (yes q) = let t = here (omega arith) (omega arith) in record { at = i; from = t.0; before = t.1; is = E.left ∙ ap (entry rows) (sym q) }
    go (no p) (no q) = record { at = k; from = f; before = b; is = E.others k p q }

-- in a row of which nothing is in order
module _ {T H W rows rows' : List ℕ} {b i j : ℕ} (R : Rows T H W rows) (small : b < 256) (loose : entry rows (513 + b) ≡ 0) (E : Exchanged rows rows' i j) (i-from : entry rows b ≤ i) (i_before : i < entry rows (b + 1))
    (j_from : entry rows b ≤ j) (j_before : j < entry rows (b + 1)) where
  -- the rows begin after all of what says where they are
  pub before_rows : (k : ℕ) → k < 769 → entry rows' k ≡ entry rows k
  before_rows k l = E.others k (λ q. omega (arith, R.begins b (omega arith))) (λ q. omega (arith, R.begins b (omega arith)))

  begins_kept : (v : ℕ) → v ≤ 256 → entry rows' v ≡ entry rows v
  begins_kept v l = before_rows v (omega arith)

  -- a position in the row of b is in no other row
  only_row : (v k : ℕ) → v < 256 → entry rows b ≤ k → k < entry rows (b + 1) → entry rows v ≤ k → k < entry rows (v + 1) → b ≡ v
  only_row v k l f g p q = sym (R.own b k small f g).head ∙ (R.own v k l p q).head

  in_row : (v x : ℕ) → entry rows b ≤ x → x < entry rows (b + 1) → b ≡ v → (entry rows v ≤ x) × (x < entry rows (v + 1))
  in_row v x f g q = subst (λ (u : ℕ). (entry rows u ≤ x) × (x < entry rows (u + 1))) q (f, g)

  pub rows_exchanged : Rows T H W rows'
  rows_exchanged =
      rows_rearranged R E.len begins_kept (λ v l. rw (before_rows (257 + v) (omega arith), before_rows (513 + v) (omega arith)) (front v l (ℕ_discrete b v)))
      (λ v k l. still_held (exchanged_back E) (entry rows v) (entry rows (v + 1)) (there v l) (here v l) k)
      (λ v k l. still_held E (entry rows v) (entry rows (v + 1)) (there v l) (here v l) k)
    where
      there : (v : ℕ) → v < 256 → entry rows v ≤ i → i < entry rows (v + 1) → (entry rows v ≤ j) × (j < entry rows (v + 1))
      there v l f g = in_row v j j_from j_before (only_row v i l i-from i_before f g)

      here : (v : ℕ) → v < 256 → entry rows v ≤ j → j < entry rows (v + 1) → (entry rows v ≤ i) × (i < entry rows (v + 1))
      here v l f g = in_row v i i-from i_before (only_row v j l j_from j_before f g)

      front : (v : ℕ) → v < 256 → Dec (b ≡ v) → Front rows' v (entry rows (257 + v)) (entry rows (513 + v))
      front v l (yes q) =
          let F = R.fronts v l in
          loose_front (omega (arith, F.many, begins_kept v (omega arith))) (omega (arith, F.within, begins_kept (v + 1) (omega arith))) (ap (λ (u : ℕ). entry rows (513 + u)) (sym q) ∙ loose)
      front v l (no n) =
          let F = R.fronts v l in
          front_kept (begins_kept v (omega arith)) (begins_kept (v + 1) (omega arith))
          (λ k f g.
          E.others k (λ q. n (only_row v i l i-from i_before (omega (arith, q)) (omega (arith, q, F.within)))) (λ q. n (only_row v j l j_from j_before (omega (arith, q)) (omega (arith, q, F.within)))))
          F

-- ---- another front noted

-- only that nothing is in order
pub loosened : (rows : List ℕ) (b : ℕ) → 513 + b < length rows → FrontNoted rows (set rows (513 + b) 0) b (entry rows (257 + b)) 0
loosened rows b m = record {
  len = length-set rows (513 + b) 0;
  end = get_or-set_other rows (513 + b) (257 + b) 0 0 (λ q. omega arith);
  count = get_or-set_same rows (513 + b) 0 0 m;
  others = λ k p q. get_or-set_other rows (513 + b) k 0 0 q;
}

module _ {T H W rows rows' : List ℕ} {b s c : ℕ} (R : Rows T H W rows) (small : b < 256) (N : FrontNoted rows rows' b s c) where
  pub noted_begins : (v : ℕ) → v ≤ 256 → entry rows' v ≡ entry rows v
  noted_begins v l = N.others v (λ q. omega arith) (λ q. omega arith)

  pub noted_position : (k : ℕ) → 769 ≤ k → entry rows' k ≡ entry rows k
  noted_position k f = N.others k (λ q. omega arith) (λ q. omega arith)

  pub rows_noted : Front rows b s c → Rows T H W rows'
  rows_noted F =
      rows_rearranged R N.len noted_begins (λ v l. go v l (ℕ_discrete v b))
      (λ v k l f g. record { at = k; from = f; before = g; is = sym (position v k l f) })
      (λ v k l f g. record { at = k; from = f; before = g; is = position v k l f })
    where
      position : (v k : ℕ) → v < 256 → entry rows v ≤ k → entry rows' k ≡ entry rows k
      position v k l f = noted_position k (omega (arith, R.begins v (omega arith)))

      moved : (v s₁ c₁ : ℕ) → v < 256 → Front rows v s₁ c₁ → Front rows' v s₁ c₁
      moved v s₁ c₁ l = front_kept (noted_begins v (omega arith)) (noted_begins (v + 1) (omega arith)) (λ k f g. position v k l f)

      go : (v : ℕ) → v < 256 → Dec (v ≡ b) → Front rows' v (entry rows' (257 + v)) (entry rows' (513 + v))
      go v l (yes q) = subst (λ (u : ℕ). Front rows' u (entry rows' (257 + u)) (entry rows' (513 + u))) (sym q) (rw (N.end, N.count) (moved b s c small F))
      go v l (no q) =
          rw (N.others (257 + v) (λ r. omega arith) (λ r. omega arith), N.others (513 + v) (λ r. omega arith) (λ r. omega arith)) (moved v (entry rows (257 + v)) (entry rows (513 + v)) l (R.fronts v l))
