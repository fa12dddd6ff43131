-- What phases start from, by what a preflow left.
use mathlib.Core.Path.{◌≡◌, sym, ap, ◌∙◌}
use mathlib.Core.Bool.{true, not, ◌&&◌, false≢true}
use mathlib.Core.List.{List}
use mathlib.Core.Logic.{◌≢◌, ⊎_elim}
use Prim.Native.Nat.{ℕ, ◌+◌, ◌-◌, ◌<◌, ◌≤◌}
use native.Mathlib.Omega.{arith}
use native.Mathlib.Decide.{ℕ_discrete}
use lib.Dec.{T, eqb, eqb→eq}
use lib.ListN.{length, set, length-set, length-replicate}
use borrow.Author.Tests.{eq-eqb}
use Rattle.prelude.specs.Lists.{all}
use Rattle.prelude.proofs.Booleans.{and_left, and_right, true→T, T→true, not→false}
use Rattle.packed_arcs.specs.Entries.{entry, zero_list, sum, flow_at}
use Rattle.packed_arcs.specs.PackedArcs.{tails_of, heads_of, costs_of}
use Rattle.packed_arcs.specs.Limits.{is_free}
use Rattle.packed_arcs.proofs.ArcColumns.{columns}
use Rattle.packed_arcs.proofs.ColumnSums.{flow_none}
use Rattle.packed_arcs.proofs.LentParts.{zero_at}
use Rattle.packed_arcs.proofs.LimitTests.{no_cost}
use Rattle.packed_arcs.proofs.ListLoops.{set_cases}
use Rattle.packed_arcs.proofs.Sums.{sum_at, entry_sum}
use Rattle.flow_moves.specs.Preflow.{PackedConserved, standing_at}
use Rattle.flow_moves.proofs.Standing.{standing_len, standing_sum, standing_here, standing_other}
use Rattle.flow_settling.specs.Settling.{settled, SolveReady, Prepared}

-- ---- what phases start from

module _ {arcs : List ℕ} {s t n : ℕ} (supply : ℕ) (R : SolveReady arcs s t n) where
  -- nothing is left over
  module _ {x left : List ℕ} (C : PackedConserved arcs (standing_at n s supply) x left) where
    total : sum left ≡ supply
    total = C.total ∙ standing_sum n s supply R.source

    size : length left ≡ n
    size = C.left_len ∙ standing_len n s supply

    pub at_most : (v : ℕ) → entry left v ≤ supply
    at_most v = omega (arith, entry_sum left v, total)

    pub amounts_len : length x ≡ length arcs
    amounts_len = C.x_len ∙ columns arcs

    module _ (ok : settled s t supply arcs left ≡ true) where
      tested : T (settled s t supply arcs left)
      tested = true→T (settled s t supply arcs left) ok

      two : T (not (eqb s t) && eqb (supply - entry left s) (entry left t))
      two = and_left (not (eqb s t) && eqb (supply - entry left s) (entry left t)) (all is_free arcs) tested

      apart : s ≢ t
      apart q = false≢true (sym (not→false (eqb s t) (and_left (not (eqb s t)) (eqb (supply - entry left s) (entry left t)) two)) ∙ eq-eqb s t q)

      arrived : supply - entry left s ≡ entry left t
      arrived = eqb→eq (supply - entry left s) (entry left t) (and_right (not (eqb s t)) (eqb (supply - entry left s) (entry left t)) two)

      free : (e : ℕ) → e < length arcs → entry (costs_of arcs) e ≡ 0
      free = no_cost arcs (T→true (all is_free arcs) (and_right (not (eqb s t) && eqb (supply - entry left s) (entry left t)) (all is_free arcs) tested))

      s_in : s < length left
      s_in = omega (arith, size, R.source)

      t_in : t < length left
      t_in = omega (arith, size, R.sink)

      others : (w : ℕ) → w ≢ s → w ≢ t → entry left w ≡ 0
      others w p q =
          let at_t : entry (set left s 0) t ≡ entry left t = ⊎_elim (λ z. absurd (apart (sym (z.0)))) (λ z. z.1) (set_cases left s 0 t s_in) in
          let in_t : t < length (set left s 0) = omega (arith, length-set left s 0, t_in) in
          let at_w : entry (set left s 0) w ≡ entry left w = ⊎_elim (λ z. absurd (p z.0)) (λ z. z.1) (set_cases left s 0 w s_in) in
          let at_w' : entry (set (set left s 0) t 0) w ≡ entry left w = ⊎_elim (λ z. absurd (q z.0)) (λ z. z.1 ∙ at_w) (set_cases (set left s 0) t 0 w in_t) in
          omega (arith, entry_sum (set (set left s 0) t 0) w, sum_at left s 0 s_in, sum_at (set left s 0) t 0 in_t, total, arrived, at_most s)

      abbrev left₁ : List ℕ
      left₁ = set left t 0

      abbrev need₁ : List ℕ
      need₁ = set (zero_list n) t (supply - entry left t)

      module _ (w : ℕ) where
        abbrev here : Type 0
        here = (entry left₁ w ≤ entry (standing_at n s supply) w) × (entry need₁ w ≤ entry (standing_at n t supply) w)
            × (flow_at (tails_of arcs) x w + entry left₁ w + entry (standing_at n t supply) w ≡ entry (standing_at n s supply) w + entry need₁ w + flow_at (heads_of arcs) x w)

        at_t : w ≡ t → here
        at_t q =
            let l : entry left₁ w ≡ 0 = ⊎_elim (λ p. p.1) (λ p. absurd (p.0 q)) (set_cases left t 0 w t_in) in
            let d : entry need₁ w ≡ supply - entry left t = ⊎_elim (λ p. p.1) (λ p. absurd (p.0 q)) (set_cases (zero_list n) t (supply - entry left t) w (omega (arith, length-replicate {A = ℕ} n 0, R.sink))) in
            let m : entry (standing_at n t supply) w ≡ supply = ap (entry (standing_at n t supply)) q ∙ standing_here n t supply R.sink in
            let z : entry (standing_at n s supply) w ≡ 0 = standing_other n s supply R.source w (λ p. apart (sym p ∙ q)) in
            (omega arith, omega arith, omega (arith, C.balance w, at_most t, ap (entry left) q))

        off_t : w ≢ t → here
        off_t q =
            let l : entry left₁ w ≡ entry left w = ⊎_elim (λ p. absurd (q p.0)) (λ p. p.1) (set_cases left t 0 w t_in) in
            let d : entry need₁ w ≡ 0 = ⊎_elim (λ p. absurd (q p.0)) (λ p. p.1 ∙ zero_at n w) (set_cases (zero_list n) t (supply - entry left t) w (omega (arith, length-replicate {A = ℕ} n 0, R.sink))) in
            let m : entry (standing_at n t supply) w ≡ 0 = standing_other n t supply R.sink w q in
            (omega (arith, less (ℕ_discrete w s)), omega arith, omega (arith, C.balance w))
          where
            less : Dec (w ≡ s) → entry left w ≤ entry (standing_at n s supply) w
            less (yes p) = omega (arith, ap (entry (standing_at n s supply)) p, standing_here n s supply R.source, at_most w)
            less (no p) = omega (arith, others w p q)

        at : here
        at = go (ℕ_discrete w t)
          where
            go : Dec (w ≡ t) → here
            go (yes q) = at_t q
            go (no q) = off_t q

      pub prepared_on : Prepared arcs s t supply n x left₁ need₁
      prepared_on = record {
        x_len = amounts_len;
        left_len = length-set left t 0 ∙ size;
        need_len = length-set (zero_list n) t (supply - entry left t) ∙ length-replicate n 0;
        within = λ e h. C.within e (omega (arith, columns arcs));
        free = λ e h r. free e h;
        left_less = λ w. (at w).0;
        need_less = λ w. (at w).1;
        balance = λ w. (at w).2;
      }

  -- everything starts anew
  pub prepared_anew : Prepared arcs s t supply n (zero_list (length arcs)) (standing_at n s supply) (standing_at n t supply)
  prepared_anew = record {
    x_len = length-replicate (length arcs) 0;
    left_len = standing_len n s supply;
    need_len = standing_len n t supply;
    within = λ e h. omega (arith, zero_at (length arcs) e);
    free = λ e h r. absurd (omega (arith, zero_at (length arcs) e));
    left_less = λ w. omega arith;
    need_less = λ w. omega arith;
    balance = λ w. omega (arith, flow_none (tails_of arcs) (length arcs) w, flow_none (heads_of arcs) (length arcs) w);
  }
