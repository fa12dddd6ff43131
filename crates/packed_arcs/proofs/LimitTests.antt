-- The tests of what a flow search is handed, and what it is to pass them.
use mathlib.Core.Path.{◌≡◌, ◌∙◌}
use mathlib.Core.Bool.{true, ◌&&◌}
use mathlib.Core.List.{List}
use Prim.Native.Nat.{ℕ, ◌<◌, ◌≤◌}
use native.Mathlib.Omega.{arith}
use native.Mathlib.Decide.{dec_lt}
use lib.Dec.{T, eqb, ltb, leb, eqb→eq, leb→le, ltb→lt}
use lib.ListN.{length, length-map, get_or-eq_default}
use Rattle.prelude.specs.Lists.{all}
use Rattle.prelude.proofs.Booleans.{and_left, and_right, true→T}
use Rattle.packed_arcs.specs.Entries.{entry}
use Rattle.packed_arcs.specs.PackedArcs.{tail_of, head_of, cost_of, tails_of, heads_of, costs_of}
use Rattle.packed_arcs.specs.Limits.{arc_fits, arcs_fit, is_free, sendable}
use Rattle.packed_arcs.proofs.ListLoops.{each_entry}
use Rattle.packed_arcs.proofs.ArcColumns.{tail_at, head_at, cost_at}

-- ---- what it is to pass them

pub record Fitting (arcs : List ℕ) (amounts n : ℕ) : Type 0 where
  pub small : n ≤ 255
  pub few : length arcs ≤ 4096
  pub one_each : amounts ≡ length arcs
  pub each : (e : ℕ) → e < length arcs → T (arc_fits n (entry arcs e))

pub fitting : (arcs : List ℕ) (amounts n : ℕ) → T (arcs_fit arcs amounts n) → Fitting arcs amounts n
fitting arcs amounts n t =
    let three = and_left (leb n 255 && leb (length arcs) 4096 && eqb amounts (length arcs)) (all (arc_fits n) arcs) t in
    let two = and_left (leb n 255 && leb (length arcs) 4096) (eqb amounts (length arcs)) three in
    record {
      small = leb→le n 255 (and_left (leb n 255) (leb (length arcs) 4096) two);
      few = leb→le (length arcs) 4096 (and_right (leb n 255) (leb (length arcs) 4096) two);
      one_each = eqb→eq amounts (length arcs) (and_right (leb n 255 && leb (length arcs) 4096) (eqb amounts (length arcs)) three);
      each = each_entry (arc_fits n) arcs (and_right (leb n 255 && leb (length arcs) 4096 && eqb amounts (length arcs)) (all (arc_fits n) arcs) t);
    }

pub record Sendable (arcs : List ℕ) (t amounts n keys : ℕ) : Type 0 where
  pub fit : Fitting arcs amounts n
  pub below : t < n
  pub key_len : keys ≡ n

pub sendable_facts : (arcs : List ℕ) (t amounts n keys : ℕ) → sendable arcs t amounts n keys ≡ true → Sendable arcs t amounts n keys
sendable_facts arcs t amounts n keys ok =
    let h = true→T (sendable arcs t amounts n keys) ok in
    let two = and_left (ltb t n && eqb keys n) (arcs_fit arcs amounts n) h in
    record {
      fit = fitting arcs amounts n (and_right (ltb t n && eqb keys n) (arcs_fit arcs amounts n) h);
      below = ltb→lt t n (and_left (ltb t n) (eqb keys n) two);
      key_len = eqb→eq keys n (and_right (ltb t n) (eqb keys n) two);
    }

-- ---- the columns of arcs that fit

module _ {arcs : List ℕ} {amounts n : ℕ} (F : Fitting arcs amounts n) where
  pub tail_below : (e : ℕ) → e < length arcs → entry (tails_of arcs) e < n
  tail_below e h =
      let k = entry arcs e in
      let t = and_left (ltb (tail_of k) n && ltb (head_of k) n) (leb (cost_of k) 32767) (F.each e h) in
      omega (arith, tail_at arcs e, ltb→lt (tail_of k) n (and_left (ltb (tail_of k) n) (ltb (head_of k) n) t))

  pub head_below : (e : ℕ) → e < length arcs → entry (heads_of arcs) e < n
  head_below e h =
      let k = entry arcs e in
      let t = and_left (ltb (tail_of k) n && ltb (head_of k) n) (leb (cost_of k) 32767) (F.each e h) in
      omega (arith, head_at arcs e, ltb→lt (head_of k) n (and_right (ltb (tail_of k) n) (ltb (head_of k) n) t))

  pub cost_low : (e : ℕ) → entry (costs_of arcs) e ≤ 32767
  cost_low e = go (dec_lt e (length arcs))
    where
      go : Dec (e < length arcs) → entry (costs_of arcs) e ≤ 32767
      go (yes h) =
          let k = entry arcs e in
          omega (arith, cost_at arcs e, leb→le (cost_of k) 32767 (and_right (ltb (tail_of k) n && ltb (head_of k) n) (leb (cost_of k) 32767) (F.each e h)))
      go (no h) = omega (arith, get_or-eq_default (costs_of arcs) 0 {n = e} (omega (arith, length-map arcs cost_of)))

-- arcs that cost nothing
pub no_cost : (arcs : List ℕ) → all is_free arcs ≡ true → (e : ℕ) → e < length arcs → entry (costs_of arcs) e ≡ 0
no_cost arcs ok e h = cost_at arcs e ∙ eqb→eq (cost_of (entry arcs e)) 0 (each_entry is_free arcs (true→T (all is_free arcs) ok) e h)
