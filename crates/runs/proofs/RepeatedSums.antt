-- The sums over the repeated arcs, as the panel's machine words hold them: small enough, and what one load more makes of them.
use mathlib.Core.Path.{◌≡◌, sym, ◌∙◌, ap}
use mathlib.Core.Logic.{inl, inr}
use mathlib.Core.Bool.{Bool, true, false}
use mathlib.Core.List.{List, [], ◌∷◌, ◌++◌}
use Prim.Native.Nat.{ℕ, ◌+◌, ◌*◌, ◌≤◌, ◌<◌}
use native.Mathlib.Nat.{mul-le-mul}
use native.Mathlib.Omega.{arith}
use lib.Dec.{T}
use lib.IntN.{ℤ, pos, neg_ℤ, ◌+ℤ◌, ◌-ℤ◌}
use lib.ListN.{length, set, length-set, length-map}
use lib.Signed.{◌≤ℤ◌, le_z}
use Rattle.prelude.specs.Choice.{indicator}
use Rattle.prelude.specs.Lists.{Every, list_to, at}
use Rattle.prelude.proofs.Booleans.{both}
use Rattle.prelude.proofs.Integers.{pos_part, neg_part, signed, parts_add, parts_sub, parts_neg, parts_min}
use Rattle.prelude.proofs.Lists.{every_map, image_every}
use Rattle.words.specs.Bounded.{small, bounded_sum}
use Rattle.words.proofs.Signs.{plus_small, minus_small}
use Rattle.arc_records.specs.Limits.{most_vertices, most_arcs, most_weight}
use Rattle.arc_records.specs.Arcs.{Arc, delta}
use Rattle.network.specs.Network.{Load, arcs, sum_of, leaving, entering, balance, crosses, sum_across}
use Rattle.network.specs.Question.{Question, shortest_path, maximum_flow, assignment, acyclicity, unasked, unit_cost, units_most, WeightWithin}
use Rattle.network.specs.Certificate.{Claim, of_value, of_none, rules_for}
use Rattle.network.proofs.Append.{sum_of_snoc, arcs_snoc, across_snoc, balance_snoc, sum_of_most, across_most}
use Rattle.network.proofs.Sound.{balance_parts}
use Rattle.network.proofs.Sums.{Compared, compared, sum_of_none}
use Rattle.vertex_arrays.specs.Arrays.{taken_at, moved}
use Rattle.runs.proofs.VertexArrays.{length_list_to, at_list_to, list_to_is, changed}

-- a load between vertices that there are, and with numbers no larger than the greatest weight
pub record LoadWithin (q : Question) (l : Load) : Type 0 where
  pub tail_below : l.arc.tail < most_vertices
  pub head_below : l.arc.head < most_vertices
  pub amount_within : l.amount ≤ most_weight
  pub cost_within : unit_cost q l.arc ≤ most_weight
  pub units_within : units_most q l.arc ≤ most_weight

-- whatever is asked and claimed, an arc carries no more units than the greatest weight, and a unit costs no more
pub record UnitsWithin (q : Question) (c : Claim) (e : Arc) : Type 0 where
  pub most_within : (rules_for q c).most e ≤ most_weight
  pub cost_within : unit_cost q e ≤ most_weight
  pub units_within : units_most q e ≤ most_weight

pub units_limited : (q : Question) (c : Claim) (e : Arc) → WeightWithin e → UnitsWithin q c e
units_limited shortest_path of_value e h = record { most_within = omega arith; cost_within = h; units_within = omega arith }
units_limited shortest_path of_none e h = record { most_within = omega arith; cost_within = h; units_within = omega arith }
units_limited maximum_flow of_value e h = record { most_within = h; cost_within = omega arith; units_within = h }
units_limited maximum_flow of_none e h = record { most_within = omega arith; cost_within = omega arith; units_within = h }
units_limited assignment of_value e h = record { most_within = omega arith; cost_within = h; units_within = omega arith }
units_limited assignment of_none e h = record { most_within = omega arith; cost_within = h; units_within = omega arith }
units_limited acyclicity of_value e h = record { most_within = omega arith; cost_within = omega arith; units_within = omega arith }
units_limited acyclicity of_none e h = record { most_within = omega arith; cost_within = omega arith; units_within = omega arith }
units_limited unasked c e h = record { most_within = omega arith; cost_within = omega arith; units_within = omega arith }

-- ---- small numbers

-- 2 ^ 61
abbrev limit : ℕ
limit = 2305843009213693952

small_parts : (z : ℤ) → pos_part z ≤ limit → neg_part z ≤ limit → T (small z)
small_parts z p q =
    let low : neg_ℤ (pos limit) ≤ℤ z = omega (signed, parts_neg (pos limit)) in
    let high : z ≤ℤ pos limit = omega signed in
    both (le_z (neg_ℤ (pos limit)) z) (le_z z (pos limit)) low.le high.le

plus_pos : (a b : ℕ) → a ≤ limit → b ≤ limit → bounded_sum (pos a) (pos b) ≡ pos (a + b)
plus_pos a b h k = plus_small (pos a) (pos b) (small_parts (pos a) h (omega arith)) (small_parts (pos b) k (omega arith))

at_one_end : (x u v : ℕ) → x * delta u v ≤ x
at_one_end x u v = go (compared u v)
  where
    go : Compared u v → x * delta u v ≤ x
    go (inl (e, i)) = rw i (omega arith)
    go (inr (ne, i)) = rw i (omega arith)

part_of : (w : ℕ) (b : Bool) → w * indicator b ≤ w
part_of w true = omega arith
part_of w false = omega arith

module _ (q : Question) (f : List Load) (loads : Every (LoadWithin q) f) (few : length f ≤ most_arcs) where
  -- no arc ends at a vertex past the end
  pub balances_at : at (list_to most_vertices (λ v. balance v f)) ≡ (λ v. balance v f)
  balances_at = at_list_to most_vertices (λ v. balance v f) past
    where
      past : (v : ℕ) → most_vertices ≤ v → balance v f ≡ pos 0
      past v h =
          let out = sum_of_none (λ e. e.tail) v f (every_map (λ l (k : LoadWithin q l). let b = k.tail_below in omega arith) f loads) in
          let in' = sum_of_none (λ e. e.head) v f (every_map (λ l (k : LoadWithin q l). let b = k.head_below in omega arith) f loads) in
          omega (signed, balance_parts (leaving v f) (entering v f), parts_min (balance v f))

  at_an_end : (end : Arc → ℕ) (v : ℕ) → sum_of (λ e. delta (end e) v) f ≤ most_arcs * most_weight
  at_an_end end v =
      let most = sum_of_most (λ e. delta (end e) v) most_weight f (every_map (λ l (k : LoadWithin q l). let b = k.amount_within in omega (arith, at_one_end l.amount (end l.arc) v)) f loads) in
      omega arith

  balance_within : (v : ℕ) → (pos_part (balance v f) ≤ most_arcs * most_weight) × (neg_part (balance v f) ≤ most_arcs * most_weight)
  balance_within v =
      let out = at_an_end (λ e. e.tail) v in
      let in' = at_an_end (λ e. e.head) v in
      omega (arith, balance_parts (leaving v f) (entering v f), parts_min (balance v f))

  module _ (l : Load) (h : LoadWithin q l) where
    pub balances_more : moved (list_to most_vertices (λ v. balance v f)) l.arc.tail l.arc.head l.amount ≡ list_to most_vertices (λ v. balance v (f ++ l ∷ []))
    unfolding moved
    balances_more =
        ap (λ (z : ℤ). taken_at (set old a z) b x) (plus_small (at old a) (pos x) (rw (old_at a) old_small) x_small)
        ∙ ap (set mid b) (minus_small (at mid b) (pos x) (rw (mid_at b) (sum_small b)) x_small)
        ∙ list_to_is (set mid b (at mid b -ℤ pos x)) most_vertices (λ v. balance v (f ++ l ∷ [])) (length-set mid b (at mid b -ℤ pos x) ∙ mid_length)
        (λ v k. changed ◌-ℤ◌ (λ z. omega (signed, parts_sub z (pos 0))) mid b x (omega (arith, mid_length, h.head_below)) v
        ∙ ap (λ (z : ℤ). z -ℤ pos (x * delta b v)) (mid_at v) ∙ sym (balance_snoc v f l))
      where
        a : ℕ
        a = l.arc.tail

        b : ℕ
        b = l.arc.head

        x : ℕ
        x = l.amount

        old : List ℤ
        old = list_to most_vertices (λ v. balance v f)

        mid : List ℤ
        mid = set old a (at old a +ℤ pos x)

        mid_length : length mid ≡ most_vertices
        mid_length = length-set old a (at old a +ℤ pos x) ∙ length_list_to most_vertices (λ v. balance v f)

        old_at : (v : ℕ) → at old v ≡ balance v f
        old_at v = ap (λ (g : ℕ → ℤ). g v) balances_at

        mid_at : (v : ℕ) → at mid v ≡ balance v f +ℤ pos (x * delta a v)
        mid_at v =
            changed ◌+ℤ◌ (λ z. omega (signed, parts_add z (pos 0))) old a x (omega (arith, length_list_to most_vertices (λ v. balance v f), h.tail_below)) v
            ∙ ap (λ (z : ℤ). z +ℤ pos (x * delta a v)) (old_at v)

        x_small : T (small (pos x))
        x_small = small_parts (pos x) (omega (arith, h.amount_within)) (omega arith)

        old_small : T (small (balance a f))
        old_small = let w = balance_within a in small_parts (balance a f) (omega arith) (omega arith)

        sum_small : (v : ℕ) → T (small (balance v f +ℤ pos (x * delta a v)))
        sum_small v =
            let w = balance_within v in
            let k = at_one_end x a v in
            let q = h.amount_within in
            let e = parts_add (balance v f) (pos (x * delta a v)) in
            let m = parts_min (balance v f +ℤ pos (x * delta a v)) in
            small_parts (balance v f +ℤ pos (x * delta a v)) (omega arith) (omega arith)

    pub cost_more : bounded_sum (pos (sum_of (unit_cost q) f)) (pos (l.amount * unit_cost q l.arc)) ≡ pos (sum_of (unit_cost q) (f ++ l ∷ []))
    cost_more =
        let most = sum_of_most (unit_cost q) (most_weight * most_weight) f (every_map (λ b (k : LoadWithin q b). mul-le-mul k.amount_within k.cost_within) f loads) in
        plus_pos (sum_of (unit_cost q) f) (l.amount * unit_cost q l.arc) (omega arith) (omega (arith, mul-le-mul h.amount_within h.cost_within))
        ∙ ap pos (sym (sum_of_snoc (unit_cost q) f l))

    pub cut_more : (m : ℕ → Bool) → bounded_sum (pos (sum_across (units_most q) m (arcs f))) (pos (units_most q l.arc * indicator (crosses m l.arc)))
        ≡ pos (sum_across (units_most q) m (arcs (f ++ l ∷ [])))
    cut_more m =
        let most = across_most (units_most q) m most_weight (arcs f) (image_every (λ b. b.arc) (λ e. units_most q e * indicator (crosses m e) ≤ most_weight) f
        (every_map (λ b (k : LoadWithin q b). let w = k.units_within in omega (arith, part_of (units_most q b.arc) (crosses m b.arc))) f loads)) in
        plus_pos (sum_across (units_most q) m (arcs f)) (units_most q l.arc * indicator (crosses m l.arc)) (omega (arith, length-map f (λ b. b.arc)))
        (let w = h.units_within in omega (arith, part_of (units_most q l.arc) (crosses m l.arc)))
        ∙ ap pos (sym (ap (sum_across (units_most q) m) (arcs_snoc f l) ∙ across_snoc (units_most q) m (arcs f) l.arc))
