-- A flow search's columns and the network's loads: the same sums, facts carried over, sums over loads, and marks.
use mathlib.Core.Path.{◌≡◌, refl, sym, ◌∙◌, ap, ap₂}
use mathlib.Core.Bool.{Bool, true, false, not, ◌&&◌}
use mathlib.Core.Logic.{◌≢◌, ◌⊎◌, inl, inr}
use mathlib.Core.List.{List, [], ◌∷◌, map}
use Prim.Native.Nat.{ℕ, zero, suc, ◌+◌, ◌*◌, ◌/◌, ◌<◌, ◌≤◌}
use native.Mathlib.Nat.{mul-le-mul_left}
use native.Mathlib.Omega.{arith}
use native.Mathlib.Decide.{dec_lt}
use lib.Dec.{eqb}
use borrow.Author.Tests.{lt-ltb, le-ltb}
use lib.ListN.{length, length-map, get_or-replicate}
use lib.IntN.{pos}
use Rattle.prelude.specs.Choice.{indicator}
use Rattle.prelude.specs.Lists.{Every}
use Rattle.prelude.specs.Sums.{sum_to}
use Rattle.prelude.proofs.Integers.{signed}
use Rattle.prelude.proofs.Sums.{sum_to_ext, sum_to_add}
use Rattle.arc_records.specs.Arcs.{Arc, arc_of, delta}
use Rattle.network.specs.Network.{Load, arcs, sum_of, leaving, entering, cost, total, crosses, loads_of}
use Rattle.network.specs.Question.{Setting}
use Rattle.arc_records.specs.Limits.{most_potential}
use Rattle.network.specs.Certificate.{marked}
use Rattle.network.proofs.Rules.{InRange, Marks, WithinCapacity}
use Rattle.network.proofs.Sums.{delta_same, delta_other, Compared, compared, sum_to_at, sum_of_add, Inside, across}
use Rattle.packed_arcs.specs.Entries.{entry, flow_at}
use Rattle.flow_residual.specs.Residual.{unreached}
use Rattle.cert_instances.specs.Instance.{tails, heads, weights, constant, VertexList, single, Falls, reached, distance_of, mark_of}
use Rattle.packed_arcs.proofs.LentParts.{zero_at}

-- ---- the same sums

pub constant_at : (es : List Arc) (k e : ℕ) → e < length es → entry (constant es k) e ≡ k
constant_at es k e h = get_or-replicate (length es) e k 0 h

pub when_delta : (a w x : ℕ) → indicator (eqb a w) * x ≡ x * delta a w
unfolding delta
when_delta a w x = go (eqb a w)
  where
    go : (b : Bool) → indicator b * x ≡ x * indicator b
    go true = omega arith
    go false = omega arith

-- nothing flows where every amount is 0
flow_none : (l x : List ℕ) (w : ℕ) → ((e : ℕ) → entry x e ≡ 0) → flow_at l x w ≡ 0
unfolding flow_at
flow_none [] x w h = refl
flow_none (a ∷ l) [] w h = refl
flow_none (a ∷ l) (y ∷ x) w h = omega (arith, when_delta a w y, ap (λ (z : ℕ). z * delta a w) (h 0), flow_none l x w (λ e. h (suc e)))

-- what flows at the vertex w, by either end of the arcs
pub flow_sum : (end : Arc → ℕ) (es : List Arc) (x : List ℕ) (w : ℕ) → flow_at (map end es) x w ≡ sum_of (λ e. delta (end e) w) (loads_of es x)
unfolding flow_at sum_of loads_of
flow_sum end [] x w = refl
flow_sum end (e ∷ es) [] w = omega (arith, flow_sum end es [] w, flow_none (map end es) [] w (λ i. refl))
flow_sum end (e ∷ es) (y ∷ x) w = omega (arith, when_delta (end e) w y, flow_sum end es x w)

-- balances since there were no amounts
pub since_none : (es : List Arc) (x : List ℕ) (w a b : ℕ)
    → flow_at (tails es) x w + a + flow_at (heads es) (constant es 0) w ≡ flow_at (tails es) (constant es 0) w + b + flow_at (heads es) x w
    → leaving w (loads_of es x) + a ≡ entering w (loads_of es x) + b
since_none es x w a b h =
    omega (
      arith,
      flow_sum (λ e. e.tail) es x w,
      flow_sum (λ e. e.head) es x w,
      flow_none (tails es) (constant es 0) w (zero_at (length es)),
      flow_none (heads es) (constant es 0) w (zero_at (length es)),
    )

-- ---- facts by index, and facts of every arc and load

pub loads_arcs : (es : List Arc) (x : List ℕ) → arcs (loads_of es x) ≡ es
unfolding loads_of
loads_arcs [] x = refl
loads_arcs (e ∷ es) [] = ap (λ (r : List Arc). e ∷ r) (loads_arcs es [])
loads_arcs (e ∷ es) (y ∷ x) = ap (λ (r : List Arc). e ∷ r) (loads_arcs es x)

-- the arc of the index e, read from the columns
abbrev pub column_arc : List Arc → ℕ → Arc
column_arc es e = arc_of (entry (tails es) e) (entry (heads es) e) (entry (weights es) e)

pub every_arc : (P : Arc → Type 0) (es : List Arc) → Every P es → (e : ℕ) → e < length es → P (column_arc es e)
every_arc P [] h e l = absurd (omega arith)
every_arc P (a ∷ es) h zero l = h.0
every_arc P (a ∷ es) h (suc e) l = every_arc P es h.1 e (omega arith)

pub index_every : (P : Arc → Type 0) (es : List Arc) → ((e : ℕ) → e < length es → P (column_arc es e)) → Every P es
index_every P [] h = tt
index_every P (a ∷ es) h = (h 0 (omega arith), index_every P es (λ e l. h (suc e) (omega arith)))

pub every_load : (P : Load → Type 0) (es : List Arc) (x : List ℕ)
    → ((e : ℕ) → e < length es → P (record { arc = column_arc es e; amount = entry x e })) → Every P (loads_of es x)
unfolding loads_of
every_load P [] x h = tt
every_load P (a ∷ es) [] h = (h 0 (omega arith), every_load P es [] (λ e l. h (suc e) (omega arith)))
every_load P (a ∷ es) (y ∷ x) h = (h 0 (omega arith), every_load P es x (λ e l. h (suc e) (omega arith)))

pub column_len : (end : Arc → ℕ) (es : List Arc) → length (map end es) ≡ length es
column_len end es = length-map es end

pub index : (es : List Arc) (e : ℕ) → e < length es → e < length (tails es)
index es e h = omega (arith, column_len (λ e. e.tail) es)

-- ---- sums over loads

-- two sums agree that agree where something flows
pub sum_of_used : (g h : Arc → ℕ) (f : List Load) → Every (λ l. 0 < l.amount → g l.arc ≡ h l.arc) f → sum_of g f ≡ sum_of h f
unfolding sum_of
sum_of_used g h [] e = refl
sum_of_used g h (l ∷ f) e = omega (arith, one l.amount e.0, sum_of_used g h f e.1)
  where
    one : (k : ℕ) → (0 < k → g l.arc ≡ h l.arc) → k * g l.arc ≡ k * h l.arc
    one zero q = omega arith
    one (suc k) q = ap (λ (z : ℕ). suc k * z) (q (omega arith))

-- where what flows pays for the potential that it gains, the cost is the potential gained
pub paid_cost : (y : ℕ → ℕ) (f : List Load) → Every (λ l. 0 < l.amount → y l.arc.head ≡ y l.arc.tail + l.arc.weight) f
    → sum_of (λ e. y e.head) f ≡ sum_of (λ e. y e.tail) f + cost f
paid_cost y f h = sum_of_used (λ e. y e.head) (λ e. y e.tail + e.weight) f h ∙ sum_of_add (λ e. y e.tail) (λ e. e.weight) f

delta_most : (u v : ℕ) → delta u v ≤ 1
unfolding delta
delta_most u v = go (eqb u v)
  where
    go : (b : Bool) → indicator b ≤ 1
    go true = omega arith
    go false = omega arith

-- no more leaves a vertex than all arcs hold
pub leaving_most : (v : ℕ) (f : List Load) → Every WithinCapacity f → leaving v f ≤ total (arcs f)
unfolding sum_of total
leaving_most v [] e = omega arith
leaving_most v (l ∷ f) e = omega (arith, mul-le-mul_left l.amount (delta_most l.arc.tail v), e.0, leaving_most v f e.1)

-- balances, weighed by a number for each vertex
pub weighed : (g : ℕ → ℕ) (n : ℕ) (f : List Load) (a b : ℕ → ℕ) → Every (Inside n) (arcs f)
    → ((v : ℕ) → v < n → leaving v f + a v ≡ entering v f + b v)
    → sum_of (λ e. g e.tail) f + sum_to n (λ v. g v * a v) ≡ sum_of (λ e. g e.head) f + sum_to n (λ v. g v * b v)
weighed g n f a b inside h = across g n f (λ v. g v * a v) (λ v. g v * b v) inside (λ v l. omega (arith, ap (λ (z : ℕ). g v * z) (h v l)))

-- ---- one supply and one demand

-- what is left of a supply at one vertex is there
pub fallen : (n a k : ℕ) (l l' : List ℕ) → VertexList n (single k a) l → Falls l l' → (v : ℕ) → v < n → entry l' v ≡ entry l' k * delta k v
fallen n a k l l' F less v h = go (compared k v)
  where
    go : Compared k v → entry l' v ≡ entry l' k * delta k v
    go (inl (e, i)) = rw (i, ← e) (omega arith)
    go (inr (e, i)) = rw i (omega (arith, less v, F.entries v h, ap (λ (z : ℕ). a * z) i))

sum_to_two : (n s t p q : ℕ) (g : ℕ → ℕ) → s < n → t < n → sum_to n (λ v. g v * (p * delta s v + q * delta t v)) ≡ g s * p + g t * q
sum_to_two n s t p q g hs ht =
    omega (
      arith,
      sum_to_ext n (λ v. g v * (p * delta s v + q * delta t v)) (λ v. g v * p * delta s v + g v * q * delta t v) (λ v h. omega arith),
      sum_to_add n (λ v. g v * p * delta s v) (λ v. g v * q * delta t v),
      sum_to_at n s (λ v. g v * p) hs,
      sum_to_at n t (λ v. g v * q) ht,
    )

-- S units stand at s and are wanted at t: l of them are still at s, and d are still wanted.
pub record Carried (n s t S l d : ℕ) (f : List Load) : Type 0 where
  pub source_below : s < n
  pub sink_below : t < n
  pub apart : s ≢ t
  pub inside : Every (Inside n) (arcs f)
  pub each : (v : ℕ) → v < n → leaving v f + (l * delta s v + S * delta t v) ≡ entering v f + (S * delta s v + d * delta t v)

module _ {n s t S l d : ℕ} {f : List Load} (c : Carried n s t S l d f) where
  pub carried_by : (g : ℕ → ℕ) → sum_of (λ e. g e.tail) f + (g s * l + g t * S) ≡ sum_of (λ e. g e.head) f + (g s * S + g t * d)
  carried_by g =
      omega (
        arith,
        weighed g n f (λ v. l * delta s v + S * delta t v) (λ v. S * delta s v + d * delta t v) c.inside c.each,
        sum_to_two n s t l S g c.source_below c.sink_below,
        sum_to_two n s t S d g c.source_below c.sink_below,
      )

  pub as_much : l ≡ d
  as_much = omega (arith, carried_by (λ v. 1))

  pub at_source : leaving s f + l ≡ entering s f + S
  at_source =
      let i = delta_same s s refl in
      let j = delta_other t s (λ e. c.apart (sym e)) in
      omega (arith, rw (i, j) at (c.each s c.source_below))

  pub elsewhere : (v : ℕ) → v < n → v ≢ s → v ≢ t → leaving v f ≡ entering v f
  elsewhere v h p q =
      let i = delta_other s v (λ e. p (sym e)) in
      let j = delta_other t v (λ e. q (sym e)) in
      omega (arith, rw (i, j) at (c.each v h))

-- ---- marks

pub is_reached : (k : ℕ) → k < unreached → reached k ≡ true
is_reached k h = lt-ltb k unreached h

pub not_reached : (k : ℕ) → unreached ≤ k → reached k ≡ false
not_reached k h = le-ltb k unreached h

-- what the key of a reached vertex says of its mark and its distance, and that of one not reached
pub record Seen (key : List ℕ) (v : ℕ) : Type 0 where
  pub below : entry key v < unreached
  pub mark : mark_of key v ≡ pos 1
  pub inside : marked (mark_of key) v ≡ true
  pub distance : distance_of key v ≡ entry key v / 256

pub record Unseen (key : List ℕ) (v : ℕ) : Type 0 where
  pub above : unreached ≤ entry key v
  pub mark : mark_of key v ≡ pos 0
  pub inside : marked (mark_of key) v ≡ false
  pub distance : distance_of key v ≡ most_potential

pub seen : (key : List ℕ) (v : ℕ) → entry key v < unreached → Seen key v
seen key v h = let e = is_reached (entry key v) h in record { below = h; mark = rw e; inside = rw e; distance = rw e }

pub unseen : (key : List ℕ) (v : ℕ) → unreached ≤ entry key v → Unseen key v
unseen key v h = let e = not_reached (entry key v) h in record { above = h; mark = rw e; inside = rw e; distance = rw e }

pub sight : (key : List ℕ) (v : ℕ) → Seen key v ⊎ Unseen key v
sight key v = go (dec_lt (entry key v) unreached)
  where
    go : Dec (entry key v < unreached) → Seen key v ⊎ Unseen key v
    go (yes h) = inl (seen key v h)
    go (no h) = inr (unseen key v (omega arith))

-- marks are 0 or 1
pub marks_fit : (st : Setting) (key : List ℕ) → Marks st (mark_of key)
marks_fit st key v h = go (reached (entry key v))
  where
    go : (b : Bool) → InRange (pos 0) (pos 1) (pos (indicator b))
    go true = record { above = omega signed; below = omega signed }
    go false = record { above = omega signed; below = omega signed }

-- an arc that leads on from a reached vertex to a reached one does not cross
pub no_cross : (key : List ℕ) (e : Arc) → (entry key e.tail < unreached → entry key e.head < unreached) → crosses (marked (mark_of key)) e ≡ false
no_cross key e h = go (sight key e.tail)
  where
    go : Seen key e.tail ⊎ Unseen key e.tail → crosses (marked (mark_of key)) e ≡ false
    go (inl r) = ap₂ (λ (a b : Bool). a && not b) r.inside (seen key e.head (h r.below)).inside
    go (inr r) = ap (λ (a : Bool). a && not (marked (mark_of key) e.head)) r.inside
