-- What the queue's calls keep, and what is taken out: a vertex with the least key of all.
use mathlib.Core.Path.{◌≡◌, refl, sym, ◌∙◌, ap}
use mathlib.Core.List.{List}
use mathlib.Core.Logic.{◌⊎◌, inl, inr, ◌≢◌}
use Prim.Native.Nat.{ℕ, ◌+◌, ◌*◌, ◌/◌, ◌≤◌, ◌<◌, min}
use native.Mathlib.Decide.{dec_le}
use native.Mathlib.Omega.{arith}
use lib.ListN.{length, set, replicate, length-set, length-replicate, get_or-replicate}
use lib.Seq.{get_or-set_same, get_or-set_other}
use Rattle.packed_arcs.specs.Entries.{entry}
use Rattle.packed_arcs.proofs.ListLoops.{set_cases}
use Rattle.vertex_queue.specs.VertexQueue.{waits_not, LeastOf, Kept, least_from, least_block, least_vertex, least_entry, taken_out}
use Rattle.vertex_queue.proofs.LeastPlaces.{first_of_16}

-- ---- nobody waits

pub begin_kept : Kept (replicate 256 waits_not) (replicate 16 waits_not)
begin_kept =
    record {
      keys_len = length-replicate 256 waits_not;
      low_len = length-replicate 16 waits_not;
      least = λ b h. block b h (get_or-replicate 16 b waits_not 0 h);
    }
  where
    block : (b : ℕ) → b < 16 → entry (replicate 16 waits_not) b ≡ waits_not → LeastOf (replicate 256 waits_not) (16 * b) 16 (entry (replicate 16 waits_not) b)
    block b h e =
        record {
          below = λ i g l. omega (arith, get_or-replicate 256 i waits_not 0 (omega arith));
          j = 16 * b;
          j_from = omega arith;
          j_below = omega arith;
          at_one = get_or-replicate 256 (16 * b) waits_not 0 (omega arith) ∙ sym e;
        }

-- ---- the least of a block, after a store

-- the store was in another block
elsewhere : (l : List ℕ) (from m v k : ℕ) → v < from ⊎ from + 16 ≤ v → LeastOf l from 16 m → LeastOf (set l v k) from 16 m
elsewhere l from m v k away L =
    record {
      below = λ i g h. omega (arith, L.below i g h, same i g h away);
      j = L.j;
      j_from = L.j_from;
      j_below = L.j_below;
      at_one = same L.j L.j_from L.j_below away ∙ L.at_one;
    }
  where
    same : (i : ℕ) → from ≤ i → i < from + 16 → v < from ⊎ from + 16 ≤ v → entry (set l v k) i ≡ entry l i
    same i g h (inl a) = get_or-set_other l v i k 0 (λ e. omega arith)
    same i g h (inr a) = get_or-set_other l v i k 0 (λ e. omega arith)

-- a key in the block fell to k
fallen : (l : List ℕ) (from m v k : ℕ) → v < length l → from ≤ v → v < from + 16 → k ≤ entry l v → LeastOf l from 16 m → LeastOf (set l v k) from 16 (min m k)
fallen l from m v k inside after before less L = go (dec_le k m)
  where
    least : (i : ℕ) → from ≤ i → i < from + 16 → ((i ≡ v) × (entry (set l v k) i ≡ k)) ⊎ ((i ≢ v) × (entry (set l v k) i ≡ entry l i)) → min m k ≤ entry (set l v k) i
    least i g h (inl e) = omega (arith, e.1)
    least i g h (inr e) = omega (arith, e.1, L.below i g h)

    other : m < k → ((L.j ≡ v) × (entry (set l v k) L.j ≡ k)) ⊎ ((L.j ≢ v) × (entry (set l v k) L.j ≡ entry l L.j)) → entry (set l v k) L.j ≡ m
    other q (inl e) = absurd (omega (arith, L.at_one, ap (λ (i : ℕ). entry l i) e.0))
    other q (inr e) = e.1 ∙ L.at_one

    go : Dec (k ≤ m) → LeastOf (set l v k) from 16 (min m k)
    go (yes q) =
        record {
          below = λ i g h. least i g h (set_cases l v k i inside);
          j = v;
          j_from = after;
          j_below = before;
          at_one = omega (arith, get_or-set_same l v k 0 inside);
        }
    go (no q) =
        record {
          below = λ i g h. least i g h (set_cases l v k i inside);
          j = L.j;
          j_from = L.j_from;
          j_below = L.j_below;
          at_one = omega (arith, other (omega arith) (set_cases l v k L.j inside));
        }

-- the least that a scan finds
scanned : (l : List ℕ) (from : ℕ) → LeastOf l from 16 (least_entry l from)
scanned l from =
    let P = first_of_16 l from in record { below = P.least; j = least_from l from 16; j_from = P.after; j_below = P.before; at_one = refl }

least_as : (l : List ℕ) (from m k : ℕ) → k ≡ m → LeastOf l from 16 m → LeastOf l from 16 k
least_as l from m k e L =
    record { below = λ i g h. omega (arith, L.below i g h); j = L.j; j_from = L.j_from; j_below = L.j_below; at_one = L.at_one ∙ sym e }

-- a store at v, in the block b, whose least is then m
stored : (keys low : List ℕ) (v k b m : ℕ) → Kept keys low → b < 16 → 16 * b ≤ v → v < 16 * b + 16 → LeastOf (set keys v k) (16 * b) 16 m → Kept (set keys v k) (set low b m)
stored keys low v k b m K inside after before L =
    record {
      keys_len = length-set keys v k ∙ K.keys_len;
      low_len = length-set low b m ∙ K.low_len;
      least = λ c h. go c h (set_cases low b m c (omega (arith, K.low_len)));
    }
  where
    away : (c : ℕ) → c ≢ b → Dec (b ≤ c) → v < 16 * c ⊎ 16 * c + 16 ≤ v
    away c n (yes q) = inl (omega arith)
    away c n (no q) = inr (omega arith)

    go : (c : ℕ) → c < 16 → ((c ≡ b) × (entry (set low b m) c ≡ m)) ⊎ ((c ≢ b) × (entry (set low b m) c ≡ entry low c)) → LeastOf (set keys v k) (16 * c) 16 (entry (set low b m) c)
    go c h (inl e) = rw (e.1, e.0) L
    go c h (inr e) = least_as (set keys v k) (16 * c) (entry low c) (entry (set low b m) c) e.1 (elsewhere keys (16 * c) (entry low c) v k (away c e.0 (dec_le b c)) (K.least c h))

-- ---- a vertex waits, with a key at most its own

pub put_kept : (keys low : List ℕ) (v k : ℕ) → Kept keys low → v < 256 → k ≤ entry keys v → Kept (set keys v k) (set low (v / 16) (min (entry low (v / 16)) k))
put_kept keys low v k K h less =
    stored keys low v k (v / 16) (min (entry low (v / 16)) k) K (omega arith) (omega arith) (omega arith)
    (fallen keys (16 * (v / 16)) (entry low (v / 16)) v k (omega (arith, K.keys_len)) (omega arith) (omega arith) less (K.least (v / 16) (omega arith)))

-- ---- the vertex with the least key

pub vertex_below : (keys low : List ℕ) → least_vertex keys low < 256
vertex_below keys low = omega (arith, (first_of_16 low 0).before, (first_of_16 keys (16 * least_block low)).before)

-- it waits no longer
pub take_kept : (keys low : List ℕ) → Kept keys low → Kept (taken_out keys low).keys (taken_out keys low).low
take_kept keys low K =
    let b = least_block low in
    let v = least_vertex keys low in
    let P = first_of_16 keys (16 * b) in
    stored keys low v waits_not b (least_entry (set keys v waits_not) (16 * b)) K (omega (arith, (first_of_16 low 0).before)) P.after P.before
    (scanned (set keys v waits_not) (16 * b))

-- its key is what `least` replies
pub taken_key : (keys low : List ℕ) → Kept keys low → entry keys (least_vertex keys low) ≡ least_entry low 0
taken_key keys low K =
    let b = least_block low in
    let P = first_of_16 keys (16 * b) in
    let L = K.least b (omega (arith, (first_of_16 low 0).before)) in
    omega (arith, L.below (least_vertex keys low) P.after P.before, P.least L.j L.j_from L.j_below, L.at_one)

-- no key is less than what `least` replies
pub least_below : (keys low : List ℕ) → Kept keys low → (u : ℕ) → u < 256 → least_entry low 0 ≤ entry keys u
least_below keys low K u h =
    omega (arith, (first_of_16 low 0).least (u / 16) (omega arith) (omega arith), (K.least (u / 16) (omega arith)).below u (omega arith) (omega arith))

pub take_least : (keys low : List ℕ) → Kept keys low → (u : ℕ) → u < 256 → entry keys (least_vertex keys low) ≤ entry keys u
take_least keys low K u h = omega (arith, taken_key keys low K, least_below keys low K u h)

pub none_waits : (keys low : List ℕ) → Kept keys low → waits_not ≤ least_entry low 0 → (u : ℕ) → u < 256 → waits_not ≤ entry keys u
none_waits keys low K none u h = omega (arith, least_below keys low K u h)
