-- The vertices that wait in a search, each with a key: 256 keys, and the least of each block of 16.
use Rattle.std.specs.Prelude.{◌≡◌, List, ℕ, zero, suc, ◌+◌, ◌*◌, ◌/◌, ◌≤◌, ◌<◌, min, ltb, length, set, replicate}
use Rattle.prelude.specs.Choice.{pick}
use Rattle.packed_arcs.specs.Entries.{entry}

-- The key of a vertex that does not wait.
abbrev pub waits_not : ℕ
waits_not = 2147483648

-- The keys of the 256 vertices, and for each of the 16 blocks the least of its keys.
pub record Queue : Type 0 where
  pub keys : List ℕ
  pub low : List ℕ

-- k is the least of the count entries from `from` on: it is at most each of them, and is the one at j.
pub record LeastOf (l : List ℕ) (from count k : ℕ) : Type 0 where
  pub below : (i : ℕ) → from ≤ i → i < from + count → k ≤ entry l i
  pub j : ℕ
  pub j_from : from ≤ j
  pub j_below : j < from + count
  pub at_one : entry l j ≡ k

-- The two arrays agree: the entry b of low is the least key of the block b.
pub record Kept (keys low : List ℕ) : Type 0 where
  pub keys_len : length keys ≡ 256
  pub low_len : length low ≡ 16
  pub least : (b : ℕ) → b < 16 → LeastOf keys (16 * b) 16 (entry low b)

-- The index of the first least entry among the count entries from `from` on.
unfoldable pub least_from : List ℕ → ℕ → ℕ → ℕ
least_from l from zero = from
least_from l from (suc n) = pick (ltb (entry l (from + n)) (entry l (least_from l from n))) (from + n) (least_from l from n)

-- The first block whose least key is least.
abbrev pub least_block : List ℕ → ℕ
least_block low = least_from low 0 16

-- The vertex that is taken: the first with the least key of that block.
abbrev pub least_vertex : List ℕ → List ℕ → ℕ
least_vertex keys low = least_from keys (16 * least_block low) 16

-- The least entry among the 16 from `from` on.
abbrev pub least_entry : List ℕ → ℕ → ℕ
least_entry l from = entry l (least_from l from 16)

-- Nobody waits.
abbrev pub nobody : Queue
nobody = record { keys = replicate 256 waits_not; low = replicate 16 waits_not }

-- The vertex v waits with the key k.
abbrev pub put_in : ℕ → ℕ → List ℕ → List ℕ → Queue
put_in v k keys low = record { keys = set keys v k; low = set low (v / 16) (min (entry low (v / 16)) k) }

-- The vertex v of the block b waits no longer.
abbrev pub without : ℕ → ℕ → List ℕ → List ℕ → Queue
without v b keys low = record { keys = set keys v waits_not; low = set low b (least_entry (set keys v waits_not) (16 * b)) }

-- The vertex with the least key waits no longer.
abbrev pub taken_out : List ℕ → List ℕ → Queue
taken_out keys low = without (least_vertex keys low) (least_block low) keys low

-- The two arrays are those of the queue q.
pub record Holds (keys low : List ℕ) (q : Queue) : Type 0 where
  pub keys_are : keys ≡ q.keys
  pub low_are : low ≡ q.low
