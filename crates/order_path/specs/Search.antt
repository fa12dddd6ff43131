-- What the search is handed and what it hands back: records of arcs; ranks of the vertices that rise along every arc, or marks on the arcs of a cycle.
use Rattle.std.specs.Prelude.{◌≡◌, Bool, true, false, ◌&&◌, List, ℕ, ◌<◌, ◌≤◌, eqb, leb, ltb, length, Result, Ok, Err}
use Rattle.prelude.specs.Lists.{all}
use Rattle.arc_records.specs.Limits.{most_vertices, most_arcs}
use Rattle.arc_records.specs.Arcs.{word_arc}
use Rattle.packed_arcs.specs.Entries.{entry, zero_list, flow_at}
use Rattle.arc_index.specs.Columns.{record_tails, record_heads}
use Rattle.order_path.specs.declared.Found.{Found}
use Rattle.order_path.specs.declared.Found.TheVariants.{Order, Cycle}
use Rattle.packed_arcs.specs.declared.OutOfLimits.{OutOfLimits}

-- ---- what is handed over

-- The arc of the record joins vertices below n.
abbrev pub joins_below : ℕ → ℕ → Bool
joins_below n r = ltb (word_arc r).tail n && ltb (word_arc r).head n

-- What the search answers: few enough vertices and records, a mark for each record, and arcs that join vertices.
abbrev pub searchable : List ℕ → ℕ → ℕ → Bool
searchable rs n marks = leb n most_vertices && leb (length rs) most_arcs && eqb marks (length rs) && all (joins_below n) rs

-- ---- what is handed back

-- A topological order: a rank for each vertex, at most n, that rises along every arc.
pub record Ordered (tails heads ranks : List ℕ) : Type 0 where
  pub below : (v : ℕ) → entry ranks v ≤ length ranks
  pub rises : (e : ℕ) → e < length tails → entry ranks (entry tails e) < entry ranks (entry heads e)

-- A circulation: a mark 0 or 1 for each arc, not all 0, and at every vertex as many marked arcs leave as enter.
pub record Circulation (tails heads marks : List ℕ) : Type 0 where
  pub len : length marks ≡ length tails
  pub zero_or_one : (e : ℕ) → entry marks e ≤ 1
  pub one : ℕ
  pub marked : 0 < entry marks one
  pub balanced : (v : ℕ) → flow_at tails marks v ≡ flow_at heads marks v

-- The three outcomes: an order, and no mark; a cycle, and ranks 0; or a refusal, with nothing changed.
pub data SearchOutcome (rs ranks marks ranks' marks' : List ℕ) : Result Found OutOfLimits → Type 0 where
  ordered :
      searchable rs (length ranks) (length marks) ≡ true → length ranks' ≡ length ranks → Ordered (record_tails rs) (record_heads rs) ranks'
      → marks' ≡ zero_list (length marks) → SearchOutcome rs ranks marks ranks' marks' (Ok Order)
  cyclic :
      searchable rs (length ranks) (length marks) ≡ true → ranks' ≡ zero_list (length ranks) → Circulation (record_tails rs) (record_heads rs) marks'
      → SearchOutcome rs ranks marks ranks' marks' (Ok Cycle)
  refused :
      searchable rs (length ranks) (length marks) ≡ false → ranks' ≡ ranks → marks' ≡ marks
      → SearchOutcome rs ranks marks ranks' marks' (Err (record {}))
