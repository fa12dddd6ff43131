-- The columns of the arcs of records.
use Rattle.std.specs.Prelude.{List, map, ℕ}
use Rattle.arc_records.specs.Arcs.{word_arcs}

-- The tails of the arcs of the records.
abbrev pub record_tails : List ℕ → List ℕ
record_tails rs = map (λ e. e.tail) (word_arcs rs)

-- Their heads.
abbrev pub record_heads : List ℕ → List ℕ
record_heads rs = map (λ e. e.head) (word_arcs rs)

-- Their weights.
abbrev pub record_weights : List ℕ → List ℕ
record_weights rs = map (λ e. e.weight) (word_arcs rs)
