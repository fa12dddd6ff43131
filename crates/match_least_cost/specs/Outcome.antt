-- What is handed over, and what is handed back: amounts of a matching that saturates the right vertices, or marks that show that there is none.
use Rattle.std.specs.Prelude.{◌≡◌, Bool, true, false, ◌&&◌, List, ℕ, eqb, ltb, leb, length, Result, Ok, Err}
use Rattle.prelude.specs.Lists.{all}
use Rattle.arc_records.specs.Limits.{most_vertices, most_arcs, most_weight}
use Rattle.arc_records.specs.Arcs.{word_arc}
use Rattle.packed_arcs.specs.declared.OutOfLimits.{OutOfLimits}
use Rattle.packed_arcs.specs.Entries.{zero_list}
use Rattle.arc_index.specs.Columns.{record_tails, record_heads, record_weights}
use Rattle.match_results.specs.Results.{Saturating, Deficient}
use Rattle.match_least_cost.specs.declared.Match.{Match}
use Rattle.match_least_cost.specs.declared.Match.TheVariants.{Saturating as SaturatingMatch, Deficient as NoMatch}

-- ---- what is handed over

-- The arc of the record leads from a left vertex, below h, to a right one, from h on and below n, and its weight is within the limit.
abbrev pub leads_across : ℕ → ℕ → ℕ → Bool
leads_across h n r = ltb (word_arc r).tail h && leb h (word_arc r).head && ltb (word_arc r).head n && leb (word_arc r).weight most_weight

-- What `solve` answers: h left vertices of n, not too many vertices and records, an amount for each record, and arcs that lead across.
abbrev pub matchable : List ℕ → ℕ → ℕ → ℕ → Bool
matchable rs h n amounts = leb h n && leb n most_vertices && leb (length rs) most_arcs && eqb amounts (length rs) && all (leads_across h n) rs

-- ---- what is handed back

-- What comes of the search: a saturating matching with its potentials; or marks, and no amounts.
pub data FindOutcome (h n : ℕ) (T H W pi' x' : List ℕ) : Match → Type 0 where
  saturating : Saturating h n T H W x' pi' → FindOutcome h n T H W pi' x' SaturatingMatch
  deficient : Deficient h n T H pi' → x' ≡ zero_list (length T) → FindOutcome h n T H W pi' x' NoMatch

-- The outcome: that of the search, or refused, with nothing changed.
pub data MatchOutcome (rs : List ℕ) (h : ℕ) (pi x pi' x' : List ℕ) : Result Match OutOfLimits → Type 0 where
  found :
      {r : Match} → matchable rs h (length pi) (length x) ≡ true → FindOutcome h (length pi) (record_tails rs) (record_heads rs) (record_weights rs) pi' x' r → MatchOutcome rs h pi x pi' x' (Ok r)
  refused : matchable rs h (length pi) (length x) ≡ false → pi' ≡ pi → x' ≡ x → {o : OutOfLimits} → MatchOutcome rs h pi x pi' x' (Err o)
