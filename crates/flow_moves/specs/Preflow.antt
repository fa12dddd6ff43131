-- What moves over residual arcs is conserved: amounts within capacity, and balances by what stood at the vertices and what stands there.
use Rattle.std.specs.Prelude.{◌≡◌, Bool, ◌&&◌, List, ℕ, ◌+◌, ◌-◌, ◌<◌, ◌≤◌, eqb, ltb, leb, length, set}
use Rattle.packed_arcs.specs.Entries.{entry, sum, flow_at, zero_list}
use Rattle.packed_arcs.specs.PackedArcs.{tails_of, heads_of, capacities_of}
use Rattle.packed_arcs.specs.Limits.{arcs_fit}

-- The amounts x leave `left` at the vertices, where `start` stood when all amounts were 0.
pub record Conserved (from to cap start x left : List ℕ) : Type 0 where
  pub few : length from ≤ 4096
  pub to_len : length to ≡ length from
  pub cap_len : length cap ≡ length from
  pub x_len : length x ≡ length from
  pub left_len : length left ≡ length start
  pub small : length start ≤ 255
  pub tails : (e : ℕ) → e < length from → entry from e < length left
  pub heads : (e : ℕ) → e < length from → entry to e < length left
  pub within : (e : ℕ) → e < length from → entry x e ≤ entry cap e
  pub balance : (w : ℕ) → flow_at from x w + entry left w ≡ flow_at to x w + entry start w
  pub total : sum left ≡ sum start
  pub bounded : sum start ≤ 2147483648

-- The same, of packed arcs.
abbrev pub PackedConserved : (arcs start x left : List ℕ) → Type 0
PackedConserved arcs start x left = Conserved (tails_of arcs) (heads_of arcs) (capacities_of arcs) start x left

-- The amounts x leave `left` at the vertices, for some `start`.
pub record Ready (arcs x left : List ℕ) : Type 0 where
  pub start : List ℕ
  pub holds : PackedConserved arcs start x left

-- What was moved is conserved: x' and left' have the same `start` as x and left.
pub record Moves (arcs x left x' left' : List ℕ) : Type 0 where
  pub x_len : length x' ≡ length x
  pub left_len : length left' ≡ length left
  pub keeps : (start : List ℕ) → PackedConserved arcs start x left → PackedConserved arcs start x' left'

-- The supply at s, of n vertices, and nothing elsewhere.
abbrev pub standing_at : ℕ → ℕ → ℕ → List ℕ
standing_at n s supply = set (zero_list n) s supply

-- What stands at the vertices after g moved from a to b; a and b may be the same.
abbrev pub transferred : List ℕ → ℕ → ℕ → ℕ → List ℕ
transferred left a b g = set (set left a (entry left a - g)) b (entry (set left a (entry left a - g)) b + g)

-- What a call of a preflow answers: s and t are vertices, the supply is within the limit, arcs that fit, an amount for each arc, and links for 256 vertices and each arc.
abbrev pub preflowable : List ℕ → ℕ → ℕ → ℕ → ℕ → ℕ → ℕ → ℕ → Bool
preflowable arcs s t supply amounts n outs intos =
    ltb s n && ltb t n && leb supply 2147483648 && eqb outs (256 + length arcs) && eqb intos (256 + length arcs) && arcs_fit arcs amounts n
