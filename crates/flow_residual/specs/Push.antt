-- What pushing an amount along parent arcs keeps.
use Rattle.std.specs.Prelude.{◌≡◌, List, ◌⊎◌, ℕ, ◌+◌, ◌*◌, ◌-◌, ◌<◌, ◌≤◌, eqb, ltb, length}
use Rattle.prelude.specs.Choice.{pick, indicator}
use Rattle.packed_arcs.specs.Entries.{entry, flow_at}
use Rattle.flow_residual.specs.Residual.{unreached}

-- The parent arc of v: its other end has a lower key.
pub data ParentLink (from to key : List ℕ) (code v : ℕ) : Type 0 where
  forward : code < length from → entry to code ≡ v → entry key (entry from code) < entry key v → ParentLink from to key code v
  backward : (e : ℕ) → code ≡ 4096 + e → e < length from → entry from e ≡ v → entry key (entry to e) < entry key v → ParentLink from to key code v

-- What pushing takes for granted: columns of one length, ends that are vertices, amounts within capacity, parent arcs that lead to lower keys.
pub record PushReady (from to cap par key x left : List ℕ) : Type 0 where
  pub few : length from ≤ 4096
  pub to_len : length to ≡ length from
  pub cap_len : length cap ≡ length from
  pub x_len : length x ≡ length from
  pub par_len : length par ≡ length key
  pub left_len : length left ≡ length key
  pub tails : (e : ℕ) → e < length from → entry from e < length key
  pub heads : (e : ℕ) → e < length from → entry to e < length key
  pub within : (e : ℕ) → e < length from → entry x e ≤ entry cap e
  pub links : (v : ℕ) → v < length key → entry key v < unreached → 0 < entry key v → ParentLink from to key (entry par v) v

-- The arc of a code: below 4096 that arc forward, else the arc code - 4096 backward.
abbrev pub code_arc : ℕ → ℕ
code_arc code = pick (ltb code 4096) code (code - 4096)

-- How much the residual arc can take.
abbrev pub residual_capacity : List ℕ → List ℕ → ℕ → ℕ
residual_capacity cap x code = pick (ltb code 4096) (entry cap code - entry x code) (entry x (code - 4096))

-- Every root has supply left, and every parent arc can take something.
pub record Augmentable (cap par key x left : List ℕ) : Type 0 where
  pub roots : (v : ℕ) → v < length key → entry key v ≡ 0 → 0 < entry left v
  pub rooms : (v : ℕ) → v < length key → entry key v < unreached → 0 < entry key v → 0 < residual_capacity cap x (entry par v)

-- The arc e is the parent arc of a vertex whose key is at most k.
pub record ParentArcWithin (par key : List ℕ) (k e : ℕ) : Type 0 where
  pub by : ℕ
  pub by_ok : by < length key
  pub reached : entry key by < unreached
  pub not_root : 0 < entry key by
  pub near : entry key by ≤ k
  pub code : (entry par by ≡ e) ⊎ (entry par by ≡ 4096 + e)

-- g of at most want was moved to v: balances and the supply left agree everywhere but at v, and only parent arcs that are near enough changed.
pub record Moved (from to cap par key x left x' left' : List ℕ) (v want g : ℕ) : Type 0 where
  pub x_len : length x' ≡ length x
  pub left_len : length left' ≡ length left
  pub most : g ≤ want
  pub less : (w : ℕ) → entry left' w ≤ entry left w
  pub within : (e : ℕ) → e < length from → entry x' e ≤ entry cap e
  pub only : (e : ℕ) → (entry x' e ≡ entry x e) ⊎ ParentArcWithin par key (entry key v) e
  pub balance :
      (w : ℕ) → flow_at from x' w + entry left' w + flow_at to x w + indicator (eqb v w) * g ≡ flow_at from x w + entry left w + flow_at to x' w
  pub some : Augmentable cap par key x left → 0 < want → 0 < g
