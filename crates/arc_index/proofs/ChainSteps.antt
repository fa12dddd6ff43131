-- A walk along the chain of a vertex, one arc after the other: where it stands, and that it comes to an end.
use mathlib.Core.Path.{◌≡◌, subst}
use mathlib.Core.List.{List}
use mathlib.Core.Logic.{◌≢◌}
use Prim.Native.Nat.{ℕ, ◌+◌, ◌-◌, ◌<◌, ◌≤◌}
use native.Mathlib.Omega.{arith}
use native.Mathlib.Decide.{dec_lt}
use lib.ListN.{length}
use Rattle.packed_arcs.specs.Entries.{entry}
use Rattle.arc_index.specs.ArcIndex.{no_arc, next_arc}
use Rattle.arc_index.specs.Chains.{First, Chains}

-- an arc of a chain is one, and its end is that of the chain
pub is_arc : {ends : List ℕ} {v lo e : ℕ} → First ends v lo e → e < no_arc → (e < length ends) × (entry ends e ≡ v)
is_arc (First.found g l q f) h = (l, q)
is_arc (First.none q f) h = absurd (omega arith)

pub none_between : {ends : List ℕ} {v lo e : ℕ} → First ends v lo e → e < no_arc → (i : ℕ) → lo ≤ i → i < e → entry ends i ≢ v
none_between (First.found g l q f) h = f
none_between (First.none q f) h = absurd (omega arith)

pub none_left : {ends : List ℕ} {v lo e : ℕ} → length ends ≤ no_arc → First ends v lo e → no_arc ≤ e → (i : ℕ) → lo ≤ i → i < length ends → entry ends i ≢ v
none_left few (First.found g l q f) h = absurd (omega arith)
none_left few (First.none q f) h = f

pub further : {ends : List ℕ} {v lo e : ℕ} → First ends v lo e → e < no_arc → lo ≤ e
further (First.found g l q f) h = g
further (First.none q f) h = absurd (omega arith)

-- the arc after e
module _ {ends links : List ℕ} (C : Chains ends links) {v lo e : ℕ} (F : First ends v lo e) (l : e < no_arc) where
  pub in_links : 256 + e < length links
  in_links = omega (arith, C.len, is_arc F l)

  pub next_is : First ends v (e + 1) (next_arc links e)
  next_is = subst (λ (z : ℕ). First ends z (e + 1) (next_arc links e)) (is_arc F l).1 (C.nexts e (is_arc F l).0)

  pub shrinks : no_arc - next_arc links e < no_arc - e
  shrinks = go (dec_lt (next_arc links e) no_arc)
    where
      go : Dec (next_arc links e < no_arc) → no_arc - next_arc links e < no_arc - e
      go (yes q) = omega (arith, further next_is q)
      go (no q) = omega arith
