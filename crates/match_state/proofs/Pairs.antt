-- Laws of a matching: what is noted at a vertex, and which arc that is.
use mathlib.Core.Path.{◌≡◌}
use mathlib.Core.List.{List}
use mathlib.Core.Logic.{◌⊎◌, inl, inr}
use Prim.Native.Nat.{ℕ, ◌<◌, ◌≤◌}
use native.Mathlib.Omega.{arith}
use Rattle.packed_arcs.specs.Entries.{entry}
use Rattle.arc_index.specs.ArcIndex.{no_arc}
use Rattle.match_state.specs.Matching.{Bipartite, Noted, Matching}

module _ {n : ℕ} {T H mate : List ℕ} (M : Matching n T H mate) where
  -- a vertex that is not exposed has an arc
  pub noted : (v : ℕ) → v < n → entry mate v < no_arc → Noted T H mate v (entry mate v)
  noted v h k = go (M.each v h)
    where
      go : (entry mate v ≡ no_arc) ⊎ Noted T H mate v (entry mate v) → Noted T H mate v (entry mate v)
      go (inl e) = absurd (omega arith)
      go (inr N) = N

module _ {h n : ℕ} {T H W mate : List ℕ} (G : Bipartite h n T H W) where
  -- the arc of a left vertex leads from it
  pub left_end : (a : ℕ) → a < h → Noted T H mate a (entry mate a) → entry T (entry mate a) ≡ a
  left_end a k N = go N.end
    where
      go : (entry T (entry mate a) ≡ a) ⊎ (entry H (entry mate a) ≡ a) → entry T (entry mate a) ≡ a
      go (inl e) = e
      go (inr e) = absurd (omega (arith, G.to_right (entry mate a) N.arc))

  -- that of a right vertex leads to it
  pub right_end : (b : ℕ) → h ≤ b → Noted T H mate b (entry mate b) → entry H (entry mate b) ≡ b
  right_end b k N = go N.end
    where
      go : (entry T (entry mate b) ≡ b) ⊎ (entry H (entry mate b) ≡ b) → entry H (entry mate b) ≡ b
      go (inl e) = absurd (omega (arith, G.from_left (entry mate b) N.arc))
      go (inr e) = e

module _ {h n : ℕ} {T H W mate : List ℕ} (G : Bipartite h n T H W) (M : Matching n T H mate) where
  -- a vertex is exposed or matched
  pub exposed_or_matched : (v : ℕ) → v < n → (entry mate v ≡ no_arc) ⊎ (entry mate v < no_arc)
  exposed_or_matched v l = go (M.each v l)
    where
      go : (entry mate v ≡ no_arc) ⊎ Noted T H mate v (entry mate v) → (entry mate v ≡ no_arc) ⊎ (entry mate v < no_arc)
      go (inl q) = inl q
      go (inr N) = inr (omega (arith, N.arc, G.few))

  -- one that is not matched is exposed
  pub is_exposed : (v : ℕ) → v < n → no_arc ≤ entry mate v → entry mate v ≡ no_arc
  is_exposed v l g = go (exposed_or_matched v l)
    where
      go : (entry mate v ≡ no_arc) ⊎ (entry mate v < no_arc) → entry mate v ≡ no_arc
      go (inl q) = q
      go (inr q) = absurd (omega arith)
