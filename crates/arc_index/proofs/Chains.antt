-- The chains of a built index, and an index that is built arc by arc.
use mathlib.Core.Path.{◌≡◌, refl, ap, ◌∙◌}
use mathlib.Core.List.{List, [], ◌∷◌}
use Prim.Native.Nat.{ℕ, zero, suc, ◌+◌, ◌<◌, ◌≤◌}
use native.Mathlib.Numerals.{add-one}
use native.Mathlib.Omega.{arith}
use lib.ListN.{length, take, set}
use borrow.Author.Tests.{lt-ltb, le-ltb}
use Rattle.prelude.specs.Lists.{Every}
use Rattle.packed_arcs.specs.Entries.{entry}
use Rattle.arc_index.specs.ArcIndex.{no_arc, Index, index_of, links_of, added, added_below, index_from}
use Rattle.arc_index.specs.Chains.{First, Chains}
use Rattle.arc_index.proofs.Growing.{FirstOf, grown}

first_of : {ends : List ℕ} {v lo e : ℕ} → FirstOf (entry ends) (length ends) v lo e → First ends v lo e
first_of (FirstOf.found a b c d) = First.found a b c d
first_of (FirstOf.none a d) = First.none a d

pub links_chains : (ends : List ℕ) → length ends ≤ no_arc → Every (λ v. v < 256) ends → Chains ends (links_of ends)
links_chains ends h b =
    let G = grown (length ends) ends h (omega arith) b in
    record { few = h; len = G.room; firsts = λ v l. first_of (G.heads v l); nexts = λ e l. first_of (G.nexts e l) }

-- ---- one arc after the other

pub not_added : (e v : ℕ) (I : Index) → no_arc ≤ e → I ≡ added_below e v I
not_added e v I h = rw (le-ltb e no_arc h)

-- the arc e noted at the place p of its vertex
pub noted : (e v p : ℕ) (links last links' : List ℕ) → e < no_arc → p ≡ entry last v → links' ≡ set links p e → index_of links' (set last v (256 + e)) ≡ added_below e v (index_of links last)
noted e v p links last links' h q s =
    rw (lt-ltb e no_arc h) (ap (λ (l : List ℕ). index_of l (set last v (256 + e))) (s ∙ ap (λ (i : ℕ). set links i e) q))

index_next : (k : ℕ) (ends : List ℕ) (e : ℕ) (I : Index) → e < length ends → index_from k (take (suc e) ends) I ≡ added (k + e) (entry ends e) (index_from k (take e ends) I)
unfolding index_from
index_next k [] e I h = absurd (omega arith)
index_next k (v ∷ vs) zero I h = ap (λ (j : ℕ). added j v I) (from k)
  where
    from : (k : ℕ) → k ≡ k + 0
    from k = omega arith
index_next k (v ∷ vs) (suc e) I h =
    index_next (k + 1) vs e (added k v I) (omega arith)
    ∙ ap (λ (j : ℕ). added j (entry vs e) (index_from (k + 1) (take e vs) (added k v I))) (shift k e)
  where
    shift : (k e : ℕ) → (k + 1) + e ≡ k + suc e
    shift k e = omega arith

-- the index of one arc more
pub index_snoc : (ends : List ℕ) (e : ℕ) (I : Index) → e < length ends → index_from 0 (take (e + 1) ends) I ≡ added e (entry ends e) (index_from 0 (take e ends) I)
index_snoc ends e I h = rw add-one (index_next 0 ends e I h ∙ ap (λ (j : ℕ). added j (entry ends e) (index_from 0 (take e ends) I)) (none e))
  where
    none : (i : ℕ) → 0 + i ≡ i
    none i = omega arith

pub index_start : (ends : List ℕ) (I : Index) → index_from 0 (take 0 ends) I ≡ I
unfolding index_from
index_start [] I = refl
index_start (v ∷ vs) I = refl
