-- The ends of the arcs of records, and of packed arcs: how many, what stands in them, and the chains of their index.
use mathlib.Core.Path.{◌≡◌, refl, ap, ◌∙◌}
use mathlib.Core.List.{List, [], ◌∷◌, map}
use Prim.Native.Nat.{ℕ, ◌<◌, ◌≤◌}
use native.Mathlib.Omega.{arith}
use lib.ListN.{length, length-map}
use Rattle.prelude.specs.Lists.{Every}
use Rattle.arc_records.specs.Arcs.{word_arc, word_arcs}
use Rattle.packed_arcs.specs.PackedArcs.{tail_of, head_of}
use Rattle.arc_index.specs.ArcIndex.{no_arc, links_of, record_end, record_ends, packed_ends}
use Rattle.arc_index.specs.declared.End.{End}
use Rattle.arc_index.specs.declared.End.TheVariants.{Tail, Head}
use Rattle.arc_index.specs.Chains.{Chains}
use Rattle.arc_index.proofs.Chains.{links_chains}

-- ---- of records

pub ends_len : (end : End) (rs : List ℕ) → length (record_ends end rs) ≡ length rs
ends_len Tail rs = length-map (word_arcs rs) (λ e. e.tail) ∙ length-map rs word_arc
ends_len Head rs = length-map (word_arcs rs) (λ e. e.head) ∙ length-map rs word_arc

-- each is the end of its record
pub ends_are : (end : End) (rs : List ℕ) → map (record_end end) rs ≡ record_ends end rs
ends_are Tail [] = refl
ends_are Tail (r ∷ rs) = ap (λ (vs : List ℕ). (word_arc r).tail ∷ vs) (ends_are Tail rs)
ends_are Head [] = refl
ends_are Head (r ∷ rs) = ap (λ (vs : List ℕ). (word_arc r).head ∷ vs) (ends_are Head rs)

-- each is a vertex
pub ends_below : (end : End) (rs : List ℕ) → Every (λ v. v < 256) (record_ends end rs)
ends_below Tail [] = tt
ends_below Tail (r ∷ rs) = (omega arith, ends_below Tail rs)
ends_below Head [] = tt
ends_below Head (r ∷ rs) = (omega arith, ends_below Head rs)

-- the chains of their index
pub record_chains : (end : End) (rs : List ℕ) → length rs ≤ no_arc → Chains (record_ends end rs) (links_of (record_ends end rs))
record_chains end rs h = links_chains (record_ends end rs) (omega (arith, ends_len end rs)) (ends_below end rs)

-- ---- of packed arcs

pub packed_len : (end : End) (arcs : List ℕ) → length (packed_ends end arcs) ≡ length arcs
packed_len Tail arcs = length-map arcs tail_of
packed_len Head arcs = length-map arcs head_of

-- each is a vertex
pub packed_below : (end : End) (arcs : List ℕ) → Every (λ v. v < 256) (packed_ends end arcs)
packed_below Tail [] = tt
packed_below Tail (a ∷ arcs) = (omega arith, packed_below Tail arcs)
packed_below Head [] = tt
packed_below Head (a ∷ arcs) = (omega arith, packed_below Head arcs)

-- the chains of their index
pub packed_chains : (end : End) (arcs : List ℕ) → length arcs ≤ no_arc → Chains (packed_ends end arcs) (links_of (packed_ends end arcs))
packed_chains end arcs h = links_chains (packed_ends end arcs) (omega (arith, packed_len end arcs)) (packed_below end arcs)
