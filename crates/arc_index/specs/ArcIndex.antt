-- An index of arcs by one of their ends: for each vertex its arcs, chained in file order.
use Rattle.std.specs.Prelude.{Bool, ◌&&◌, List, [], ◌∷◌, map, ℕ, zero, suc, ◌+◌, eqb, leb, ltb, length, set, replicate}
use Rattle.prelude.specs.Choice.{pick}
use Rattle.prelude.specs.Lists.{list_to}
use Rattle.arc_records.specs.Arcs.{word_arc, word_arcs}
use Rattle.packed_arcs.specs.Entries.{entry}
use Rattle.packed_arcs.specs.PackedArcs.{tail_of, head_of, tails_of, heads_of}
use Rattle.arc_index.specs.declared.End.{End}
use Rattle.arc_index.specs.declared.End.TheVariants.{Tail, Head}

-- ---- the index

-- What stands where there is no arc: more than the number of any arc.
abbrev pub no_arc : ℕ
no_arc = 4096

-- The index (PANEL 9): the first arc of the vertex v stands in links at v, the arc after e at 256 + e; last holds for each vertex the place in links where its next arc is noted.
pub record Index : Type 0 where
  pub links : List ℕ
  pub last : List ℕ

-- The two lists as an index.
abbrev pub index_of : List ℕ → List ℕ → Index
index_of links last = record { links = links; last = last }

-- The first arc of the vertex v.
abbrev pub first_arc : List ℕ → ℕ → ℕ
first_arc links v = entry links v

-- The arc after e with the same end.
abbrev pub next_arc : List ℕ → ℕ → ℕ
next_arc links e = entry links (256 + e)

-- The index of no arcs, with room for m.
abbrev pub empty_index : ℕ → Index
empty_index m = index_of (replicate (256 + m) no_arc) (list_to 256 (λ v. v))

-- The arc e, whose end is v, is added at the end of the chain of v.
abbrev pub added : ℕ → ℕ → Index → Index
added e v I = index_of (set I.links (entry I.last v) e) (set I.last v (256 + e))

-- The same, and nothing for a number that no arc has.
abbrev pub added_below : ℕ → ℕ → Index → Index
added_below e v I = pick (ltb e no_arc) (added e v I) I

-- The arcs from e on, whose ends are listed, are added in file order.
unfoldable pub index_from : ℕ → List ℕ → Index → Index
index_from e [] I = I
index_from e (v ∷ vs) I = index_from (e + 1) vs (added e v I)

-- The links of the index of arcs with these ends.
abbrev pub links_of : List ℕ → List ℕ
links_of vs = (index_from 0 vs (empty_index (length vs))).links

-- ---- its chains

-- A full scan: of the arcs from e on, whose ends are listed, those whose end is v, in file order.
unfoldable pub scan_from : ℕ → List ℕ → ℕ → List ℕ
scan_from e [] v = []
scan_from e (u ∷ us) v = pick (eqb u v) (e ∷ scan_from (e + 1) us v) (scan_from (e + 1) us v)

-- At most k arcs of a chain, from e on.
unfoldable pub walk : ℕ → List ℕ → ℕ → List ℕ
walk zero links e = []
walk (suc k) links e = pick (ltb e no_arc) (e ∷ walk k links (next_arc links e)) []

-- ---- of records

-- The end of the arc of a record: its tail, or its head.
abbrev pub record_end : End → ℕ → ℕ
record_end Tail k = (word_arc k).tail
record_end Head k = (word_arc k).head

-- The ends of the arcs of the records: their tails, or their heads.
abbrev pub record_ends : End → List ℕ → List ℕ
record_ends Tail rs = map (λ e. e.tail) (word_arcs rs)
record_ends Head rs = map (λ e. e.head) (word_arcs rs)

-- ---- of packed arcs

-- The end of a packed arc: its tail, or its head.
abbrev pub packed_end : End → ℕ → ℕ
packed_end Tail arc = tail_of arc
packed_end Head arc = head_of arc

-- The ends of packed arcs: their tails, or their heads.
abbrev pub packed_ends : End → List ℕ → List ℕ
packed_ends Tail arcs = tails_of arcs
packed_ends Head arcs = heads_of arcs

-- ---- of both

-- What is indexed: few enough arcs, and links for the vertices and for each arc.
abbrev pub indexable : {A : Type 0} → List A → List ℕ → Bool
indexable arcs links = leb (length arcs) no_arc && eqb (length links) (256 + length arcs)
