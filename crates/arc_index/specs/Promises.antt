-- What is promised of an index: its chains are what a full scan finds.
use Rattle.std.specs.Prelude.{◌≡◌, List, [], ◌∷◌, ℕ, ◌<◌, ◌≤◌, length}
use Rattle.prelude.specs.Lists.{Every, Member}
use Rattle.packed_arcs.specs.Entries.{entry}
use Rattle.arc_index.specs.ArcIndex.{no_arc, first_arc, empty_index, index_from, scan_from, walk}

-- In an index begun empty, with room for m arcs, and added to in file order, walking the chain of a vertex visits exactly the arcs that a full scan finds, each once, in file order (PANEL 9).
abbrev pub ChainIsScan : Type 0
ChainIsScan =
    (m : ℕ) (ends : List ℕ) → m ≤ no_arc → length ends ≤ m → Every (λ v. v < 256) ends → (v k : ℕ) → v < 256 → length ends < k
    → let links = (index_from 0 ends (empty_index m)).links in walk k links (first_arc links v) ≡ scan_from 0 ends v

-- Each element is less than all after it.
abbrev pub Ascending : List ℕ → Type 0
Ascending [] = Unit {0}
Ascending (a ∷ l) = Every (λ b. a < b) l × Ascending l

-- A list has exactly the arcs whose end is v, each once, in file order.
pub record ArcsAt (ends : List ℕ) (v : ℕ) (arcs : List ℕ) : Type 0 where
  pub within : (e : ℕ) → Member e arcs → e < length ends
  pub ends_at : (e : ℕ) → Member e arcs → entry ends e ≡ v
  pub all : (e : ℕ) → e < length ends → entry ends e ≡ v → Member e arcs
  pub ascending : Ascending arcs

-- A full scan finds exactly the arcs whose end is the vertex, each once, in file order.
abbrev pub ScanIsExact : Type 0
ScanIsExact = (ends : List ℕ) (v : ℕ) → ArcsAt ends v (scan_from 0 ends v)
