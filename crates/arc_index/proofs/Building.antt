-- An index that is built of a list of ends, arc by arc.
use mathlib.Core.Path.{◌≡◌, sym, ap₂, ◌∙◌}
use mathlib.Core.List.{List}
use Prim.Native.Nat.{ℕ, ◌+◌, ◌<◌, ◌≤◌}
use native.Mathlib.Omega.{arith}
use lib.ListN.{length, take}
use borrow.Author.Tests.{lt-ltb, le-leb, eq-eqb}
use Rattle.prelude.specs.Choice.{pick}
use Rattle.packed_arcs.specs.Entries.{entry}
use Rattle.arc_index.specs.ArcIndex.{no_arc, Index, added, added_below, index_from, links_of, indexable}
use Rattle.arc_index.proofs.Chains.{index_snoc, index_start}

-- ---- the index of the arcs below e

-- I has the arcs of the items below e, whose ends are listed, added to I₀
pub record AddedTo {A : Type 0} (items : List A) (ends : List ℕ) (I₀ I : Index) (e : ℕ) : Type 0 where
  pub within : e ≤ length items
  pub is : I ≡ index_from 0 (take e ends) I₀

module _ {A : Type 0} (items : List A) (ends : List ℕ) where
  pub added_none : (I₀ : Index) → AddedTo items ends I₀ I₀ 0
  added_none I₀ = record { within = omega arith; is = sym (index_start ends I₀) }

  pub added_more : length ends ≡ length items → (I₀ I J : Index) (e v : ℕ) → length items ≤ no_arc → e < length items → v ≡ entry ends e → J ≡ added_below e v I → AddedTo items ends I₀ I e
      → AddedTo items ends I₀ J (e + 1)
  added_more len I₀ I J e v few h q j A =
      let low : e < no_arc = omega arith in
      let one : J ≡ added e v I = j ∙ rw (lt-ltb e no_arc low) in
      record { within = omega arith; is = one ∙ ap₂ (λ u K. added e u K) q A.is ∙ sym (index_snoc ends e I₀ (omega arith)) }

-- ---- the whole index

-- what is handed back for links₀
abbrev pub Built : {A : Type 0} → List A → List ℕ → List ℕ → List ℕ → Type 0
Built items ends links₀ links = links ≡ pick (indexable items links₀) (links_of ends) links₀

module _ {A : Type 0} (items : List A) (ends links₀ : List ℕ) where
  -- where all is as it should be, the links are those of the index
  pub links_built : (links : List ℕ) → length items ≤ no_arc → length links₀ ≡ 256 + length items → Built items ends links₀ links → links ≡ links_of ends
  links_built links h q b = b ∙ rw (le-leb (length items) no_arc h, eq-eqb (length links₀) (256 + length items) q)
