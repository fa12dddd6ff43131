-- The columns of records: how long they are, and what stands in them.
use mathlib.Core.Path.{◌≡◌, ◌∙◌, ap}
use mathlib.Core.List.{List}
use Prim.Native.Nat.{ℕ}
use lib.ListN.{length, length-map, get_or-map}
use Rattle.arc_records.specs.Arcs.{Arc, word_arc, word_arcs}
use Rattle.packed_arcs.specs.Entries.{entry}
use Rattle.arc_index.specs.Columns.{record_tails, record_heads, record_weights}

pub tails_len : (rs : List ℕ) → length (record_tails rs) ≡ length rs
tails_len rs = length-map (word_arcs rs) (λ e. e.tail) ∙ length-map rs word_arc

pub heads_len : (rs : List ℕ) → length (record_heads rs) ≡ length rs
heads_len rs = length-map (word_arcs rs) (λ e. e.head) ∙ length-map rs word_arc

pub weights_len : (rs : List ℕ) → length (record_weights rs) ≡ length rs
weights_len rs = length-map (word_arcs rs) (λ e. e.weight) ∙ length-map rs word_arc

pub tail_is : (rs : List ℕ) (e : ℕ) → entry (record_tails rs) e ≡ (word_arc (entry rs e)).tail
tail_is rs e = get_or-map (λ a. a.tail) (word_arcs rs) e (word_arc 0) ∙ ap (λ (a : Arc). a.tail) (get_or-map word_arc rs e 0)

pub head_is : (rs : List ℕ) (e : ℕ) → entry (record_heads rs) e ≡ (word_arc (entry rs e)).head
head_is rs e = get_or-map (λ a. a.head) (word_arcs rs) e (word_arc 0) ∙ ap (λ (a : Arc). a.head) (get_or-map word_arc rs e 0)

pub weight_is : (rs : List ℕ) (e : ℕ) → entry (record_weights rs) e ≡ (word_arc (entry rs e)).weight
weight_is rs e = get_or-map (λ a. a.weight) (word_arcs rs) e (word_arc 0) ∙ ap (λ (a : Arc). a.weight) (get_or-map word_arc rs e 0)
