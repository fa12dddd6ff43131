-- The current arcs of the vertices: at first the first ones, then moving on, past arcs from vertices with a rank.
use mathlib.Core.Path.{◌≡◌, refl, sym, ◌∙◌, ap, subst}
use mathlib.Core.Logic.{◌≢◌, ⊎_elim}
use mathlib.Core.List.{List}
use Prim.Native.Nat.{ℕ, ◌+◌, ◌-◌, ◌<◌, ◌≤◌}
use native.Mathlib.Decide.{dec_lt}
use native.Mathlib.Omega.{arith}
use lib.ListN.{length, set, take, length-set}
use lib.Seq.{get_or-set_same, get_or-take, length-take-le}
use Rattle.packed_arcs.specs.Entries.{entry}
use Rattle.packed_arcs.proofs.ListLoops.{set_cases}
use Rattle.arc_index.specs.ArcIndex.{no_arc, next_arc}
use Rattle.arc_index.specs.Chains.{First}
use Rattle.arc_index.specs.Columns.{record_tails, record_heads}
use Rattle.arc_index.proofs.ChainSteps.{is_arc}
use Rattle.order_path.specs.Steps.{Points, Chained, Watch, MovedOn}
use Rattle.arc_index.proofs.Columns.{tails_len}

-- ---- arcs of a chain

first_points : {heads : List ℕ} {v lo e : ℕ} → First heads v lo e → Points heads v e
first_points F = record { within = λ h. (is_arc F h).0; here = λ h. (is_arc F h).1 }

-- no arc into v stands before the first
first_lowest : {heads : List ℕ} {v lo e : ℕ} → First heads v lo e → (d : ℕ) → lo ≤ d → d < length heads → entry heads d ≡ v → e ≤ d
first_lowest {heads} {v} {lo} {e} (First.found a b c f) d l h q = go (dec_lt d e)
  where
    go : Dec (d < e) → e ≤ d
    go (yes t) = absurd (f d l t q)
    go (no n) = omega arith
first_lowest (First.none a f) d l h q = absurd (f d l h q)

first_from : {heads : List ℕ} {v lo e : ℕ} → First heads v lo e → lo ≤ no_arc → lo ≤ e
first_from (First.found a b c f) h = a
first_from (First.none a f) h = omega arith

-- ---- at first

pub watch_first : {tails heads links ranks into : List ℕ} → Chained (length ranks) tails heads links → into ≡ take (length ranks) links → Watch tails heads ranks into
watch_first {tails} {heads} {links} {ranks} {into} C q = record {
  len = ap length q ∙ length-take-le (length ranks) links (omega (arith, small, C.chains.len));
  points = λ v h. subst (Points heads v) (sym (at v h)) (first_points (first v h));
  all = λ e h z. let b = C.arcs.heads_below e h in
      omega (arith, at (entry heads e) b, first_lowest (first (entry heads e) b) e (omega arith) (omega (arith, C.arcs.heads_len)) refl);
}
  where
    small : length ranks ≤ 255
    small = C.arcs.vertices

    at : (v : ℕ) → v < length ranks → entry into v ≡ entry links v
    at v h = ap (λ (l : List ℕ). entry l v) q ∙ get_or-take (length ranks) links v 0 h

    first : (v : ℕ) → v < length ranks → First heads v 0 (entry links v)
    first v h = C.chains.firsts v (omega (arith, small))

-- ---- moving on

-- e is the current arc of v
pub record Looking (rs links ranks into₀ into : List ℕ) (v e : ℕ) : Type 0 where
  pub chained : Chained (length ranks) (record_tails rs) (record_heads rs) links
  pub vertex : v < length ranks
  pub moved : MovedOn (record_tails rs) (record_heads rs) ranks into₀ v into
  pub current : e ≡ entry into v
  pub some : e < no_arc

module _ {rs links ranks into₀ into : List ℕ} {v e : ℕ} (L : Looking rs links ranks into₀ into v e) where
  abbrev tails : List ℕ
  tails = record_tails rs

  abbrev heads : List ℕ
  heads = record_heads rs

  abbrev W : Watch tails heads ranks into
  W = L.moved.watch

  P : Points heads v e
  P = subst (Points heads v) (sym L.current) (W.points v L.vertex)

  in_heads : e < length heads
  in_heads = P.within L.some

  arc_below : e < length tails
  arc_below = omega (arith, in_heads, L.chained.arcs.heads_len)

  arc_head : entry heads e ≡ v
  arc_head = P.here L.some

  next : First heads v (e + 1) (next_arc links e)
  next = subst (λ (u : ℕ). First heads u (e + 1) (next_arc links e)) arc_head (L.chained.chains.nexts e in_heads)

  slot : v < length into
  slot = omega (arith, W.len, L.vertex)

  module _ (ranked : entry ranks (entry tails e) ≢ 0) where
    abbrev into₁ : List ℕ
    into₁ = set into v (next_arc links e)

    points₁ : (u : ℕ) → u < length ranks → Points heads u (entry into₁ u)
    points₁ u h =
        ⊎_elim
        (λ p. rw (p.1, p.0) (first_points next))
        (λ p. rw p.1 (W.points u h))
        (set_cases into v (next_arc links e) u slot)

    all₁ : (d : ℕ) → d < length tails → entry ranks (entry tails d) ≡ 0 → entry into₁ (entry heads d) ≤ d
    all₁ d h q =
        ⊎_elim
        (λ p. rw p.1 (first_lowest next d (after p.0) (omega (arith, L.chained.arcs.heads_len)) p.0))
        (λ p. rw p.1 (W.all d h q))
        (set_cases into v (next_arc links e) (entry heads d) slot)
      where
        other : d ≢ e
        other i = ranked (sym (ap (λ (j : ℕ). entry ranks (entry tails j)) i) ∙ q)

        after : entry heads d ≡ v → e + 1 ≤ d
        after i = omega (arith, other, W.all d h q, ap (entry into) i, L.current)

    pub moved_more : MovedOn tails heads ranks into₀ v into₁
    moved_more = record {
      watch = record { len = length-set into v (next_arc links e) ∙ W.len; points = points₁; all = all₁ };
      others = λ u n. ⊎_elim (λ p. absurd (n p.0)) (λ p. p.1 ∙ L.moved.others u n) (set_cases into v (next_arc links e) u slot);
    }
