-- What moves over residual arcs is conserved: one step, and steps in a row.
use mathlib.Core.Path.{◌≡◌, refl, sym, ap, ◌∙◌}
use mathlib.Core.List.{List}
use mathlib.Core.Logic.{⊎_elim}
use Prim.Native.Nat.{ℕ, ◌+◌, ◌*◌, ◌-◌, ◌<◌, ◌≤◌, min}
use native.Mathlib.Omega.{arith}
use lib.Dec.{eqb}
use borrow.Author.Tests.{eq-eqb, ne_eqb}
use lib.ListN.{length, set, length-set, length-map}
use mir.Syntax.{w32}
use mir.Val.{Fits}
use Rattle.prelude.specs.Choice.{indicator}
use Rattle.packed_arcs.specs.Entries.{entry, sum, flow_at}
use Rattle.packed_arcs.specs.PackedArcs.{tail_of, head_of, capacity_of, tails_of, heads_of}
use Rattle.packed_arcs.proofs.ArcColumns.{columns, listed, tail_at, head_at, capacity_at}
use Rattle.packed_arcs.proofs.ColumnSums.{flow_add, flow_sub}
use Rattle.packed_arcs.proofs.ListLoops.{set_cases}
use Rattle.packed_arcs.proofs.Sums.{sum_at, entry_sum}
use Rattle.arc_index.specs.Chains.{Chains, First}
use Rattle.flow_arcs.specs.Directions.{start_of, end_of, room, carried}
use Rattle.flow_arcs.specs.Links.{Links}
use Rattle.flow_arcs.specs.declared.direction.Direction.{Direction}
use Rattle.flow_arcs.specs.declared.direction.Direction.TheVariants.{Forward, Back}
use Rattle.flow_moves.specs.Preflow.{Conserved, PackedConserved, Ready, Moves, transferred}

-- ---- what stands at the vertices

-- at w after g was taken at v, and after g was added at v
taken_at : (l : List ℕ) (v g w : ℕ) → v < length l → g ≤ entry l v → entry (set l v (entry l v - g)) w + indicator (eqb v w) * g ≡ entry l w
taken_at l v g w h k = ⊎_elim
    (λ p. rw (p.1, eq-eqb v w (sym p.0)) (omega (arith, ap (entry l) p.0)))
    (λ p. rw (p.1, ne_eqb v w (λ e. p.0 (sym e))) (omega arith))
    (set_cases l v (entry l v - g) w h)

added_at : (l : List ℕ) (v g w : ℕ) → v < length l → entry (set l v (entry l v + g)) w ≡ entry l w + indicator (eqb v w) * g
added_at l v g w h = ⊎_elim
    (λ p. rw (p.1, eq-eqb v w (sym p.0)) (omega (arith, ap (entry l) p.0)))
    (λ p. rw (p.1, ne_eqb v w (λ e. p.0 (sym e))) (omega arith))
    (set_cases l v (entry l v + g) w h)

-- what was taken at a can be added anywhere
pub transfer_fits : (left : List ℕ) (a g w : ℕ) → a < length left → g ≤ entry left a → sum left ≤ 2147483648 → Fits w32 (entry (set left a (entry left a - g)) w + g)
transfer_fits left a g w ha hg hs = omega (arith, entry_sum (set left a (entry left a - g)) w, sum_at left a (entry left a - g) ha)

module _ (left : List ℕ) (a b g : ℕ) (ha : a < length left) (hb : b < length left) (hg : g ≤ entry left a) where
  abbrev less : List ℕ
  less = set left a (entry left a - g)

  less_len : length less ≡ length left
  less_len = length-set left a (entry left a - g)

  pub transferred_len : length (transferred left a b g) ≡ length left
  transferred_len = length-set less b (entry less b + g) ∙ less_len

  pub transferred_sum : sum (transferred left a b g) ≡ sum left
  transferred_sum = omega (arith, sum_at less b (entry less b + g) (omega (arith, less_len)), sum_at left a (entry left a - g) ha)

  pub transferred_at : (w : ℕ) → entry (transferred left a b g) w + indicator (eqb a w) * g ≡ entry left w + indicator (eqb b w) * g
  transferred_at w = omega (arith, taken_at left a g w ha hg, added_at less b g w (omega (arith, less_len)))

-- ---- one step

-- g moves from a to b, and the amounts become x', which say the same of what came and went at each vertex
module _ {from to cap start x left x' : List ℕ} {a b g : ℕ} (C : Conserved from to cap start x left) (ha : a < length left) (hb : b < length left) (hg : g ≤ entry left a)
    (len : length x' ≡ length x) (fits : (e : ℕ) → e < length from → entry x' e ≤ entry cap e)
    (same : (w : ℕ) → flow_at from x' w + flow_at to x w + indicator (eqb b w) * g ≡ flow_at to x' w + flow_at from x w + indicator (eqb a w) * g) where
  moved_conserved : Conserved from to cap start x' (transferred left a b g)
  moved_conserved =
      let kept = transferred_len left a b g ha hb hg in
      record {
        few = C.few;
        to_len = C.to_len;
        cap_len = C.cap_len;
        x_len = len ∙ C.x_len;
        left_len = kept ∙ C.left_len;
        small = C.small;
        tails = λ j h. omega (arith, C.tails j h, kept);
        heads = λ j h. omega (arith, C.heads j h, kept);
        within = fits;
        balance = λ w. omega (arith, C.balance w, same w, transferred_at left a b g ha hb hg w);
        total = transferred_sum left a b g ha hb hg ∙ C.total;
        bounded = C.bounded;
      }

-- it moves along the residual arc e
module _ {from to cap start x left : List ℕ} (C : Conserved from to cap start x left) (e g : ℕ) (he : e < length from) where
  fits_at : (y : ℕ) → y ≤ entry cap e → (j : ℕ) → j < length from → entry (set x e y) j ≤ entry cap j
  fits_at y h j hj = ⊎_elim (λ p. rw p.1 (omega (arith, ap (entry cap) p.0))) (λ p. rw p.1 (C.within j hj)) (set_cases x e y j (omega (arith, C.x_len)))

  forward_conserved : g ≤ entry left (entry from e) → g ≤ entry cap e - entry x e
      → Conserved from to cap start (set x e (entry x e + g)) (transferred left (entry from e) (entry to e) g)
  forward_conserved hg hc =
      moved_conserved C (C.tails e he) (C.heads e he) hg (length-set x e (entry x e + g)) (fits_at (entry x e + g) (omega (arith, C.within e he)))
      (λ w. omega (arith, flow_add from x e g w he C.x_len, flow_add to x e g w (omega (arith, C.to_len)) (omega (arith, C.x_len, C.to_len))))

  backward_conserved : g ≤ entry left (entry to e) → g ≤ entry x e
      → Conserved from to cap start (set x e (entry x e - g)) (transferred left (entry to e) (entry from e) g)
  backward_conserved hg hc =
      moved_conserved C (C.heads e he) (C.tails e he) hg (length-set x e (entry x e - g)) (fits_at (entry x e - g) (omega (arith, C.within e he)))
      (λ w. omega (arith, flow_sub from x e g w he C.x_len hc, flow_sub to x e g w (omega (arith, C.to_len)) (omega (arith, C.x_len, C.to_len)) hc))

-- ---- steps in a row

pub moves_none : {arcs x left : List ℕ} → Moves arcs x left x left
moves_none = record { x_len = refl; left_len = refl; keeps = λ s c. c }

pub moves_then : {arcs x left x₁ left₁ x₂ left₂ : List ℕ} → Moves arcs x left x₁ left₁ → Moves arcs x₁ left₁ x₂ left₂ → Moves arcs x left x₂ left₂
moves_then m k = record { x_len = k.x_len ∙ m.x_len; left_len = k.left_len ∙ m.left_len; keeps = λ s c. k.keeps s (m.keeps s c) }

pub ready_then : {arcs x left x' left' : List ℕ} → Ready arcs x left → Moves arcs x left x' left' → Ready arcs x' left'
ready_then r m = record { start = r.start; holds = m.keeps r.start r.holds }

-- ---- what the code reads and asks

-- what is known of the arc e
pub record ArcFacts (arcs x left : List ℕ) (e : ℕ) : Type 0 where
  pub few : length arcs ≤ 4096
  pub x_len : length x ≡ length arcs
  pub small : length left ≤ 255
  pub tail : tail_of (entry arcs e) < length left
  pub head : head_of (entry arcs e) < length left
  pub within : entry x e ≤ capacity_of (entry arcs e)
  pub bounded : sum left ≤ 2147483648

pub arc_facts : {arcs x left : List ℕ} {e : ℕ} → e < length arcs → Ready arcs x left → ArcFacts arcs x left e
arc_facts {arcs} {x} {left} {e} h r =
    let c = r.holds in
    record {
      few = omega (arith, c.few, columns arcs);
      x_len = c.x_len ∙ columns arcs;
      small = omega (arith, c.small, c.left_len);
      tail = omega (arith, c.tails e (listed arcs e h), tail_at arcs e);
      head = omega (arith, c.heads e (listed arcs e h), head_at arcs e);
      within = omega (arith, c.within e (listed arcs e h), capacity_at arcs e);
      bounded = omega (arith, c.bounded, c.total);
    }

-- both ends of a residual arc are vertices
pub start_inside : {arcs x left : List ℕ} {e : ℕ} → ArcFacts arcs x left e → (d : Direction) → start_of d (entry arcs e) < length left
start_inside F Forward = F.tail
start_inside F Back = F.head

pub end_inside : {arcs x left : List ℕ} {e : ℕ} → ArcFacts arcs x left e → (d : Direction) → end_of d (entry arcs e) < length left
end_inside F Forward = F.head
end_inside F Back = F.tail

-- one step along the residual arc e of packed arcs
module _ {arcs x left : List ℕ} {e : ℕ} (h : e < length arcs) (r : Ready arcs x left) where
  ends : (entry (tails_of arcs) e ≡ tail_of (entry arcs e)) × (entry (heads_of arcs) e ≡ head_of (entry arcs e))
  ends = (tail_at arcs e, head_at arcs e)

  step_conserved : (d : Direction) (g : ℕ) → g ≤ entry left (start_of d (entry arcs e)) → g ≤ room d (entry arcs e) (entry x e) → (s : List ℕ) → PackedConserved arcs s x left
      → PackedConserved arcs s (set x e (carried d (entry x e) g)) (transferred left (start_of d (entry arcs e)) (end_of d (entry arcs e)) g)
  step_conserved Forward g hg hr s c =
      rw (← ends.0, ← ends.1) (forward_conserved c e g (listed arcs e h) (rw ends.0 hg) (omega (arith, capacity_at arcs e)))
  step_conserved Back g hg hr s c =
      rw (← ends.0, ← ends.1) (backward_conserved c e g (listed arcs e h) (rw ends.1 hg) hr)

  pub step_moves : (d : Direction) {a b k g y : ℕ} {left' : List ℕ} → a ≡ start_of d (entry arcs e) → b ≡ end_of d (entry arcs e) → k ≡ room d (entry arcs e) (entry x e)
      → g ≡ min (entry left a) k → y ≡ carried d (entry x e) g → left' ≡ transferred left a b g → Moves arcs x left (set x e y) left'
  step_moves d {a} {b} {k} {g} {y} {left'} ea eb ek eg ey el =
      let f = arc_facts h r in
      let hg : g ≤ entry left a = omega arith in
      record {
        x_len = length-set x e y;
        left_len = ap length el ∙ transferred_len left a b g (rw ea (start_inside f d)) (rw eb (end_inside f d)) hg;
        keeps = λ s c. rw (el, ey, ea, eb) (step_conserved d g (rw ea at hg) (omega arith) s c);
      }

-- ---- walks along links

-- the links of a column give on to later arcs
chained : (arcs : List ℕ) {ends links : List ℕ} → length ends ≡ length arcs → Chains ends links → Links arcs links
chained arcs {ends} {links} el c = record { few = omega (arith, c.few); len = omega (arith, c.len); later = λ e h. go e (c.nexts e (omega arith)) (omega (arith, c.few)) }
  where
    go : (e : ℕ) → First ends (entry ends e) (e + 1) (entry links (256 + e)) → e < 4096 → e < entry links (256 + e)
    go e (First.found a b d f) h = omega arith
    go e (First.none a f) h = omega arith

pub out_links : {arcs out : List ℕ} → Chains (tails_of arcs) out → Links arcs out
out_links {arcs} c = chained arcs (columns arcs) c

pub into_links : {arcs into : List ℕ} → Chains (heads_of arcs) into → Links arcs into
into_links {arcs} c = chained arcs (length-map arcs head_of) c

-- what a state tells of the lengths
pub record Sizes (arcs x left : List ℕ) : Type 0 where
  pub few : length arcs ≤ 4096
  pub x_len : length x ≡ length arcs
  pub small : length left ≤ 255

pub sizes : {arcs x left : List ℕ} → Ready arcs x left → Sizes arcs x left
sizes {arcs} r = record { few = omega (arith, r.holds.few, columns arcs); x_len = r.holds.x_len ∙ columns arcs; small = omega (arith, r.holds.small, r.holds.left_len) }
