-- Keys that fall: what a lowering of keys keeps, and potentials raised by keys.
use mathlib.Core.Path.{◌≡◌, refl, sym, ap, subst, ◌∙◌}
use mathlib.Core.List.{List}
use mathlib.Core.Logic.{⊎_elim}
use Prim.Native.Nat.{ℕ, ◌+◌, ◌/◌, ◌<◌, ◌≤◌, min}
use native.Mathlib.Omega.{arith}
use lib.ListN.{length, set, length-set}
use lib.Seq.{get_or-set_same, get_or-set_other}
use Rattle.packed_arcs.specs.Entries.{entry}
use Rattle.packed_arcs.proofs.ListLoops.{set_cases}
use Rattle.flow_residual.specs.Residual.{unreached, ResidualNetwork, tail, head, key_beyond, ParentArc, ParentTree, LoweredKeys}

pub lower_refl : (N : ResidualNetwork) (key par : List ℕ) → LoweredKeys N key par key par
lower_refl N key par = record { key_len = refl; par_len = refl; below = λ v. omega arith; roots = λ v h e. e; tree = λ t. t }

pub lower_trans : {N : ResidualNetwork} {k₀ p₀ k₁ p₁ k₂ p₂ : List ℕ} → LoweredKeys N k₀ p₀ k₁ p₁ → LoweredKeys N k₁ p₁ k₂ p₂ → LoweredKeys N k₀ p₀ k₂ p₂
lower_trans a b = record {
  key_len = b.key_len ∙ a.key_len;
  par_len = b.par_len ∙ a.par_len;
  below = λ v. omega (arith, a.below v, b.below v);
  roots = λ v h e. a.roots v h (b.roots v (omega (arith, a.key_len)) e);
  tree = λ t. b.tree (a.tree t);
}

-- a parent arc stays one where keys fall and the vertex's own key stays
parent_mono : {N : ResidualNetwork} {key : List ℕ} {code v : ℕ} (key' : List ℕ) → ParentArc N key code v → ((w : ℕ) → entry key' w ≤ entry key w) → entry key' v ≡ entry key v → ParentArc N key' code v
parent_mono {N} {key} {code} {v} key' (ParentArc.forward i j t u o) b e = ParentArc.forward i j t (omega (arith, b (tail N code))) (omega (arith, b (tail N code)))
parent_mono {N} {key} {code} {v} key' (ParentArc.backward e' ec i j t u o) b e = ParentArc.backward e' ec i j t (omega (arith, b (head N e'))) (omega (arith, b (head N e')))

-- A key that fell: that of v to reach, by a residual arc from u of length len.
module _ (N : ResidualNetwork) (u v len code reach : ℕ) (key par : List ℕ) (hv : v < length key) (hp : length par ≡ length key) (hu : entry key u < unreached)
    (q : reach ≡ key_beyond (entry key u) len) (hk : reach < entry key v)
    (parent : (k : List ℕ) → entry k u < unreached → key_beyond (entry k u) len ≤ entry k v → ParentArc N k code v) where
  abbrev key₁ : List ℕ
  key₁ = set key v reach

  abbrev par₁ : List ℕ
  par₁ = set par v code

  below₁ : (w : ℕ) → entry key₁ w ≤ entry key w
  below₁ w = ⊎_elim (λ p. rw p.1 (omega (arith, ap (entry key) p.0))) (λ p. rw p.1 (omega arith)) (set_cases key v reach w hv)

  roots₁ : (w : ℕ) → w < length key → entry key₁ w ≡ 0 → entry key w ≡ 0
  roots₁ w hw e = ⊎_elim (λ p. absurd (omega (arith, p.1))) (λ p. sym p.1 ∙ e) (set_cases key v reach w hv)

  same_u : entry key₁ u ≡ entry key u
  same_u = ⊎_elim (λ p. absurd (omega (arith, ap (entry key) p.0))) (λ p. p.1) (set_cases key v reach u hv)

  tree₁ : ParentTree N key par → ParentTree N key₁ par₁
  tree₁ t w hw hr h0 = ⊎_elim
      (λ p. subst (λ (j : ℕ). ParentArc N key₁ (entry par₁ j) j) (sym p.0)
      (subst (λ (c : ℕ). ParentArc N key₁ c v) (sym (get_or-set_same par v code 0 (omega arith)))
      (parent key₁ (omega (arith, same_u)) (omega (arith, same_u, get_or-set_same key v reach 0 hv)))))
      (λ p. subst (λ (c : ℕ). ParentArc N key₁ c w) (sym (get_or-set_other par v w code 0 p.0))
      (parent_mono key₁ (t w (omega (arith, length-set key v reach)) (omega (arith, p.1)) (omega (arith, p.1))) below₁ p.1))
      (set_cases key v reach w hv)

  pub lower_one : LoweredKeys N key par key₁ par₁
  lower_one = record { key_len = length-set key v reach; par_len = length-set par v code; below = below₁; roots = roots₁; tree = tree₁ }

-- potentials raised below v, and as they were from v on
pub record Raising (d : ℕ) (key pi₀ pi : List ℕ) (v : ℕ) : Type 0 where
  pub within : v ≤ length key
  pub len : length pi ≡ length pi₀
  pub below : (j : ℕ) → j < v → entry pi j ≡ entry pi₀ j + min (entry key j) d / 256
  pub above : (j : ℕ) → v ≤ j → entry pi j ≡ entry pi₀ j
