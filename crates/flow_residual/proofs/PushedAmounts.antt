-- An amount that moves along parent arcs: balances, room and supply after each arc.
use mathlib.Core.Path.{◌≡◌, refl, sym, ap, subst, ◌∙◌}
use mathlib.Core.List.{List}
use mathlib.Core.Logic.{◌⊎◌, inl, inr, ⊎_elim}
use Prim.Native.Nat.{ℕ, ◌+◌, ◌*◌, ◌-◌, ◌<◌, ◌≤◌, min}
use native.Mathlib.Omega.{arith}
use lib.Dec.{eqb, ltb}
use borrow.Author.Tests.{lt-ltb, le-ltb, eq-eqb, ne_eqb}
use lib.ListN.{length, set, length-set}
use Rattle.packed_arcs.specs.Entries.{entry}
use Rattle.packed_arcs.proofs.ColumnSums.{flow_add, flow_sub}
use Rattle.packed_arcs.proofs.ListLoops.{set_cases}
use Rattle.flow_residual.specs.Residual.{unreached}
use Rattle.prelude.specs.Choice.{pick, indicator}
use Rattle.flow_residual.specs.Push.{ParentLink, PushReady, ParentArcWithin, Augmentable, Moved, code_arc, residual_capacity}

-- the vertex that the residual arc comes from
abbrev pub code_start : List ℕ → List ℕ → ℕ → ℕ
code_start from to code = pick (ltb code 4096) (entry from code) (entry to (code - 4096))

-- the amounts after g went by the residual arc
abbrev pub shifted : List ℕ → ℕ → ℕ → List ℕ
shifted x code g = pick (ltb code 4096) (set x code (entry x code + g)) (set x (code - 4096) (entry x (code - 4096) - g))

-- `left` at w after g was taken at v
pub left_sub : (l : List ℕ) (v g w : ℕ) → v < length l → g ≤ entry l v → entry (set l v (entry l v - g)) w + indicator (eqb v w) * g ≡ entry l w
left_sub l v g w h k = ⊎_elim
    (λ p. rw (p.1, eq-eqb v w (sym p.0)) (omega (arith, ap (entry l) p.0)))
    (λ p. rw (p.1, ne_eqb v w (λ e. p.0 (sym e))) (omega arith))
    (set_cases l v (entry l v - g) w h)

used_more : {par key : List ℕ} {k k' e : ℕ} → k ≤ k' → ParentArcWithin par key k e → ParentArcWithin par key k' e
used_more h u = record { by = u.by; by_ok = u.by_ok; reached = u.reached; not_root = u.not_root; near = omega (arith, u.near); code = u.code }

module _ {from to cap par key x left : List ℕ} (L : PushReady from to cap par key x left) where
  -- both ends of a used arc have keys that are near
  ends_near : (k e : ℕ) → e < length from → ParentArcWithin par key k e → (entry key (entry from e) ≤ k) × (entry key (entry to e) ≤ k)
  ends_near k e he u = go (L.links u.by u.by_ok u.reached u.not_root) u.code
    where
      go : ParentLink from to key (entry par u.by) u.by → ((entry par u.by ≡ e) ⊎ (entry par u.by ≡ 4096 + e)) → (entry key (entry from e) ≤ k) × (entry key (entry to e) ≤ k)
      go (ParentLink.forward i t d) (inl c) = (omega (arith, u.near, ap (λ (j : ℕ). entry key (entry from j)) c), omega (arith, u.near, ap (entry key) t, ap (λ (j : ℕ). entry key (entry to j)) c))
      go (ParentLink.forward i t d) (inr c) = absurd (omega (arith, L.few))
      go (ParentLink.backward e' ec i t d) (inl c) = absurd (omega (arith, L.few))
      go (ParentLink.backward e' ec i t d) (inr c) = let q : e' ≡ e = omega arith in
          (omega (arith, u.near, ap (entry key) t, ap (λ (j : ℕ). entry key (entry from j)) q), omega (arith, u.near, ap (λ (j : ℕ). entry key (entry to j)) q))

  -- what stands at a arc with an end that is not near
  same_far : (x' : List ℕ) (k e : ℕ) → e < length from → ((entry x' e ≡ entry x e) ⊎ ParentArcWithin par key k e) → (k < entry key (entry from e)) ⊎ (k < entry key (entry to e)) → entry x' e ≡ entry x e
  same_far x' k e he (inl h) f = h
  same_far x' k e he (inr u) (inl f) = absurd (omega (arith, ends_near k e he u))
  same_far x' k e he (inr u) (inr f) = absurd (omega (arith, ends_near k e he u))

  -- g moved to u, then by arc e from u to v, forward
  module _ {x₁ left₁ : List ℕ} (v e want room g : ℕ) (hv : v < length key) (hr : entry key v < unreached) (h0 : 0 < entry key v) (hw : room ≤ want)
      (he : e < length from) (hs : Augmentable cap par key x left → 0 < want → 0 < room) where
    pub moved_forward : entry par v ≡ e → entry to e ≡ v → entry key (entry from e) < entry key v → room ≤ entry cap e - entry x e
        → Moved from to cap par key x left x₁ left₁ (entry from e) room g → Moved from to cap par key x left (set x₁ e (entry x₁ e + g)) left₁ v want g
    moved_forward hc ht hd hroom m = record {
      x_len = length-set x₁ e (entry x₁ e + g) ∙ m.x_len;
      left_len = m.left_len;
      most = omega (arith, m.most);
      less = m.less;
      within = λ j hj. ⊎_elim
          (λ p. rw p.1 (omega (arith, ap (entry cap) p.0, same, m.most, L.within e he)))
          (λ p. rw p.1 (m.within j hj))
          (set_cases x₁ e (entry x₁ e + g) j len₁);
      only = λ j. ⊎_elim
          (λ p. inr (record { by = v; by_ok = hv; reached = hr; not_root = h0; near = omega arith; code = inl (hc ∙ sym p.0) }))
          (λ p. ⊎_elim (λ q. inl (p.1 ∙ q)) (λ u. inr (used_more (omega arith) u)) (m.only j))
          (set_cases x₁ e (entry x₁ e + g) j len₁);
      balance = λ w. omega (arith, m.balance w, flow_add from x₁ e g w he (omega (arith, m.x_len, L.x_len)), flow_add to x₁ e g w (omega (arith, L.to_len)) (omega (arith, m.x_len, L.x_len, L.to_len)), ap (λ (z : ℕ). indicator (eqb z w) * g) ht);
      some = λ O h. m.some O (hs O h);
    }
      where
        len₁ : e < length x₁
        len₁ = omega (arith, m.x_len, L.x_len)

        same : entry x₁ e ≡ entry x e
        same = same_far x₁ (entry key (entry from e)) e he (m.only e) (inr (omega (arith, ap (entry key) ht)))

    pub moved_backward : entry par v ≡ 4096 + e → entry from e ≡ v → entry key (entry to e) < entry key v → room ≤ entry x e
        → Moved from to cap par key x left x₁ left₁ (entry to e) room g → Moved from to cap par key x left (set x₁ e (entry x₁ e - g)) left₁ v want g
    moved_backward hc ht hd hroom m = record {
      x_len = length-set x₁ e (entry x₁ e - g) ∙ m.x_len;
      left_len = m.left_len;
      most = omega (arith, m.most);
      less = m.less;
      within = λ j hj. ⊎_elim
          (λ p. rw p.1 (omega (arith, ap (entry cap) p.0, same, L.within e he)))
          (λ p. rw p.1 (m.within j hj))
          (set_cases x₁ e (entry x₁ e - g) j len₁);
      only = λ j. ⊎_elim
          (λ p. inr (record { by = v; by_ok = hv; reached = hr; not_root = h0; near = omega arith; code = inr (hc ∙ ap (◌+◌ 4096) (sym p.0)) }))
          (λ p. ⊎_elim (λ q. inl (p.1 ∙ q)) (λ u. inr (used_more (omega arith) u)) (m.only j))
          (set_cases x₁ e (entry x₁ e - g) j len₁);
      balance = λ w. omega (arith, m.balance w, flow_sub from x₁ e g w he (omega (arith, m.x_len, L.x_len)) small, flow_sub to x₁ e g w (omega (arith, L.to_len)) (omega (arith, m.x_len, L.x_len, L.to_len)) small, ap (λ (z : ℕ). indicator (eqb z w) * g) ht);
      some = λ O h. m.some O (hs O h);
    }
      where
        len₁ : e < length x₁
        len₁ = omega (arith, m.x_len, L.x_len)

        same : entry x₁ e ≡ entry x e
        same = same_far x₁ (entry key (entry to e)) e he (m.only e) (inl (omega (arith, ap (entry key) ht)))

        small : g ≤ entry x₁ e
        small = omega (arith, same, m.most)

  -- the arc of a vertex that is no root, by its code
  module _ (v : ℕ) (hv : v < length key) (hr : entry key v < unreached) (h0 : entry key v ≡ 0 → ⊥) where
    pos : 0 < entry key v
    pos = omega (arith, h0)

    link : ParentLink from to key (entry par v) v
    link = L.links v hv hr pos

    pub start_ok : (code_start from to (entry par v) < length key) × (entry key (code_start from to (entry par v)) < entry key v)
    start_ok = go (entry par v) link
      where
        go : (code : ℕ) → ParentLink from to key code v → (code_start from to code < length key) × (entry key (code_start from to code) < entry key v)
        go code (ParentLink.forward i t d) = let h : code < 4096 = omega (arith, L.few) in simp (lt-ltb _ _ h) (L.tails code i, d)
        go code (ParentLink.backward e ec i t d) =
            let h : 4096 ≤ code = omega arith in
            let q : code - 4096 ≡ e = omega arith in
            simp (le-ltb _ _ h, q) (L.heads e i, d)

    module _ (u want room g : ℕ) (x₁ left₁ : List ℕ) (eu : u ≡ code_start from to (entry par v)) (er : room ≡ min want (residual_capacity cap x (entry par v)))
        (m : Moved from to cap par key x left x₁ left₁ u room g) where
      fits : room ≤ residual_capacity cap x (entry par v)
      fits = omega arith

      some_room : Augmentable cap par key x left → 0 < want → 0 < room
      some_room O h = omega (arith, O.rooms v hv hr pos)

      pub shift_ok : ((e : ℕ) → entry cap e < 65536)
          → (code_arc (entry par v) < length x₁) × (entry par v < 4096 → entry x₁ (entry par v) + g ≤ 65535) × (4096 ≤ entry par v → g ≤ entry x₁ (entry par v - 4096))
      shift_ok hc = go (entry par v) link eu fits
        where
          go : (code : ℕ) → ParentLink from to key code v → u ≡ code_start from to code → room ≤ residual_capacity cap x code
              → (code_arc code < length x₁) × (code < 4096 → entry x₁ code + g ≤ 65535) × (4096 ≤ code → g ≤ entry x₁ (code - 4096))
          go code (ParentLink.forward i t d) eu' hr' =
              let h : code < 4096 = omega (arith, L.few) in
              let same : entry x₁ code ≡ entry x code = same_far x₁ (entry key u) code i (m.only code) (inr (omega (arith, ap (entry key) t, ap (entry key) (simp (lt-ltb _ _ h) at eu')))) in
              simp (lt-ltb _ _ h) (omega (arith, m.x_len, L.x_len), λ _. omega (arith, simp (lt-ltb _ _ h) at hr', m.most, hc code, L.within code i), λ f. absurd (omega arith))
          go code (ParentLink.backward e ec i t d) eu' hr' =
              let h : 4096 ≤ code = omega arith in
              let q : code - 4096 ≡ e = omega arith in
              let same : entry x₁ e ≡ entry x e = same_far x₁ (entry key u) e i (m.only e) (inl (omega (arith, ap (entry key) t, ap (entry key) (simp (le-ltb _ _ h, q) at eu')))) in
              simp (le-ltb _ _ h, q) (omega (arith, m.x_len, L.x_len), λ f. absurd (omega arith), λ _. omega (arith, simp (le-ltb _ _ h, q) at hr', m.most))

      pub moved_step : (x' : List ℕ) → x' ≡ shifted x₁ (entry par v) g → Moved from to cap par key x left x' left₁ v want g
      moved_step x' ex = go (entry par v) refl link eu fits ex
        where
          go : (code : ℕ) → entry par v ≡ code → ParentLink from to key code v → u ≡ code_start from to code → room ≤ residual_capacity cap x code → x' ≡ shifted x₁ code g → Moved from to cap par key x left x' left₁ v want g
          go code ec' (ParentLink.forward i t d) eu' hr' ex' =
              let h : code < 4096 = omega (arith, L.few) in
              subst (λ (z : List ℕ). Moved from to cap par key x left z left₁ v want g) (sym (simp (lt-ltb _ _ h) at ex'))
              (moved_forward v code want room g hv hr pos (omega arith) i some_room ec' t d (simp (lt-ltb _ _ h) at hr')
              (subst (λ (z : ℕ). Moved from to cap par key x left x₁ left₁ z room g) (simp (lt-ltb _ _ h) at eu') m))
          go code ec' (ParentLink.backward e ec i t d) eu' hr' ex' =
              let h : 4096 ≤ code = omega arith in
              let q : code - 4096 ≡ e = omega arith in
              subst (λ (z : List ℕ). Moved from to cap par key x left z left₁ v want g) (sym (simp (le-ltb _ _ h, q) at ex'))
              (moved_backward v e want room g hv hr pos (omega arith) i some_room (ec' ∙ ec) t d (simp (le-ltb _ _ h, q) at hr')
              (subst (λ (z : ℕ). Moved from to cap par key x left x₁ left₁ z room g) (simp (le-ltb _ _ h, q) at eu') m))
