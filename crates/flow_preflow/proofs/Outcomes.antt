-- The outcome of a call, from the test's result u, which the code negates, and from what the work after it gave.
use mathlib.Core.Path.{◌≡◌, refl, sym, ap, ◌∙◌, subst}
use mathlib.Core.Bool.{Bool, true, false, not, ◌&&◌}
use mathlib.Core.List.{List}
use Prim.Native.Nat.{ℕ, ◌+◌, ◌<◌, ◌≤◌}
use native.Mathlib.Omega.{arith}
use lib.Dec.{eqb, ltb, leb, eqb→eq, leb→le, ltb→lt}
use lib.ListN.{length, length-map, length-replicate}
use Rattle.prelude.proofs.Booleans.{and_left, and_right, true→T}
use Rattle.prelude.proofs.Tested.{passed, refused as failed}
use Rattle.packed_arcs.specs.Entries.{zero_list}
use Rattle.packed_arcs.specs.PackedArcs.{head_of, capacity_of, tails_of, heads_of}
use Rattle.packed_arcs.specs.Limits.{arcs_fit}
use Rattle.packed_arcs.proofs.ArcColumns.{columns}
use Rattle.packed_arcs.proofs.ColumnSums.{flow_none}
use Rattle.packed_arcs.proofs.LentParts.{zero_at}
use Rattle.packed_arcs.proofs.LimitTests.{Fitting, fitting, tail_below, head_below}
use Rattle.arc_index.specs.Chains.{Chains}
use Rattle.arc_index.specs.declared.End.TheVariants.{Tail, Head}
use Rattle.arc_index.proofs.Building.{Built, links_built}
use Rattle.arc_index.proofs.Ends.{packed_chains}
use Rattle.flow_moves.specs.Preflow.{PackedConserved, standing_at, preflowable, Ready, Moves}
use Rattle.flow_moves.proofs.Standing.{standing_len, standing_sum}
use Rattle.flow_preflow.specs.Outcome.{PreflowOutcome}

-- ---- what it is to pass the test

pub record Preflowable (arcs : List ℕ) (s t supply amounts n outs intos : ℕ) : Type 0 where
  pub fit : Fitting arcs amounts n
  pub source : s < n
  pub sink : t < n
  pub bounded : supply ≤ 2147483648
  pub out_len : outs ≡ 256 + length arcs
  pub into_len : intos ≡ 256 + length arcs

pub preflowable_facts : (arcs : List ℕ) (s t supply amounts n outs intos : ℕ) → preflowable arcs s t supply amounts n outs intos ≡ true
    → Preflowable arcs s t supply amounts n outs intos
preflowable_facts arcs s t supply amounts n outs intos ok =
    let two = ltb s n && ltb t n in
    let three = two && leb supply 2147483648 in
    let four = three && eqb outs (256 + length arcs) in
    let five = four && eqb intos (256 + length arcs) in
    let h = true→T (preflowable arcs s t supply amounts n outs intos) ok in
    let h5 = and_left five (arcs_fit arcs amounts n) h in
    let h4 = and_left four (eqb intos (256 + length arcs)) h5 in
    let h3 = and_left three (eqb outs (256 + length arcs)) h4 in
    let h2 = and_left two (leb supply 2147483648) h3 in
    record {
      fit = fitting arcs amounts n (and_right five (arcs_fit arcs amounts n) h);
      source = ltb→lt s n (and_left (ltb s n) (ltb t n) h2);
      sink = ltb→lt t n (and_right (ltb s n) (ltb t n) h2);
      bounded = leb→le supply 2147483648 (and_right two (leb supply 2147483648) h3);
      out_len = eqb→eq outs (256 + length arcs) (and_right three (eqb outs (256 + length arcs)) h4);
      into_len = eqb→eq intos (256 + length arcs) (and_right four (eqb intos (256 + length arcs)) h5);
    }

-- ---- the supply at s, before anything moved

pub start_conserved : {arcs : List ℕ} {amounts n : ℕ} → Fitting arcs amounts n → (s supply : ℕ) → s < n → supply ≤ 2147483648
    → PackedConserved arcs (standing_at n s supply) (zero_list amounts) (standing_at n s supply)
start_conserved {arcs} {amounts} {n} F s supply hs hb =
    let len = standing_len n s supply in
    record {
      few = omega (arith, columns arcs, F.few);
      to_len = length-map arcs head_of ∙ sym (columns arcs);
      cap_len = length-map arcs capacity_of ∙ sym (columns arcs);
      x_len = length-replicate amounts 0 ∙ F.one_each ∙ sym (columns arcs);
      left_len = refl;
      small = omega (arith, len, F.small);
      tails = λ e h. omega (arith, len, tail_below F e (omega (arith, columns arcs)));
      heads = λ e h. omega (arith, len, head_below F e (omega (arith, columns arcs)));
      within = λ e h. omega (arith, zero_at amounts e);
      balance = λ w. omega (arith, flow_none (tails_of arcs) amounts w, flow_none (heads_of arcs) amounts w);
      total = refl;
      bounded = omega (arith, standing_sum n s supply hs);
    }

-- ---- the outcome

-- the test is passed
pub record Passed (arcs : List ℕ) (s t supply : ℕ) (x left out into : List ℕ) : Type 0 where
  pub ok : preflowable arcs s t supply (length x) (length left) (length out) (length into) ≡ true

module _ (arcs : List ℕ) (s t supply : ℕ) (x left out into : List ℕ) (u : Bool)
    (e : u ≡ preflowable arcs s t supply (length x) (length left) (length out) (length into)) where
  pub preflow_refused : not u ≡ true → PreflowOutcome arcs s t supply x left out into x left out into false
  preflow_refused h =
      PreflowOutcome.refused (failed (preflowable arcs s t supply (length x) (length left) (length out) (length into)) u h e) refl refl refl refl

  pub preflow_passed : not u ≡ false → Passed arcs s t supply x left out into
  preflow_passed h = record { ok = passed (preflowable arcs s t supply (length x) (length left) (length out) (length into)) u h e }

module _ {arcs : List ℕ} {s t supply : ℕ} {x left out into : List ℕ} (P : Passed arcs s t supply x left out into) where
  pub preflow_facts : Preflowable arcs s t supply (length x) (length left) (length out) (length into)
  preflow_facts = preflowable_facts arcs s t supply (length x) (length left) (length out) (length into) P.ok

  -- the links after the arcs were indexed
  pub by_tail : {out₁ : List ℕ} → Built arcs (tails_of arcs) out out₁ → Chains (tails_of arcs) out₁
  by_tail {out₁} b =
      let f = preflow_facts in
      subst (Chains (tails_of arcs)) (sym (links_built arcs (tails_of arcs) out out₁ f.fit.few f.out_len b)) (packed_chains Tail arcs f.fit.few)

  pub by_head : {into₁ : List ℕ} → Built arcs (heads_of arcs) into into₁ → Chains (heads_of arcs) into₁
  by_head {into₁} b =
      let f = preflow_facts in
      subst (Chains (heads_of arcs)) (sym (links_built arcs (heads_of arcs) into into₁ f.fit.few f.into_len b)) (packed_chains Head arcs f.fit.few)

  -- with the supply at s, before anything moved
  module _ {x₁ left₁ : List ℕ} (S : (x₁ ≡ zero_list (length x)) × (left₁ ≡ standing_at (length left) s supply)) where
    pub supplied_len : length left₁ ≡ length left
    supplied_len = ap length S.1 ∙ standing_len (length left) s supply

    starts : PackedConserved arcs (standing_at (length left) s supply) x₁ left₁
    starts =
        let f = preflow_facts in
        subst (λ (l : List ℕ). PackedConserved arcs (standing_at (length left) s supply) l left₁) (sym S.0)
        (subst (λ (l : List ℕ). PackedConserved arcs (standing_at (length left) s supply) (zero_list (length x)) l) (sym S.1)
        (start_conserved f.fit s supply f.source f.bounded))

    pub supplied : Ready arcs x₁ left₁
    supplied = record { start = standing_at (length left) s supply; holds = starts }

    pub preflow_moved : {out₁ into₁ x' left' : List ℕ} → Built arcs (tails_of arcs) out out₁ → Built arcs (heads_of arcs) into into₁
        → Moves arcs x₁ left₁ x' left' → PreflowOutcome arcs s t supply x left out into x' left' out₁ into₁ true
    preflow_moved o i m = PreflowOutcome.moved P.ok (by_tail o) (by_head i) (m.keeps (standing_at (length left) s supply) starts)
