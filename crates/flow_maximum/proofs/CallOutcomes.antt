-- The outcome of a call of `solve`, from what its preflow and the work after it gave.
use mathlib.Core.Path.{◌≡◌, refl, sym, ◌∙◌, subst}
use mathlib.Core.Bool.{Bool, true, false, ◌&&◌}
use mathlib.Core.List.{List}
use mathlib.Core.Logic.{◌⊎◌, inl, inr}
use Prim.Native.Nat.{ℕ, ◌+◌, ◌<◌}
use native.Mathlib.Omega.{arith}
use lib.Dec.{eqb, ltb, leb}
use lib.ListN.{length}
use Rattle.packed_arcs.specs.PackedArcs.{tails_of, heads_of}
use Rattle.packed_arcs.specs.Limits.{arcs_fit}
use Rattle.arc_index.specs.Chains.{Chains}
use Rattle.flow_moves.specs.Preflow.{PackedConserved, standing_at, preflowable}
use Rattle.flow_moves.proofs.Standing.{standing_len}
use Rattle.flow_preflow.specs.Outcome.{PreflowOutcome}
use Rattle.flow_preflow.proofs.Outcomes.{Preflowable, preflowable_facts}
use Rattle.flow_settling.specs.Settling.{SolveReady}
use Rattle.flow_settling.specs.Calls.{solvable, Finished, SolveOutcome}
use Rattle.prelude.proofs.Booleans.{and_right, true→T, T→true, fails}
use Rattle.packed_arcs.proofs.LimitTests.{Fitting}

module _ (arcs : List ℕ) (s t supply : ℕ) (x key : List ℕ) where
  solve_facts : solvable arcs s t supply (length x) (length key) ≡ true → Preflowable arcs s t supply (length x) (length key) (256 + length arcs) (256 + length arcs)
  solve_facts = preflowable_facts arcs s t supply (length x) (length key) (256 + length arcs) (256 + length arcs)

  -- too many vertices or arcs
  pub too_large : 255 < length key ⊎ 4096 < length arcs → SolveOutcome arcs s t supply x key x key false
  too_large h =
      let test = solvable arcs s t supply (length x) (length key) in
      SolveOutcome.refused (fails test (λ ok. not_both h (solve_facts (T→true test ok)).fit)) refl refl
    where
      not_both : 255 < length key ⊎ 4096 < length arcs → Fitting arcs (length x) (length key) → ⊥
      not_both (inl q) F = omega (arith, F.small)
      not_both (inr q) F = omega (arith, F.few)

-- what a preflow over lists of the right lengths tells, where it went on
pub record Went (arcs : List ℕ) (s t supply : ℕ) (x key x' left' out' into' : List ℕ) : Type 0 where
  pub fit : solvable arcs s t supply (length x) (length key) ≡ true
  pub by_tail : Chains (tails_of arcs) out'
  pub by_head : Chains (heads_of arcs) into'
  pub conserved : PackedConserved arcs (standing_at (length key) s supply) x' left'
  pub left_len : length left' ≡ length key

module _ (arcs : List ℕ) (s t supply : ℕ) (x key left out into : List ℕ) (ll : length left ≡ length key) (ol : length out ≡ 256 + length arcs) (il : length into ≡ 256 + length arcs) where
  as_solvable : {b : Bool} → preflowable arcs s t supply (length x) (length left) (length out) (length into) ≡ b → solvable arcs s t supply (length x) (length key) ≡ b
  as_solvable e = rw (ll, ol, il) at e

  pub solve_refused : {x' left' out' into' : List ℕ} → PreflowOutcome arcs s t supply x left out into x' left' out' into' false → SolveOutcome arcs s t supply x key x' key false
  solve_refused (PreflowOutcome.refused e ex el eo ei) = SolveOutcome.refused (as_solvable e) ex refl

  pub went : {x' left' out' into' : List ℕ} → PreflowOutcome arcs s t supply x left out into x' left' out' into' true → Went arcs s t supply x key x' left' out' into'
  went {x'} {left'} (PreflowOutcome.moved e a b c) = record {
    fit = as_solvable e;
    by_tail = a;
    by_head = b;
    conserved = subst (λ (n : ℕ). PackedConserved arcs (standing_at n s supply) x' left') ll c;
    left_len = c.left_len ∙ standing_len (length left) s supply ∙ ll;
  }

module _ {arcs : List ℕ} {s t supply : ℕ} {x key x' left' out' into' : List ℕ} (w : Went arcs s t supply x key x' left' out' into') where
  pub solve_ready : SolveReady arcs s t (length left') × PackedConserved arcs (standing_at (length left') s supply) x' left'
  solve_ready =
      let facts = solve_facts arcs s t supply x key w.fit in (
        record {
          source = omega (arith, w.left_len, facts.source);
          sink = omega (arith, w.left_len, facts.sink);
          fit = subst (λ (n : ℕ). arcs_fit arcs (length arcs) n ≡ true) (sym w.left_len) fitted;
        },
        subst (λ (n : ℕ). PackedConserved arcs (standing_at n s supply) x' left') (sym w.left_len) w.conserved,
      )
    where
      fitted : arcs_fit arcs (length arcs) (length key) ≡ true
      fitted =
          let tests = ltb s (length key) && ltb t (length key) && leb supply 2147483648 && eqb (256 + length arcs) (256 + length arcs)
          && eqb (256 + length arcs) (256 + length arcs) in
          subst (λ (k : ℕ). arcs_fit arcs k (length key) ≡ true) (solve_facts arcs s t supply x key w.fit).fit.one_each
          (T→true (arcs_fit arcs (length x) (length key))
          (and_right tests (arcs_fit arcs (length x) (length key)) (true→T (solvable arcs s t supply (length x) (length key)) w.fit)))

  pub solve_ends : {x'' key'' : List ℕ} → Finished arcs s t supply (length left') x'' key'' → SolveOutcome arcs s t supply x key x'' key'' true
  solve_ends {x''} {key''} F = SolveOutcome.solved w.fit (subst (λ (n : ℕ). Finished arcs s t supply n x'' key'') w.left_len F)
