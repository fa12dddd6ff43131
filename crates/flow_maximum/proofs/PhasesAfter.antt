-- Phases after a preflow: the state that they start from, and what they come to since the beginning.
use mathlib.Core.Path.{◌≡◌, sym, ap, subst, ◌∙◌}
use mathlib.Core.List.{List}
use Prim.Native.Nat.{ℕ}
use native.Mathlib.Omega.{arith}
use lib.ListN.{length}
use Rattle.prelude.proofs.Booleans.{true→T}
use Rattle.packed_arcs.specs.Entries.{zero_list}
use Rattle.packed_arcs.specs.PackedArcs.{tails_of, heads_of}
use Rattle.packed_arcs.specs.Limits.{arcs_fit}
use Rattle.packed_arcs.proofs.ColumnSums.{flow_none}
use Rattle.packed_arcs.proofs.LimitTests.{Fitting, fitting}
use Rattle.flow_moves.proofs.Standing.{standing_len}
use Rattle.flow_settling.specs.Settling.{SolveReady, Prepared}
use Rattle.flow_residual.specs.PackedNetwork.{PackedPhaseState, PackedSolved}
use Rattle.flow_residual.proofs.StartState.{costless_state}
use Rattle.flow_settling.specs.Calls.{Finished}

fit : {arcs : List ℕ} {s t n : ℕ} → SolveReady arcs s t n → Fitting arcs (length arcs) n
fit {arcs} {s} {t} {n} R = fitting arcs (length arcs) n (true→T (arcs_fit arcs (length arcs) n) R.fit)

module _ {arcs : List ℕ} {s t n : ℕ} (supply : ℕ) (R : SolveReady arcs s t n) where
  module _ {x left need : List ℕ} (P : Prepared arcs s t supply n x left need) where
    pub prepared_state : {pi : List ℕ} → pi ≡ zero_list n → PackedPhaseState arcs x pi left need
    prepared_state {pi} z = subst (λ (p : List ℕ). PackedPhaseState arcs x p left need) (ap zero_list P.left_len ∙ sym z)
        (costless_state (fit R) x left need P.x_len P.left_len (P.need_len ∙ sym P.left_len) P.within P.free)

    pub finished : {pi x' pi' left' need' key' par' : List ℕ} → PackedSolved arcs x pi left need x' pi' left' need' key' par' → Finished arcs s t supply n x' key'
    finished {pi} {x'} {pi'} {left'} {need'} {key'} {par'} S = record {
      pi' = pi';
      left' = left';
      need' = need';
      par' = par';
      solved = record {
        state = S.state;
        found = S.found;
        none = S.none;
        left_len = S.left_len ∙ P.left_len ∙ sym (standing_len n s supply);
        left_less = λ w. omega (arith, S.left_less w, P.left_less w);
        need_less = λ w. omega (arith, S.need_less w, P.need_less w);
        balance = λ w. omega (arith, S.balance w, P.balance w, flow_none (tails_of arcs) (length arcs) w, flow_none (heads_of arcs) (length arcs) w);
      };
    }
