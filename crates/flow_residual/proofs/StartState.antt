-- The state from which phases start: no potentials, and no amounts but on arcs that cost nothing.
use mathlib.Core.Path.{◌≡◌, sym, ◌∙◌}
use mathlib.Core.List.{List}
use Prim.Native.Nat.{ℕ, ◌<◌, ◌≤◌}
use native.Mathlib.Omega.{arith}
use lib.ListN.{length, length-map, length-replicate}
use Rattle.packed_arcs.specs.Entries.{entry, zero_list}
use Rattle.packed_arcs.specs.PackedArcs.{head_of, cost_of, capacity_of, tails_of, heads_of, costs_of, capacities_of}
use Rattle.packed_arcs.proofs.ArcColumns.{columns}
use Rattle.packed_arcs.proofs.LentParts.{zero_at}
use Rattle.packed_arcs.proofs.LimitTests.{Fitting, tail_below, head_below, cost_low}
use Rattle.flow_residual.specs.PackedNetwork.{PackedPhaseState}

-- amounts on arcs that cost nothing
pub costless_state : {arcs : List ℕ} {amounts n : ℕ} → Fitting arcs amounts n → (x left need : List ℕ) → length x ≡ length arcs → length left ≡ n → length need ≡ length left
    → ((e : ℕ) → e < length arcs → entry x e ≤ entry (capacities_of arcs) e) → ((e : ℕ) → e < length arcs → 0 < entry x e → entry (costs_of arcs) e ≡ 0)
    → PackedPhaseState arcs x (zero_list (length left)) left need
costless_state {arcs} F x left need xl ll nl within free = record {
  sized = record {
    few = omega (arith, columns arcs, F.few);
    to_len = length-map arcs head_of ∙ sym (columns arcs);
    cost_len = length-map arcs cost_of ∙ sym (columns arcs);
    cap_len = length-map arcs capacity_of ∙ sym (columns arcs);
    x_len = xl ∙ sym (columns arcs);
    pi_len = length-replicate (length left) 0;
    tails = λ e h. omega (arith, tail_below F e (omega (arith, columns arcs)));
    heads = λ e h. omega (arith, head_below F e (omega (arith, columns arcs)));
    costs = cost_low F;
    pis = λ v. omega (arith, zero_at (length left) v);
  };
  nonnegative = record {
    forward = λ e h r. omega (arith, zero_at (length left) (entry (heads_of arcs) e));
    backward = λ e h r. omega (arith, free e (omega (arith, columns arcs)) r, zero_at (length left) (entry (tails_of arcs) e));
  };
  within = λ e h. within e (omega (arith, columns arcs));
  need_len = nl;
  small = omega (arith, F.small);
  zero = λ v h r. zero_at (length left) v;
  top = λ t v ht hv r. omega (arith, zero_at (length left) v);
}

pub start_state : {arcs : List ℕ} {amounts n : ℕ} → Fitting arcs amounts n → (left need : List ℕ) → length left ≡ n → length need ≡ length left
    → PackedPhaseState arcs (zero_list (length arcs)) (zero_list (length left)) left need
start_state {arcs} F left need ll nl =
    costless_state F (zero_list (length arcs)) left need (length-replicate (length arcs) 0) ll nl (λ e h. omega (arith, zero_at (length arcs) e))
    (λ e h r. absurd (omega (arith, zero_at (length arcs) e)))
