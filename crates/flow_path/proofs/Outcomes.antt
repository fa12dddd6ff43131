-- The outcome of a call, from the test's result u, which the code negates, and from what the work after it gave.
use mathlib.Core.Path.{◌≡◌, refl, sym, ap, ◌∙◌, subst}
use mathlib.Core.Bool.{Bool, true, false, not}
use mathlib.Core.List.{List}
use Prim.Native.Nat.{ℕ, ◌+◌, ◌≤◌}
use lib.ListN.{length, take, length-replicate}
use Rattle.packed_arcs.specs.Entries.{zero_list}
use Rattle.packed_arcs.specs.PackedArcs.{tails_of}
use Rattle.packed_arcs.specs.Limits.{sendable}
use Rattle.arc_index.specs.Chains.{Chains}
use Rattle.arc_index.specs.declared.End.TheVariants.{Tail}
use Rattle.arc_index.proofs.Building.{Built, links_built}
use Rattle.arc_index.proofs.Ends.{packed_chains}
use Rattle.flow_residual.specs.PackedNetwork.{PackedPhaseState}
use Rattle.flow_path.specs.Sending.{SearchAndPush, SendOutcome}
use Rattle.packed_arcs.specs.declared.OutOfLimits.{OutOfLimits}
use Rattle.std.specs.Prelude.{Option, Ok, Err}
use Rattle.packed_arcs.proofs.LentParts.{zero_list_part}
use Rattle.prelude.proofs.Tested.{passed, refused as failed}
use Rattle.packed_arcs.proofs.LimitTests.{Sendable, sendable_facts}
use Rattle.flow_residual.proofs.StartState.{start_state}

-- lists that were cleared, as long as there are arcs and vertices
cleared : {x₁ : List ℕ} {k m : ℕ} → x₁ ≡ zero_list k → k ≡ m → x₁ ≡ zero_list m
cleared e h = e ∙ ap zero_list h

module _ (arcs : List ℕ) (t want : ℕ) (x left key : List ℕ) (u : Bool) (e : u ≡ sendable arcs t (length x) (length left) (length key)) where
  pub send_refused : {e : OutOfLimits} → not u ≡ true → SendOutcome arcs t want x left key x left key (Err e)
  send_refused h = SendOutcome.refused (failed (sendable arcs t (length x) (length left) (length key)) u h e) refl refl refl

  module _ (h : not u ≡ false) where
    may : sendable arcs t (length x) (length left) (length key) ≡ true
    may = passed (sendable arcs t (length x) (length left) (length key)) u h e

    pub send_facts : Sendable arcs t (length x) (length left) (length key)
    send_facts = sendable_facts arcs t (length x) (length left) (length key) may

    -- after the amounts were cleared, with a part of 255 potentials of 0
    module _ {x₁ : List ℕ} (no_amounts : x₁ ≡ zero_list (length x)) where
      none : x₁ ≡ zero_list (length arcs)
      none = cleared no_amounts send_facts.fit.one_each

      flat : take (length left) (zero_list 255) ≡ zero_list (length left)
      flat = zero_list_part (length left) 255 send_facts.fit.small

      begin : PackedPhaseState arcs (zero_list (length arcs)) (zero_list (length left)) left (zero_list (length left))
      begin = start_state send_facts.fit left (zero_list (length left)) refl (length-replicate (length left) 0)

      pub send_starts : PackedPhaseState arcs x₁ (take (length left) (zero_list 255)) left (take (length left) (zero_list 255))
      send_starts =
          subst (λ (l : List ℕ). PackedPhaseState arcs l (take (length left) (zero_list 255)) left (take (length left) (zero_list 255))) (sym none)
          (subst (λ (l : List ℕ). PackedPhaseState arcs (zero_list (length arcs)) l left l) (sym flat) begin)

      pub send_ends : {x' left' key' : List ℕ} {r : Option ℕ} → SearchAndPush arcs x₁ (take (length left) (zero_list 255)) left x' left' key' t want r
          → SendOutcome arcs t want x left key x' left' key' (Ok r)
      send_ends {x'} {left'} {key'} {r} s = SendOutcome.answered may begin
          (subst (λ (l : List ℕ). SearchAndPush arcs (zero_list (length arcs)) l left x' left' key' t want r) flat
          (subst (λ (l : List ℕ). SearchAndPush arcs l (take (length left) (zero_list 255)) left x' left' key' t want r) none s))

-- the index by tail that was built
pub indexed_tails : (arcs links links' : List ℕ) → length arcs ≤ 4096 → length links ≡ 256 + length arcs → Built arcs (tails_of arcs) links links' → Chains (tails_of arcs) links'
indexed_tails arcs links links' few l b = subst (Chains (tails_of arcs)) (sym (links_built arcs (tails_of arcs) links links' few l b)) (packed_chains Tail arcs few)
