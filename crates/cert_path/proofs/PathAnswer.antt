-- The answer for a path: what is known when a flow search is asked to send, and what it then gives.
use mathlib.Core.Path.{◌≡◌, sym, ◌∙◌, ap, subst}
use mathlib.Core.Bool.{true, ◌&&◌, false≢true}
use mathlib.Core.List.{List, map}
use mathlib.Core.Logic.{⊎_elim}
use Prim.Native.Nat.{ℕ, ◌<◌, ◌≤◌}
use native.Mathlib.Omega.{arith}
use lib.Dec.{eqb, ltb}
use lib.IntN.{ℤ}
use lib.ListN.{length, length-map, length-replicate}
use borrow.Author.Tests.{lt-ltb, eq-eqb}
use Rattle.arc_records.specs.Limits.{most_potential}
use Rattle.arc_records.specs.Arcs.{Arc, word_arc, word_arcs}
use Rattle.network.specs.Question.{Question, shortest_path, Setting, TwoVertices, EndsFor, asks, Admissible}
use Rattle.packed_arcs.specs.Entries.{entry, zero_list}
use Rattle.packed_arcs.specs.PackedArcs.{tails_of, heads_of, costs_of, capacities_of}
use Rattle.packed_arcs.specs.Limits.{arcs_fit, sendable}
use Rattle.flow_residual.specs.Residual.{unreached, ResidualNetwork, residual}
use Rattle.flow_residual.specs.PackedNetwork.{residual_of, PackedPhaseState, PackedMoved}
use Rattle.flow_residual.specs.Push.{Moved}
use Rattle.flow_residual.specs.Phase.{SearchResult, PhaseState}
use Rattle.flow_path.specs.Sending.{SearchAndPush, SendOutcome}
use Rattle.packed_arcs.specs.declared.OutOfLimits.{OutOfLimits}
use Rattle.std.specs.Prelude.{Option, None, Some, Result, Ok, Err}
use Rattle.packed_arcs.proofs.LentParts.{zero_at}
use Rattle.prelude.proofs.Tested.{both_on}
use Rattle.flow_residual.proofs.LastSearch.{near_enough}
use Rattle.cert_instances.specs.declared.vertices.NumberKind.TheVariants.{Mark, Distance}
use Rattle.cert_instances.specs.Instance.{tails, heads, constant, VertexList, single, number_of}
use Rattle.cert_instances.specs.Certify.{packed_for, costs, capacities, NodeNumbers, Solution}
use Rattle.cert_instances.proofs.ColumnsAndLoads.{sight}
use Rattle.cert_instances.proofs.FlowInputs.{packed_length, packed_fit}
use Rattle.cert_instances.proofs.Solutions.{fits, same_tails, same_heads, same_costs, same_capacities, path_solution, no_path_solution}

-- ---- what is known when a flow search is asked

pub record PathInputs (st : Setting) (rs arcs x left key : List ℕ) : Type 0 where
  pub accepted : Admissible st (word_arcs rs)
  pub path : asks st ≡ shortest_path
  pub packs : arcs ≡ map (packed_for (asks st)) rs
  pub amounts : length x ≡ length rs
  pub stands : VertexList st.n (single st.s 1) left
  pub key_len : length key ≡ st.n

module _ {st : Setting} {rs arcs x left key : List ℕ} (g : PathInputs st rs arcs x left key) where
  abbrev es : List Arc
  es = word_arcs rs

  -- the amounts and the potentials that a flow search starts with
  abbrev X : List ℕ
  X = zero_list (length arcs)

  abbrev Pi : List ℕ
  Pi = zero_list (length left)

  none_yet : VertexList st.n (λ v. 0) Pi
  none_yet = record { len = length-replicate (length left) 0 ∙ g.stands.len; entries = λ v h. zero_at (length left) v }

  no_amounts : X ≡ constant es 0
  no_amounts = ap zero_list (packed_length (asks st) rs arcs g.packs ∙ sym (length-map rs word_arc))

  two : TwoVertices st
  two = subst (λ (q : Question). EndsFor q st) g.path g.accepted.opened.ends

  may_send : sendable arcs st.t (length x) (length left) (length key) ≡ true
  may_send =
      both_on (ltb st.t (length left) && eqb (length key) (length left)) (arcs_fit arcs (length x) (length left)) true
      (both_on (ltb st.t (length left)) (eqb (length key) (length left)) true
      (lt-ltb st.t (length left) (omega (arith, two.sink_below, g.stands.len))) (eq-eqb (length key) (length left) (g.key_len ∙ sym g.stands.len)))
      (subst (λ (j : ℕ). arcs_fit arcs (length x) j ≡ true) (sym g.stands.len)
      (packed_fit (asks st) st.n (length x) rs arcs (fits g.accepted) g.packs g.amounts))

  same : residual_of arcs X Pi ≡ residual (tails es) (heads es) (costs (asks st) es) (capacities (asks st) es) (constant es 0) Pi
  same = λ i. residual ((ap tails_of g.packs ∙ same_tails (asks st) rs) i) ((ap heads_of g.packs ∙ same_heads (asks st) rs) i)
      ((ap costs_of g.packs ∙ same_costs (asks st) rs) i) ((ap capacities_of g.packs ∙ same_capacities (asks st) rs) i) (no_amounts i) Pi

  -- ---- what it gives

  module _ {key' par : List ℕ} (S : PackedPhaseState arcs X Pi left Pi) (F : SearchResult (residual_of arcs X Pi) left key' par) where
    state : PhaseState (tails es) (heads es) (costs (asks st) es) (capacities (asks st) es) (constant es 0) Pi left Pi
    state = subst (λ (N : ResidualNetwork). PhaseState N.from N.to N.cost N.cap N.x Pi left Pi) same S

    found : SearchResult (residual (tails es) (heads es) (costs (asks st) es) (capacities (asks st) es) (constant es 0) Pi) left key' par
    found = subst (λ (N : ResidualNetwork). SearchResult N left key' par) same F

    pub keys_length : length key' ≡ st.n
    keys_length = F.key_len ∙ g.stands.len

    low : (v : ℕ) → v < length key' → number_of Distance (entry key' v) ≤ most_potential
    low v h = ⊎_elim (λ r. omega (arith, r.distance, near_enough S F v h r.below)) (λ r. omega (arith, r.distance)) (sight key' v)

  -- the outcome of the call, taken apart
  pub record Reach (x' left' key' : List ℕ) (k : ℕ) : Type 0 where
    pub par : List ℕ
    pub state : PackedPhaseState arcs X Pi left Pi
    pub found : SearchResult (residual_of arcs X Pi) left key' par
    pub near : entry key' st.t < unreached
    pub moved : PackedMoved arcs par key' X left x' left' st.t 1 k

  pub record Miss (x' left' key' : List ℕ) : Type 0 where
    pub par : List ℕ
    pub state : PackedPhaseState arcs X Pi left Pi
    pub found : SearchResult (residual_of arcs X Pi) left key' par
    pub far : unreached ≤ entry key' st.t
    pub same_amounts : x' ≡ X

  abbrev pub SentCase : List ℕ → List ℕ → List ℕ → Result (Option ℕ) OutOfLimits → Type 0
  SentCase x' left' key' (Ok (Some k)) = Reach x' left' key' k
  SentCase x' left' key' (Ok None) = Miss x' left' key'
  SentCase x' left' key' (Err e) = ⊥

  pub sent_case : {x' left' key' : List ℕ} {r : Result (Option ℕ) OutOfLimits} → SendOutcome arcs st.t 1 x left key x' left' key' r → SentCase x' left' key' r
  sent_case (SendOutcome.refused off ex el ek) = absurd (false≢true (sym off ∙ may_send))
  sent_case {x'} {left'} {key'} (SendOutcome.answered ok S a) = go a
    where
      go : {q : Option ℕ} → SearchAndPush arcs X Pi left x' left' key' st.t 1 q → SentCase x' left' key' (Ok q)
      go (SearchAndPush.away par F far ex el) = record { par = par; state = S; found = F; far = far; same_amounts = ex }
      go (SearchAndPush.reached par F near k M) = record { par = par; state = S; found = F; near = near; moved = M }

  pub path_answer : {x' left' key' : List ℕ} {ys : List ℤ} {k : ℕ} → Reach x' left' key' k → NodeNumbers Distance key' ys → Solution st (word_arcs rs) ys x' 1
  path_answer {x'} {left'} {key'} {ys} {k} r w =
      path_solution g.accepted g.path none_yet g.stands (state r.state r.found) (found r.state r.found) r.near
      (subst (λ (N : ResidualNetwork). Moved N.from N.to N.cap r.par key' N.x left x' left' st.t 1 k) same r.moved) w

  pub no_path_answer : {x' left' key' : List ℕ} {ys : List ℤ} → Miss x' left' key' → NodeNumbers Mark key' ys → Solution st (word_arcs rs) ys x' 2
  no_path_answer {x'} {left'} {key'} {ys} r w =
      subst (λ (l : List ℕ). Solution st (word_arcs rs) ys l 2) (sym (r.same_amounts ∙ no_amounts))
      (no_path_solution g.accepted g.path none_yet g.stands (state r.state r.found) (found r.state r.found) r.far w)

  -- the distances can be written
  pub distances_low : {x' left' key' : List ℕ} {k : ℕ} → Reach x' left' key' k → (v : ℕ) → v < length key' → number_of Distance (entry key' v) ≤ most_potential
  distances_low r = low r.state r.found
