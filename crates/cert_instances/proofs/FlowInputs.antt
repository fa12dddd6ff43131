-- What a flow search is handed: packed arcs within its limits; and what it hands back for a flow.
use mathlib.Core.Path.{◌≡◌, refl, sym, ◌∙◌, ap, subst}
use mathlib.Core.Bool.{Bool, true, false, ◌&&◌, false≢true}
use mathlib.Core.List.{List, [], ◌∷◌, map}
use Prim.Native.Nat.{ℕ, ◌+◌, ◌*◌, ◌<◌, ◌≤◌}
use native.Mathlib.Omega.{arith}
use native.Mathlib.Decide.{ℕ_discrete}
use lib.Dec.{eqb, ltb, leb}
use borrow.Author.Tests.{lt-ltb, le-leb, eq-eqb}
use lib.ListN.{length, length-map}
use Rattle.prelude.specs.Choice.{indicator}
use Rattle.prelude.specs.Lists.{Every, all}
use Rattle.arc_records.specs.Limits.{most_vertices, most_arcs, most_weight, most_potential}
use Rattle.arc_records.specs.Arcs.{Arc, word_arc, word_arcs}
use Rattle.network.specs.Question.{Question, shortest_path, maximum_flow, assignment, acyclicity, Setting, TwoVertices, EndsFor, WeightWithin, unasked, asks, unit_cost, Admissible}
use Rattle.network.proofs.Sums.{Inside, delta_same, delta_other}
use Rattle.packed_arcs.specs.Entries.{entry, zero_list}
use Rattle.packed_arcs.specs.PackedArcs.{tail_of, head_of, cost_of}
use Rattle.packed_arcs.specs.Limits.{arc_fits, arcs_fit}
use Rattle.flow_moves.specs.Preflow.{standing_at}
use Rattle.flow_residual.specs.Phase.{Solved}
use Rattle.flow_residual.specs.PackedNetwork.{PackedSolved}
use Rattle.flow_settling.specs.Calls.{solvable, Finished, SolveOutcome}
use Rattle.flow_moves.proofs.Standing.{standing_len, standing_here, standing_other}
use Rattle.prelude.proofs.Tested.{both_on}
use Rattle.cert_instances.specs.declared.vertices.NumberKind.TheVariants.{Mark}
use Rattle.cert_instances.specs.Instance.{Fits, tails, heads, constant, VertexList, single, plenty, reached, number_of}
use Rattle.cert_instances.specs.Certify.{packed_for, costs, capacities}
use Rattle.cert_instances.proofs.Solutions.{fits, cost_low, same_tails, same_heads, same_costs, same_capacities, FlowRun, keys}

-- ---- packed arcs are within the limits of a flow search

pub few_records : {st : Setting} (rs : List ℕ) → Admissible st (word_arcs rs) → length rs ≤ most_arcs
few_records rs a = omega (arith, a.few, length-map rs word_arc)

pub packed_length : (q : Question) (rs arcs : List ℕ) → arcs ≡ map (packed_for q) rs → length arcs ≡ length rs
packed_length q rs arcs e = ap length e ∙ length-map rs (packed_for q)

no_dearer : (q : Question) (e : Arc) → WeightWithin e → unit_cost q e ≤ most_weight
no_dearer shortest_path e h = h
no_dearer maximum_flow e h = omega arith
no_dearer assignment e h = h
no_dearer acyclicity e h = omega arith
no_dearer unasked e h = omega arith

packed_cost : (q : Question) (r : ℕ) → cost_of (packed_for q r) ≡ unit_cost q (word_arc r)
packed_cost q r = omega (arith, cost_low q (word_arc r) (omega arith))

packed_fits : (q : Question) (n r : ℕ) → Inside n (word_arc r) → WeightWithin (word_arc r) → arc_fits n (packed_for q r) ≡ true
packed_fits q n r i l =
    let k = packed_for q r in
    both_on (ltb (tail_of k) n && ltb (head_of k) n) (leb (cost_of k) most_weight) true
    (both_on (ltb (tail_of k) n) (ltb (head_of k) n) true (lt-ltb (tail_of k) n (omega (arith, i.0))) (lt-ltb (head_of k) n (omega (arith, i.1))))
    (le-leb (cost_of k) most_weight (subst (λ (c : ℕ). c ≤ most_weight) (sym (packed_cost q r)) (no_dearer q (word_arc r) l)))

all_fit : (q : Question) (n : ℕ) (rs : List ℕ) → Every (Inside n) (word_arcs rs) → Every WeightWithin (word_arcs rs) → all (arc_fits n) (map (packed_for q) rs) ≡ true
all_fit q n [] i l = refl
all_fit q n (r ∷ rs) i l = both_on (arc_fits n (packed_for q r)) (all (arc_fits n) (map (packed_for q) rs)) true (packed_fits q n r i.0 l.0) (all_fit q n rs i.1 l.1)

pub packed_fit : (q : Question) (n m : ℕ) (rs arcs : List ℕ) → Fits n (word_arcs rs) → arcs ≡ map (packed_for q) rs → m ≡ length rs → arcs_fit arcs m n ≡ true
packed_fit q n m rs arcs F p e =
    both_on (leb n most_vertices && leb (length arcs) most_arcs && eqb m (length arcs)) (all (arc_fits n) arcs) true
    (both_on (leb n most_vertices && leb (length arcs) most_arcs) (eqb m (length arcs)) true
    (both_on (leb n most_vertices) (leb (length arcs) most_arcs) true (le-leb n most_vertices F.small) (le-leb (length arcs) most_arcs (omega (arith, packed_length q rs arcs p, F.few, length-map rs word_arc))))
    (eq-eqb m (length arcs) (e ∙ sym (packed_length q rs arcs p))))
    (ap (λ (l : List ℕ). all (arc_fits n) l) p ∙ all_fit q n rs F.inside F.light)

-- ---- the run of a flow

-- a supply at one vertex
standing_list : (n k supply : ℕ) → k < n → VertexList n (single k supply) (standing_at n k supply)
standing_list n k supply h = record { len = standing_len n k supply; entries = λ v l. here v (ℕ_discrete v k) }
  where
    here : (v : ℕ) → Dec (v ≡ k) → entry (standing_at n k supply) v ≡ single k supply v
    here v (yes q) = ap (entry (standing_at n k supply)) q ∙ standing_here n k supply h ∙ omega (arith, ap (λ (d : ℕ). supply * d) (delta_same k v (sym q)))
    here v (no q) = standing_other n k supply h v q ∙ omega (arith, ap (λ (d : ℕ). supply * d) (delta_other k v (λ e. q (sym e))))

module _ (st : Setting) (rs : List ℕ) (a : Admissible st (word_arcs rs)) (e : asks st ≡ maximum_flow) {arcs : List ℕ} (packed : arcs ≡ map (packed_for (asks st)) rs) where
  ends : TwoVertices st
  ends = subst (λ (q : Question). EndsFor q st) e a.opened.ends

  flow_solvable : (m n : ℕ) → m ≡ length rs → n ≡ st.n → solvable arcs st.s st.t plenty m n ≡ true
  flow_solvable m n xl kl =
      let l = 256 + length arcs in
      let s = ltb st.s n in
      let t = ltb st.t n in
      let p = leb plenty 2147483648 in
      let q = eqb l l in
      both_on (s && t && p && q && q) (arcs_fit arcs m n) true
      (both_on (s && t && p && q) q true
      (both_on (s && t && p) q true
      (both_on (s && t) p true
      (both_on s t true (lt-ltb st.s n (omega (arith, ends.source_below))) (lt-ltb st.t n (omega (arith, ends.sink_below))))
      (le-leb plenty 2147483648 (omega arith)))
      (eq-eqb l l refl))
      (eq-eqb l l refl))
      (packed_fit (asks st) n m rs arcs (subst (λ (j : ℕ). Fits j (word_arcs rs)) (sym kl) (fits a)) packed xl)

  finished_run : {x' key' : List ℕ} → Finished arcs st.s st.t plenty st.n x' key' → FlowRun st (word_arcs rs) x' key'
  finished_run {x'} {key'} F =
      let left = standing_at st.n st.s plenty in
      let need = standing_at st.n st.t plenty in
      record {
        pi = zero_list st.n;
        left = left;
        need = need;
        pi' = F.pi';
        left' = F.left';
        need' = F.need';
        par' = F.par';
        supply = standing_list st.n st.s plenty ends.source_below;
        demand = standing_list st.n st.t plenty ends.sink_below;
        solved = subst (λ (q : Question). Solved (tails (word_arcs rs)) (heads (word_arcs rs)) (costs q (word_arcs rs)) (capacities q (word_arcs rs)) (constant (word_arcs rs) 0) (zero_list st.n) left need x' F.pi' F.left' F.need' key' F.par') e
            (rw (sym (same_tails (asks st) rs), sym (same_heads (asks st) rs), sym (same_costs (asks st) rs), sym (same_capacities (asks st) rs))
            (subst (λ (k : ℕ). PackedSolved (map (packed_for (asks st)) rs) (zero_list k) (zero_list st.n) left need x' F.pi' F.left' F.need' key' F.par') (length-map rs (packed_for (asks st)) ∙ sym (length-map rs word_arc))
            (subst (λ (l : List ℕ). PackedSolved l (zero_list (length l)) (zero_list st.n) left need x' F.pi' F.left' F.need' key' F.par') packed F.solved)));
      }

  pub flow_run : {x key x' key' : List ℕ} {r : Bool} → length x ≡ length rs → length key ≡ st.n → SolveOutcome arcs st.s st.t plenty x key x' key' r → FlowRun st (word_arcs rs) x' key'
  flow_run {x} {key} xl kl (SolveOutcome.refused off ex ek) = absurd (false≢true (sym off ∙ flow_solvable (length x) (length key) xl kl))
  flow_run {x} {key} {x'} {key'} xl kl (SolveOutcome.solved on F) = finished_run (subst (λ (n : ℕ). Finished arcs st.s st.t plenty n x' key') kl F)

-- ---- what was given back

pub mark_low : (k : ℕ) → number_of Mark k ≤ most_potential
mark_low k = go (reached k)
  where
    go : (b : Bool) → indicator b ≤ most_potential
    go true = omega arith
    go false = omega arith

-- numbers can be written from the keys as marks
pub marks_writable : {st : Setting} {es : List Arc} {x' key' : List ℕ} → FlowRun st es x' key' → {k : ℕ} → k ≡ st.n → (k ≡ length key') × ((v : ℕ) → v < length key' → number_of Mark (entry key' v) ≤ most_potential)
marks_writable {st} {es} {x'} {key'} r h = (h ∙ sym (keys r), λ v l. mark_low (entry key' v))
