-- From what a flow search gave back and what was written to a solution.
use mathlib.Core.Path.{◌≡◌, refl, sym, ◌∙◌, ap, ap₂, subst, fun_ext}
use mathlib.Core.Bool.{Bool, true, false, ◌&&◌}
use mathlib.Core.Logic.{◌⊎◌, inl, inr}
use mathlib.Core.List.{List, [], ◌∷◌, map}
use Prim.Native.Nat.{ℕ, ◌-◌, ◌/◌, ◌<◌, ◌≤◌}
use native.Mathlib.Omega.{arith}
use native.Mathlib.Decide.{dec_lt}
use lib.Dec.{T, eqb, leb, eqb→eq, leb→le}
use lib.IntN.{ℤ, pos}
use lib.ListN.{length, length-map, get_or-eq_default}
use Rattle.prelude.specs.Checks.{first_broken}
use Rattle.prelude.specs.Lists.{Every, all, at}
use Rattle.prelude.proofs.Booleans.{true→T}
use Rattle.prelude.proofs.Settle.{none_broken}
use Rattle.prelude.proofs.Lists.{all→every, every_map, image_every}
use Rattle.arc_records.specs.Arcs.{Arc, word_arc, word_arcs}
use Rattle.network.specs.Network.{arcs, loads_of}
use Rattle.network.specs.Question.{Question, shortest_path, maximum_flow, assignment, acyclicity, Setting, Allowed, TwoVertices, EndsFor, TrueFor, Answer, value, none, unasked, asks, unit_cost, Admissible}
use Rattle.arc_records.specs.Limits.{most_arcs}
use Rattle.network.specs.Certificate.{Claim, of_value, of_none, claim_for}
use Rattle.network.specs.Tests.{opening_checks, arc_checks, claim_number}
use Rattle.network.proofs.Allowed.{opening_rule, opening_numbered, arc_rule}
use Rattle.network.proofs.Rules.{FlowCertificate, RulesHold, rules_certified}
use Rattle.network.proofs.Sums.{Inside}
use Rattle.packed_arcs.specs.Entries.{entry}
use Rattle.packed_arcs.specs.PackedArcs.{tails_of, heads_of, costs_of, capacities_of}
use Rattle.flow_residual.specs.Residual.{unreached, residual}
use Rattle.flow_residual.specs.Push.{Moved}
use Rattle.flow_residual.specs.Phase.{SearchResult, PhaseState, Solved}
use Rattle.cert_instances.specs.Instance.{Fits, tails, heads, weights, constant, VertexList, single, plenty, mark_of, toward, number_of}
use Rattle.cert_instances.specs.Certify.{record_ok, admissible, capacity_for, packed_for, costs, capacities, NodeNumbers, told_by, Told, LengthsFor, Solution}
use Rattle.cert_instances.specs.declared.vertices.NumberKind.{NumberKind}
use Rattle.cert_instances.specs.declared.vertices.NumberKind.TheVariants.{Mark, Distance}
use Rattle.cert_instances.proofs.ColumnsAndLoads.{loads_arcs, is_reached, not_reached, Seen, Unseen, sight}
use Rattle.cert_instances.proofs.PathInstance.{path_certificate, no_path_certificate, least_lengths, no_walks, moved_one}
use Rattle.cert_instances.proofs.FlowInstance.{flow_certificate, total_most}
use Rattle.cert_instances.proofs.AgreeingMarks.{flow_too, no_path_too}

-- ---- what is accepted

abbrev all_of : Bool → Bool → Bool → Bool → Bool → Bool
all_of a b c d e = a && b && c && d && e

parts : (a b c d e : Bool) → T (all_of a b c d e) → T a × T b × T c × T d × T e
parts true true true true true t = (tt, tt, tt, tt, tt)
parts true true true true false t = absurd t
parts true true true false e t = absurd t
parts true true false d e t = absurd t
parts true false c d e t = absurd t
parts false b c d e t = absurd t

pub accepted : (st : Setting) (rs : List ℕ) (i j : ℕ) → admissible st rs i j ≡ true → Admissible st (word_arcs rs) × (i ≡ st.n) × (j ≡ length rs)
accepted st rs i j e =
    let a : T (all_of (eqb (first_broken (opening_checks st)) 0) (leb (length rs) most_arcs) (eqb i st.n) (eqb j (length rs)) (all (record_ok st) rs)) = true→T (admissible st rs i j) e in
    let h = parts (eqb (first_broken (opening_checks st)) 0) (leb (length rs) most_arcs) (eqb i st.n) (eqb j (length rs)) (all (record_ok st) rs) a in
    let o = none_broken (opening_checks st) (opening_numbered st) (eqb→eq (first_broken (opening_checks st)) 0 h.0) in (
      record {
        opened = opening_rule st o;
        allowed = image_every word_arc (Allowed st) rs (all→every (record_ok st) allow rs h.4);
        few = omega (arith, length-map rs word_arc, leb→le (length rs) most_arcs h.1);
      },
      eqb→eq i st.n h.2,
      eqb→eq j (length rs) h.3,
    )
  where
    allow : (r : ℕ) → T (record_ok st r) → Allowed st (word_arc r)
    allow r t = arc_rule st (word_arc r) (none_broken (arc_checks st (word_arc r)) (refl, (refl, tt)) (eqb→eq (first_broken (arc_checks st (word_arc r))) 0 t))

module _ {st : Setting} {es : List Arc} (a : Admissible st es) where
  inside : Every (Inside st.n) es
  inside = every_map (λ e (h : Allowed st e). (h.joins.tail_below, h.joins.head_below)) es a.allowed

  pub fits : Fits st.n es
  fits = record {
    small = a.opened.sized.at_most;
    few = a.few;
    inside = inside;
    light = every_map (λ e (h : Allowed st e). h.weight_within) es a.allowed;
  }

  pub loads_inside : (xs : List ℕ) → Every (Inside st.n) (arcs (loads_of es xs))
  loads_inside xs = rw (loads_arcs es xs) inside

-- ---- packed arcs have the columns of the network

pub same_tails : (q : Question) (rs : List ℕ) → tails_of (map (packed_for q) rs) ≡ tails (word_arcs rs)
same_tails q [] = refl
same_tails q (r ∷ rs) = ap₂ (λ (k : ℕ) (l : List ℕ). k ∷ l) (omega arith) (same_tails q rs)

pub same_heads : (q : Question) (rs : List ℕ) → heads_of (map (packed_for q) rs) ≡ heads (word_arcs rs)
same_heads q [] = refl
same_heads q (r ∷ rs) = ap₂ (λ (k : ℕ) (l : List ℕ). k ∷ l) (omega arith) (same_heads q rs)

-- costs and capacities stay below 65536
pub cost_low : (q : Question) (e : Arc) → e.weight < 65536 → unit_cost q e < 65536
cost_low shortest_path e h = h
cost_low maximum_flow e h = omega arith
cost_low assignment e h = h
cost_low acyclicity e h = omega arith
cost_low unasked e h = omega arith

pub capacity_low : (q : Question) (e : Arc) → e.weight < 65536 → capacity_for q e < 65536
capacity_low shortest_path e h = omega arith
capacity_low maximum_flow e h = h
capacity_low assignment e h = omega arith
capacity_low acyclicity e h = omega arith
capacity_low unasked e h = omega arith

pub same_costs : (q : Question) (rs : List ℕ) → costs_of (map (packed_for q) rs) ≡ costs q (word_arcs rs)
same_costs q [] = refl
same_costs q (r ∷ rs) = ap₂ (λ (k : ℕ) (l : List ℕ). k ∷ l) (omega (arith, cost_low q (word_arc r) (omega arith))) (same_costs q rs)

pub same_capacities : (q : Question) (rs : List ℕ) → capacities_of (map (packed_for q) rs) ≡ capacities q (word_arcs rs)
same_capacities q [] = refl
same_capacities q (r ∷ rs) =
    ap₂ (λ (k : ℕ) (l : List ℕ). k ∷ l)
    (omega (arith, cost_low q (word_arc r) (omega arith), capacity_low q (word_arc r) (omega arith)))
    (same_capacities q rs)

-- the columns that are constant
pub constant_map : (k : ℕ) (es : List Arc) → map (λ e. k) es ≡ constant es k
constant_map k [] = refl
constant_map k (e ∷ es) = ap (λ (l : List ℕ). k ∷ l) (constant_map k es)

-- ---- what was written

pub written_at : (kind : NumberKind) (from : List ℕ) (ys : List ℤ) → number_of kind 0 ≡ 0 → NodeNumbers kind from ys → at ys ≡ (λ v. pos (number_of kind (entry from v)))
written_at kind from ys z w = fun_ext (λ v. go v (dec_lt v (length from)))
  where
    go : (v : ℕ) → Dec (v < length from) → at ys v ≡ pos (number_of kind (entry from v))
    go v (yes h) = w.each v h
    go v (no h) =
        get_or-eq_default ys (pos 0) {n = v} (omega (arith, w.len))
        ∙ sym (ap (λ (k : ℕ). pos (number_of kind k)) (get_or-eq_default from 0 {n = v} (omega arith)) ∙ ap pos z)

-- ---- solutions, by the question

module _ (st : Setting) (es : List Arc) where
  pub solution : (q : Question) → asks st ≡ q → (ys : List ℤ) (xs : List ℕ) (a : Answer) → RulesHold q st (at ys) (loads_of es xs) a
      → LengthsFor q st es (claim_for a) (at ys) → Solution st es ys xs (claim_number (claim_for a))
  solution q e ys xs a c l = record {
    answer = a;
    certified = rules_certified st (at ys) (loads_of es xs) a (subst (λ (k : Question). RulesHold k st (at ys) (loads_of es xs) a) (sym e) c);
    lengths = subst (λ (k : Question). LengthsFor k st es (claim_for a) (at ys)) (sym e) l;
    reply_is = refl;
  }

-- What a flow search gave back for a flow, from amounts of 0: plenty stood at the source and was wanted at the sink.
pub record FlowRun (st : Setting) (net : List Arc) (x' key' : List ℕ) : Type 0 where
  pub pi : List ℕ
  pub left : List ℕ
  pub need : List ℕ
  pub pi' : List ℕ
  pub left' : List ℕ
  pub need' : List ℕ
  pub par' : List ℕ
  pub supply : VertexList st.n (single st.s plenty) left
  pub demand : VertexList st.n (single st.t plenty) need
  pub solved : Solved (tails net) (heads net) (costs maximum_flow net) (capacities maximum_flow net) (constant net 0) pi left need x' pi' left' need' key' par'

-- one key for each vertex
pub keys : {st : Setting} {es : List Arc} {x' key' : List ℕ} → FlowRun st es x' key' → length key' ≡ st.n
keys r = r.solved.found.key_len ∙ r.solved.left_len ∙ r.supply.len

module _ {st : Setting} {es : List Arc} (a : Admissible st es) where
  -- ---- maximum flow

  pub flow_solution : {x' key' : List ℕ} {ys : List ℤ} → asks st ≡ maximum_flow → FlowRun st es x' key' → NodeNumbers Mark key' ys → Solution st es ys x' 1
  flow_solution {x'} {key'} {ys} e r w = solution st es maximum_flow e ys x' (value _) (flow_too st (mark_of key') (at ys) same (loads_of es x') _ ends.source_below ends.sink_below (loads_inside a x') certificate) tt
    where
      ends : TwoVertices st
      ends = subst (λ (q : Question). EndsFor q st) e a.opened.ends

      same : (v : ℕ) → v < st.n → mark_of key' v ≡ at ys v
      same v h = sym (w.each v (omega (arith, keys r)))

      certificate : FlowCertificate st (mark_of key') (loads_of es x') (plenty - entry r.need' st.t)
      certificate =
          flow_certificate st es plenty ends (fits a) (omega (arith, total_most st.n es (fits a))) r.supply r.demand r.solved.left_less r.solved.need_less
          (subst (λ (c : List ℕ). Solved (tails es) (heads es) c (weights es) (constant es 0) r.pi r.left r.need x' r.pi' r.left' r.need' key' r.par') (constant_map 0 es) r.solved)

  -- ---- shortest path

  module _ {pi left need key par : List ℕ} (e : asks st ≡ shortest_path)
      (none_yet : VertexList st.n (λ v. 0) pi) (supply : VertexList st.n (single st.s 1) left)
      (state : PhaseState (tails es) (heads es) (costs (asks st) es) (capacities (asks st) es) (constant es 0) pi left need)
      (found : SearchResult (residual (tails es) (heads es) (costs (asks st) es) (capacities (asks st) es) (constant es 0) pi) left key par) where
    two : TwoVertices st
    two = subst (λ (q : Question). EndsFor q st) e a.opened.ends

    F : SearchResult (residual (tails es) (heads es) (weights es) (constant es 1) (constant es 0) pi) left key par
    F = subst (λ (c : List ℕ). SearchResult (residual (tails es) (heads es) (weights es) c (constant es 0) pi) left key par) (constant_map 1 es)
        (subst (λ (q : Question). SearchResult (residual (tails es) (heads es) (costs q es) (capacities q es) (constant es 0) pi) left key par) e found)

    S : PhaseState (tails es) (heads es) (weights es) (constant es 1) (constant es 0) pi left need
    S = subst (λ (c : List ℕ). PhaseState (tails es) (heads es) (weights es) c (constant es 0) pi left need) (constant_map 1 es)
        (subst (λ (q : Question). PhaseState (tails es) (heads es) (costs q es) (capacities q es) (constant es 0) pi left need) e state)

    n_keys : length key ≡ st.n
    n_keys = F.key_len ∙ supply.len

    true_at : (v : ℕ) (b : Answer) → TrueFor shortest_path (toward st v) es b → TrueFor (asks st) (toward st v) es b
    true_at v b = subst (λ (q : Question). TrueFor q (toward st v) es b) (sym e)

    -- what the number of a key tells, where it is told in both cases
    tells : (kind : NumberKind) (c : Claim) {ys : List ℤ} → NodeNumbers kind key ys
        → ((k : ℕ) → k < unreached → pos (number_of kind k) ≡ told_by c (value (k / 256)))
        → ((k : ℕ) → unreached ≤ k → pos (number_of kind k) ≡ told_by c none) → (v : ℕ) → v < st.n → Told st es c (at ys) v
    tells kind c {ys} w near far v h = go (sight key v)
      where
        go : Seen key v ⊎ Unseen key v → Told st es c (at ys) v
        go (inl r) = record {
          answer = value (entry key v / 256);
          is_true = true_at v (value (entry key v / 256)) (least_lengths st es (fits a) two.source_below none_yet supply S F v h r.below);
          told = w.each v (omega (arith, n_keys)) ∙ near (entry key v) r.below;
        }
        go (inr r) = record {
          answer = none;
          is_true = true_at v none (no_walks st es (fits a) two.source_below none_yet supply S F v r.above);
          told = w.each v (omega (arith, n_keys)) ∙ far (entry key v) r.above;
        }

    pub path_solution : {x' left' : List ℕ} {ys : List ℤ} {g : ℕ} → entry key st.t < unreached
        → Moved (tails es) (heads es) (capacities (asks st) es) par key (constant es 0) left x' left' st.t 1 g → NodeNumbers Distance key ys
        → Solution st es ys x' 1
    path_solution {x'} {left'} {ys} {g} near moved w =
        solution st es shortest_path e ys x' (value (entry key st.t / 256))
        (subst (λ (y : ℕ → ℤ). RulesHold shortest_path st y (loads_of es x') (value (entry key st.t / 256))) (sym (written_at Distance key ys refl w))
        (path_certificate st es (fits a) two.source_below none_yet supply S F two.sink_below two.apart near one))
        (tells Distance of_value w (λ k h. rw (is_reached k h)) (λ k h. rw (not_reached k h)))
      where
        some : Moved (tails es) (heads es) (constant es 1) par key (constant es 0) left x' left' st.t 1 g
        some = subst (λ (c : List ℕ). Moved (tails es) (heads es) c par key (constant es 0) left x' left' st.t 1 g) (constant_map 1 es)
            (subst (λ (q : Question). Moved (tails es) (heads es) (capacities q es) par key (constant es 0) left x' left' st.t 1 g) e moved)

        one : Moved (tails es) (heads es) (constant es 1) par key (constant es 0) left x' left' st.t 1 1
        one = subst (Moved (tails es) (heads es) (constant es 1) par key (constant es 0) left x' left' st.t 1)
            (moved_one st es (fits a) two.source_below none_yet supply S F some) some

    pub no_path_solution : {ys : List ℤ} → unreached ≤ entry key st.t → NodeNumbers Mark key ys → Solution st es ys (constant es 0) 2
    no_path_solution {ys} far w =
        solution st es shortest_path e ys (constant es 0) none
        (no_path_too st (mark_of key) (at ys) (λ v h. sym (w.each v (omega (arith, n_keys)))) (loads_of es (constant es 0)) two.source_below two.sink_below (loads_inside a (constant es 0))
        (no_path_certificate st es (fits a) two.source_below none_yet supply S F far))
        (tells Mark of_none w (λ k h. rw (is_reached k h)) (λ k h. rw (not_reached k h)))
