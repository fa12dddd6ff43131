-- The answer for an assignment: a matching that saturates the sites, with its potentials, is a certificate of the value, and marks of a deficient set are one of none.
use mathlib.Core.Path.{◌≡◌, refl, sym, ◌∙◌, ap, subst}
use mathlib.Core.Bool.{Bool, true, false, not, ◌&&◌, false≢true}
use mathlib.Core.List.{List, [], ◌∷◌}
use Prim.Native.Nat.{ℕ, zero, suc, ◌+◌, ◌-◌, ◌≤◌, ◌<◌}
use native.Mathlib.Omega.{arith}
use native.Mathlib.Decide.{dec_lt}
use borrow.Author.Tests.{eq-eqb, lt-ltb, le-leb}
use lib.Dec.{T, eqb, leb, ltb, lt→ltb}
use lib.IntN.{ℤ, pos, neg_ℤ}
use lib.ListN.{length}
use Rattle.std.specs.Prelude.{Ok, Err}
use Rattle.prelude.specs.Choice.{indicator}
use Rattle.prelude.specs.Lists.{Every, all}
use Rattle.prelude.specs.Sums.{sum_to, sum_to_ℤ}
use Rattle.prelude.proofs.Integers.{signed, parts_sub}
use Rattle.prelude.proofs.Lists.{every_zip, every_map}
use Rattle.prelude.proofs.Sums.{sum_to_ext}
use Rattle.prelude.proofs.Tested.{both_on}
use Rattle.arc_records.specs.Limits.{most_vertices, most_arcs, most_weight, most_potential}
use Rattle.arc_records.specs.Arcs.{Arc, word_arc, word_arcs}
use Rattle.network.specs.Network.{Load, arcs, loads_of, leaving, entering, balance, degree, cost, crosses}
use Rattle.network.specs.Question.{Question, assignment, Setting, Allowed, PumpToSite, PumpsAndSites, SidesFor, EndsFor, value, none, asks, pumps, sites, Admissible}
use Rattle.network.specs.Certificate.{marked, assignment_balance, unmarked_pumps, unmarked_sites}
use Rattle.network.proofs.Rules.{ZeroOrOne, NoAmount, Closed, Feasible, AssignmentBalances, AssignmentCertificate, NoAssignmentCertificate, RulesHold, natural_pump, pump_balance, site_balance}
use Rattle.network.proofs.Assignments.{Between, crosses_over, enters_no_pump, leaves_no_site, pumps_sum, sites_sum}
use Rattle.network.proofs.Sound.{balance_parts}
use Rattle.packed_arcs.specs.Entries.{entry, zero_list}
use Rattle.packed_arcs.proofs.LentParts.{zero_at}
use Rattle.arc_index.specs.Columns.{record_tails, record_heads, record_weights}
use Rattle.match_results.specs.Results.{Saturating, Deficient}
use Rattle.match_least_cost.specs.Outcome.{leads_across, matchable, FindOutcome, MatchOutcome}
use Rattle.packed_arcs.specs.declared.OutOfLimits.{OutOfLimits}
use Rattle.match_least_cost.specs.declared.Match.{Match}
use Rattle.match_least_cost.specs.declared.Match.TheVariants.{Saturating as SaturatingMatch, Deficient as NoMatch}
use Rattle.cert_instances.specs.Instance.{number_of}
use Rattle.cert_instances.specs.Certify.{NodeNumbers, Solution}
use Rattle.cert_instances.specs.declared.vertices.NumberKind.TheVariants.{Potential}
use Rattle.cert_instances.proofs.ColumnsAndLoads.{flow_sum, every_load, index, loads_arcs, column_arc, paid_cost}
use Rattle.cert_instances.proofs.FlowInputs.{few_records}
use Rattle.cert_instances.proofs.Solutions.{written_at, solution}

-- ---- sums

sum_to_ℤ_pos : (n : ℕ) (g : ℕ → ℕ) → sum_to_ℤ n (λ v. pos (g v)) ≡ pos (sum_to n g)
unfolding sum_to sum_to_ℤ
sum_to_ℤ_pos zero g = refl
sum_to_ℤ_pos (suc n) g = rw (sum_to_ℤ_pos n g)

-- the mark of a number that is 0 or 1
mark_is : (k : ℕ) → k ≤ 1 → indicator (marked (λ v. pos k) 0) ≡ k
mark_is zero h = refl
mark_is (suc zero) h = refl
mark_is (suc (suc k)) h = absurd (omega arith)

-- ---- what is accepted may be matched

module _ (st : Setting) (rs : List ℕ) (a : Admissible st (word_arcs rs)) (q : asks st ≡ assignment) where
  ends : PumpsAndSites st
  ends = subst (λ (k : Question). EndsFor k st) q a.opened.ends

  sides : Every (PumpToSite st) (word_arcs rs)
  sides = every_map (λ x (h : Allowed st x). subst (λ (k : Question). SidesFor k st x) q h.joins.sides) (word_arcs rs) a.allowed

  each_across : (l : List ℕ) → Every (Allowed st) (word_arcs l) → Every (PumpToSite st) (word_arcs l) → all (leads_across (pumps st) st.n) l ≡ true
  each_across [] h p = refl
  each_across (r ∷ l) h p =
      both_on (leads_across (pumps st) st.n r) (all (leads_across (pumps st) st.n) l) true
      (both_on (ltb (word_arc r).tail (pumps st) && leb (pumps st) (word_arc r).head && ltb (word_arc r).head st.n) (leb (word_arc r).weight most_weight) true
      (both_on (ltb (word_arc r).tail (pumps st) && leb (pumps st) (word_arc r).head) (ltb (word_arc r).head st.n) true
      (both_on (ltb (word_arc r).tail (pumps st)) (leb (pumps st) (word_arc r).head) true
      (lt-ltb (word_arc r).tail (pumps st) p.0.from_pump) (le-leb (pumps st) (word_arc r).head p.0.to_site))
      (lt-ltb (word_arc r).head st.n h.0.joins.head_below))
      (le-leb (word_arc r).weight most_weight h.0.weight_within))
      (each_across l h.1 p.1)

  may_match : (pi x : List ℕ) → length pi ≡ st.n → length x ≡ length rs → matchable rs (pumps st) (length pi) (length x) ≡ true
  may_match pi x en em =
      rw en (
      both_on (leb (pumps st) st.n && leb st.n most_vertices && leb (length rs) most_arcs && eqb (length x) (length rs)) (all (leads_across (pumps st) st.n) rs) true
      (both_on (leb (pumps st) st.n && leb st.n most_vertices && leb (length rs) most_arcs) (eqb (length x) (length rs)) true
      (both_on (leb (pumps st) st.n && leb st.n most_vertices) (leb (length rs) most_arcs) true
      (both_on (leb (pumps st) st.n) (leb st.n most_vertices) true
      (le-leb (pumps st) st.n (omega (arith, ends.some_site))) (le-leb st.n most_vertices a.opened.sized.at_most))
      (le-leb (length rs) most_arcs (few_records rs a)))
      (eq-eqb (length x) (length rs) em))
      (each_across rs a.allowed sides)
      )

  abbrev es : List Arc
  es = word_arcs rs

  -- ---- what was found, taken apart

  abbrev pub MatchCase : List ℕ → List ℕ → Match → Type 0
  MatchCase pi' x' SaturatingMatch = Saturating (pumps st) st.n (record_tails rs) (record_heads rs) (record_weights rs) x' pi'
  MatchCase pi' x' NoMatch = Deficient (pumps st) st.n (record_tails rs) (record_heads rs) pi' × (x' ≡ zero_list (length (record_tails rs)))

  pub not_refused : {pi x pi' x' : List ℕ} {o : OutOfLimits} → length pi ≡ st.n → length x ≡ length rs → MatchOutcome rs (pumps st) pi x pi' x' (Err o) → ⊥
  not_refused {pi} {x} en em (MatchOutcome.refused off ep ex) = false≢true (sym off ∙ may_match pi x en em)

  pub match_case : {pi x pi' x' : List ℕ} {r : Match} → length pi ≡ st.n → length x ≡ length rs → MatchOutcome rs (pumps st) pi x pi' x' (Ok r) → MatchCase pi' x' r
  match_case {pi} {x} {pi'} {x'} {r} en em (MatchOutcome.found ok O) = go (subst (λ (n : ℕ). FindOutcome (pumps st) n (record_tails rs) (record_heads rs) (record_weights rs) pi' x' r) en O)
    where
      go : {s : Match} → FindOutcome (pumps st) st.n (record_tails rs) (record_heads rs) (record_weights rs) pi' x' s → MatchCase pi' x' s
      go (FindOutcome.saturating P) = P
      go (FindOutcome.deficient D z) = (D, z)

  -- ---- what is written is small, and as long

  module _ {pi' x' : List ℕ} (P : MatchCase pi' x' SaturatingMatch) where
    abbrev f : List Load
    f = loads_of es x'

    pub potentials_low : (v : ℕ) → v < length pi' → number_of Potential (entry pi' v) ≤ most_potential
    potentials_low v h = omega (arith, P.range v (omega (arith, P.pi_len)))

    rule : Every (Between (pumps st) (sites st)) (arcs f)
    rule = rw (loads_arcs es x') (every_zip (λ e (h : Allowed st e) (p : PumpToSite st e). crosses_over st e h.joins.head_below p) es a.allowed sides)

    leaves : (v : ℕ) → v < pumps st → leaving v f ≤ 1
    leaves v h = omega (arith, flow_sum (λ e. e.tail) es x' v, P.left_most v h)

    enters : (v : ℕ) → pumps st ≤ v → v < st.n → entering v f ≡ 1
    enters v g h = sym (flow_sum (λ e. e.head) es x' v) ∙ P.right_one v g h

    pumps_once : (v : ℕ) → v < pumps st → degree v f ≤ 1
    pumps_once v h = omega (arith, leaves v h, enters_no_pump (pumps st) (sites st) f rule v h)

    sites_once : (v : ℕ) → pumps st ≤ v → v < pumps st + sites st → degree v f ≡ 1
    sites_once v g h = omega (arith, enters v g (omega (arith, ends.some_site)), leaves_no_site (pumps st) (sites st) f rule v g)

    spare : (v : ℕ) → v < pumps st → degree v f ≡ 0 → entry pi' v ≡ 0
    spare v h z = P.left_spare v h (omega (arith, flow_sum (λ e. e.tail) es x' v))

    assigned : AssignmentBalances st f
    assigned v h = go (dec_lt v (pumps st))
      where
        go : Dec (v < pumps st) → T (assignment_balance st v (balance v f))
        go (yes l) =
            let e : balance v f ≡ pos (leaving v f) = omega (signed, balance_parts (leaving v f) (entering v f), enters_no_pump (pumps st) (sites st) f rule v l) in
            subst (λ (b : ℤ). T (assignment_balance st v b)) (sym e) (pump_balance st v l (leaving v f) (leaves v l))
        go (no l) =
            let k : pumps st ≤ v = omega arith in
            let e : balance v f ≡ neg_ℤ (pos 1) = omega (signed, balance_parts (leaving v f) (entering v f), enters v k h, leaves_no_site (pumps st) (sites st) f rule v k) in
            subst (λ (b : ℤ). T (assignment_balance st v b)) (sym e) (site_balance st v k)

    certificate : AssignmentCertificate st (λ v. pos (entry pi' v)) f (cost f)
    certificate = record {
      potentials = λ v h. record { above = omega signed; below = omega (signed, P.range v h) };
      pumps_rule = λ v h. natural_pump st v (entry pi' v);
      amounts = every_load ZeroOrOne es x' (λ e h. P.zero_or_one e);
      feasible = every_load (Feasible (λ v. pos (entry pi' v))) es x' (λ e h. omega (signed, P.feasible e (index es e h)));
      balances = assigned;
      sums = omega (
        signed,
        parts_sub (sum_to_ℤ (sites st) (λ i. pos (entry pi' (pumps st + i)))) (sum_to_ℤ (pumps st) (λ v. pos (entry pi' v))),
        sum_to_ℤ_pos (sites st) (λ i. entry pi' (pumps st + i)),
        sum_to_ℤ_pos (pumps st) (entry pi'),
        pumps_sum (pumps st) (sites st) f rule pumps_once (entry pi') spare,
        sites_sum (pumps st) (sites st) f rule sites_once (entry pi'),
        paid_cost (entry pi') f (every_load _ es x' (λ e h p. P.tight e (index es e h) p)),
      );
      answer = refl;
    }

    pub match_answer : {ys : List ℤ} → NodeNumbers Potential pi' ys → Solution st es ys x' 1
    match_answer {ys} w = solution st es assignment q ys x' (value (cost f))
        (subst (λ (y : ℕ → ℤ). RulesHold assignment st y f (value (cost f))) (sym (written_at Potential pi' ys refl w)) certificate) tt

  module _ {pi' x' : List ℕ} (C : MatchCase pi' x' NoMatch) where
    D : Deficient (pumps st) st.n (record_tails rs) (record_heads rs) pi'
    D = C.0

    pub marks_low : (v : ℕ) → v < length pi' → number_of Potential (entry pi' v) ≤ most_potential
    marks_low v h = omega (arith, D.zero_or_one v)

    marked_is : (v : ℕ) → indicator (marked (λ w. pos (entry pi' w)) v) ≡ entry pi' v
    marked_is v = mark_is (entry pi' v) (D.zero_or_one v)

    unmarked_is : (v : ℕ) → indicator (not (marked (λ w. pos (entry pi' w)) v)) ≡ 1 - entry pi' v
    unmarked_is v = go (marked (λ w. pos (entry pi' w)) v) (marked_is v)
      where
        go : (b : Bool) → indicator b ≡ entry pi' v → indicator (not b) ≡ 1 - entry pi' v
        go true e = omega arith
        go false e = omega arith

    closed : (e : ℕ) → e < length es → crosses (marked (λ w. pos (entry pi' w))) (column_arc es e) ≡ false
    closed e h = go (marked (λ w. pos (entry pi' w)) t) refl (marked (λ w. pos (entry pi' w)) u) refl
      where
        t : ℕ
        t = entry (record_tails rs) e

        u : ℕ
        u = entry (record_heads rs) e

        go : (x : Bool) → marked (λ w. pos (entry pi' w)) t ≡ x → (y : Bool) → marked (λ w. pos (entry pi' w)) u ≡ y → (marked (λ w. pos (entry pi' w)) t && not (marked (λ w. pos (entry pi' w)) u)) ≡ false
        go false p y r = rw p
        go true p true r = rw (p, r)
        go true p false r = absurd (omega (arith, marked_is t, ap indicator p, marked_is u, ap indicator r, D.closed e (index es e h) (omega (arith, marked_is t, ap indicator p))))

    no_certificate : NoAssignmentCertificate st (λ v. pos (entry pi' v)) (loads_of es x')
    no_certificate = record {
      marks = λ v h. record { above = omega signed; below = omega (signed, D.zero_or_one v) };
      amounts = every_load NoAmount es x' (λ e h. rw C.1 (zero_at (length (record_tails rs)) e));
      closed = every_load (Closed (λ v. pos (entry pi' v))) es x' (λ e h. closed e h);
      more_sites = lt→ltb (unmarked_pumps st (marked (λ w. pos (entry pi' w)))) (unmarked_sites st (marked (λ w. pos (entry pi' w)))) (omega (
        arith,
        D.fewer,
        sum_to_ext (pumps st) (λ v. indicator (not (marked (λ w. pos (entry pi' w)) v))) (λ v. 1 - entry pi' v) (λ v h. unmarked_is v),
        sum_to_ext (sites st) (λ i. indicator (not (marked (λ w. pos (entry pi' w)) (pumps st + i)))) (λ i. 1 - entry pi' (pumps st + i)) (λ i h. unmarked_is (pumps st + i)),
      ));
    }

    pub none_answer : {ys : List ℤ} → NodeNumbers Potential pi' ys → Solution st es ys x' 2
    none_answer {ys} w = solution st es assignment q ys x' none
        (subst (λ (y : ℕ → ℤ). RulesHold assignment st y (loads_of es x') none) (sym (written_at Potential pi' ys refl w)) no_certificate) tt
