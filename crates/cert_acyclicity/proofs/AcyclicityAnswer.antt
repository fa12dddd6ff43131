-- The answer for acyclicity: ranks that rise are a certificate of the value 0, and marks that circulate are one of none.
use mathlib.Core.Path.{◌≡◌, refl, sym, ◌∙◌, ap, subst}
use mathlib.Core.Bool.{true, ◌&&◌, false≢true}
use mathlib.Core.List.{List, [], ◌∷◌}
use Prim.Native.Nat.{ℕ, zero, suc, ◌≤◌, ◌<◌}
use native.Mathlib.Omega.{arith}
use borrow.Author.Tests.{eq-eqb, lt-ltb, le-leb}
use lib.Dec.{eqb, leb, ltb, lt→ltb}
use lib.IntN.{ℤ, pos}
use lib.ListN.{length, length-map}
use Rattle.prelude.specs.Lists.{Every, all, at}
use Rattle.prelude.proofs.Integers.{signed, parts_sub}
use Rattle.prelude.proofs.Tested.{both_on}
use Rattle.arc_records.specs.Limits.{most_vertices, most_arcs, most_potential}
use Rattle.arc_records.specs.Arcs.{word_arc, word_arcs}
use Rattle.network.specs.Network.{loads_of, sum_of, leaving, entering}
use Rattle.network.specs.Question.{acyclicity, Setting, Allowed, Answer, value, none, asks, Admissible}
use Rattle.network.proofs.Rules.{ZeroOrOne, NoAmount, Rises, AcyclicCertificate, CyclicCertificate, RulesHold}
use Rattle.packed_arcs.specs.Entries.{entry, zero_list}
use Rattle.packed_arcs.proofs.LentParts.{zero_at}
use Rattle.arc_index.specs.Columns.{record_tails, record_heads}
use Rattle.order_path.specs.Search.{joins_below, searchable, Ordered, Circulation, SearchOutcome}
use Rattle.order_path.specs.declared.Found.{Found}
use Rattle.order_path.specs.declared.Found.TheVariants.{Order, Cycle}
use Rattle.std.specs.Prelude.{Result, Ok, Err, IsOk}
use Rattle.packed_arcs.specs.declared.OutOfLimits.{OutOfLimits}
use Rattle.cert_instances.specs.Instance.{number_of}
use Rattle.cert_instances.specs.Certify.{NodeNumbers, Solution}
use Rattle.cert_instances.specs.declared.vertices.NumberKind.TheVariants.{Potential}
use Rattle.cert_instances.proofs.ColumnsAndLoads.{flow_sum, every_load, column_len, index}
use Rattle.cert_instances.proofs.FlowInputs.{few_records}
use Rattle.cert_instances.proofs.Solutions.{written_at, solution}

-- an amount above 0 is one in the sum of all
some_amount : (rs xs : List ℕ) (e : ℕ) → length xs ≡ length rs → 0 < entry xs e → 0 < sum_of (λ a. 1) (loads_of (word_arcs rs) xs)
unfolding sum_of loads_of
some_amount [] [] e q h = absurd (omega arith)
some_amount [] (x ∷ xs) e q h = absurd (omega arith)
some_amount (r ∷ rs) [] e q h = absurd (omega arith)
some_amount (r ∷ rs) (x ∷ xs) zero q h = omega (arith, h)
some_amount (r ∷ rs) (x ∷ xs) (suc e) q h = omega (arith, some_amount rs xs e (omega arith) h)

-- ---- what is accepted may be searched

each_joins : (st : Setting) (rs : List ℕ) → Every (Allowed st) (word_arcs rs) → all (joins_below st.n) rs ≡ true
each_joins st [] h = refl
each_joins st (r ∷ rs) h =
    both_on (joins_below st.n r) (all (joins_below st.n) rs) true
    (both_on (ltb (word_arc r).tail st.n) (ltb (word_arc r).head st.n) true
    (lt-ltb (word_arc r).tail st.n h.0.joins.tail_below) (lt-ltb (word_arc r).head st.n h.0.joins.head_below))
    (each_joins st rs h.1)

module _ (st : Setting) (rs : List ℕ) (a : Admissible st (word_arcs rs)) (q : asks st ≡ acyclicity) where
  may_search : (ranks marks : List ℕ) → length ranks ≡ st.n → length marks ≡ length rs → searchable rs (length ranks) (length marks) ≡ true
  may_search ranks marks en em =
      rw en (
      both_on (leb st.n most_vertices && leb (length rs) most_arcs && eqb (length marks) (length rs)) (all (joins_below st.n) rs) true
      (both_on (leb st.n most_vertices && leb (length rs) most_arcs) (eqb (length marks) (length rs)) true
      (both_on (leb st.n most_vertices) (leb (length rs) most_arcs) true
      (le-leb st.n most_vertices a.opened.sized.at_most) (le-leb (length rs) most_arcs (few_records rs a)))
      (eq-eqb (length marks) (length rs) em))
      (each_joins st rs a.allowed)
      )

  -- ---- what is written of what was found

  -- the numbers are the ranks
  by_ranks : (ranks xs : List ℕ) (ys : List ℤ) → NodeNumbers Potential ranks ys → (b : Answer)
      → RulesHold acyclicity st (λ v. pos (entry ranks v)) (loads_of (word_arcs rs) xs) b → RulesHold acyclicity st (at ys) (loads_of (word_arcs rs) xs) b
  by_ranks ranks xs ys w b = subst (λ (y : ℕ → ℤ). RulesHold acyclicity st y (loads_of (word_arcs rs) xs) b) (sym (written_at Potential ranks ys refl w))

  -- the outcome of the search, taken apart
  pub record InOrder (ranks' marks' : List ℕ) : Type 0 where
    pub few : length ranks' ≤ most_vertices
    pub order : Ordered (record_tails rs) (record_heads rs) ranks'
    pub unmarked : marks' ≡ zero_list (length rs)

  pub record InCycle (ranks' marks' : List ℕ) : Type 0 where
    pub no_ranks : ranks' ≡ zero_list st.n
    pub marks_len : length marks' ≡ length rs
    pub cycle : Circulation (record_tails rs) (record_heads rs) marks'

  abbrev pub FoundCase : List ℕ → List ℕ → Result Found OutOfLimits → Type 0
  FoundCase ranks' marks' (Ok Order) = InOrder ranks' marks'
  FoundCase ranks' marks' (Ok Cycle) = InCycle ranks' marks'
  FoundCase ranks' marks' (Err e) = ⊥

  pub found_case : {ranks marks ranks' marks' : List ℕ} {r : Result Found OutOfLimits} → length ranks ≡ st.n → length marks ≡ length rs
      → SearchOutcome rs ranks marks ranks' marks' r → FoundCase ranks' marks' r
  found_case en em (SearchOutcome.ordered ok len o z) =
      record { few = omega (arith, len, en, a.opened.sized.at_most); order = o; unmarked = z ∙ ap zero_list em }
  found_case en em (SearchOutcome.cyclic ok z c) =
      record { no_ranks = z ∙ ap zero_list en; marks_len = c.len ∙ column_len (λ e. e.tail) (word_arcs rs) ∙ length-map rs word_arc; cycle = c }
  found_case {ranks} {marks} en em (SearchOutcome.refused off er em') = absurd (false≢true (sym off ∙ may_search ranks marks en em))

  -- it is no refusal
  pub is_found : (ranks' marks' : List ℕ) (r : Result Found OutOfLimits) → FoundCase ranks' marks' r → IsOk r
  is_found ranks' marks' (Ok f) c = refl
  is_found ranks' marks' (Err e) c = absurd c

  -- what is written is small
  pub found_low : (ranks' marks' : List ℕ) (f : Found) → FoundCase ranks' marks' (Ok f) → (v : ℕ) → v < length ranks' → number_of Potential (entry ranks' v) ≤ most_potential
  found_low ranks' marks' Order o v h = omega (arith, o.order.below v, o.few)
  found_low ranks' marks' Cycle c v h = rw c.no_ranks (omega (arith, zero_at st.n v))

  pub order_answer : {ranks' marks' : List ℕ} {ys : List ℤ} → InOrder ranks' marks' → NodeNumbers Potential ranks' ys → Solution st (word_arcs rs) ys marks' 1
  order_answer {ranks'} {marks'} {ys} o w = solution st (word_arcs rs) acyclicity q ys marks' (value 0) (by_ranks ranks' marks' ys w (value 0) certificate) tt
    where
      certificate : AcyclicCertificate st (λ v. pos (entry ranks' v)) (loads_of (word_arcs rs) marks') 0
      certificate = record {
        potentials = λ v h. record { above = omega signed; below = omega (signed, o.order.below v, o.few) };
        amounts = every_load NoAmount (word_arcs rs) marks' (λ e h. rw o.unmarked (zero_at (length rs) e));
        rising = every_load (Rises (λ v. pos (entry ranks' v))) (word_arcs rs) marks' (λ e h. record { lt = lt→ltb _ _ (o.order.rises e (index (word_arcs rs) e h)) });
        answer = refl;
      }

  pub cycle_answer : {ranks' marks' : List ℕ} {ys : List ℤ} → InCycle ranks' marks' → NodeNumbers Potential ranks' ys → Solution st (word_arcs rs) ys marks' 2
  cycle_answer {ranks'} {marks'} {ys} c w = solution st (word_arcs rs) acyclicity q ys marks' none (by_ranks ranks' marks' ys w none certificate) tt
    where
      rank_zero : (v : ℕ) → entry ranks' v ≡ 0
      rank_zero v = rw c.no_ranks (zero_at st.n v)

      certificate : CyclicCertificate st (λ v. pos (entry ranks' v)) (loads_of (word_arcs rs) marks')
      certificate = record {
        zeros = λ v h. record { above = omega (signed, rank_zero v); below = omega (signed, rank_zero v) };
        amounts = every_load ZeroOrOne (word_arcs rs) marks' (λ e h. c.cycle.zero_or_one e);
        balances = λ v h.
            omega (
              signed,
              parts_sub (pos (leaving v (loads_of (word_arcs rs) marks'))) (pos (entering v (loads_of (word_arcs rs) marks'))),
              flow_sum (λ e. e.tail) (word_arcs rs) marks' v,
              flow_sum (λ e. e.head) (word_arcs rs) marks' v,
              c.cycle.balanced v,
            );
        some = some_amount rs marks' c.cycle.one c.marks_len c.cycle.marked;
      }
