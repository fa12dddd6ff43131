-- The tests of checks 1, 2, 3, 6, 7, 8 and 9 hold exactly where their rules do.
use mathlib.Core.Path.{◌≡◌, refl, sym, ◌∙◌, ap}
use mathlib.Core.Logic.{◌≢◌, ◌⊎◌, inl, inr}
use mathlib.Core.Bool.{Bool, not, ◌&&◌}
use mathlib.Core.List.{List, [], ◌∷◌, ◌++◌}
use Prim.Native.Nat.{ℕ, suc, ◌+◌, ◌≤◌, ◌<◌}
use native.Mathlib.Nat.{add-zero}
use native.Mathlib.Omega.{arith}
use native.Mathlib.Decide.{ℕ_discrete, dec_le}
use borrow.Author.Tests.{eq-eqb, ne_eqb}
use lib.Dec.{T, eqb, leb, ltb, eqb→eq, eqb_refl, leb→le, le→leb, ltb→lt, lt→ltb}
use Rattle.prelude.proofs.Booleans.{and_left, and_right, both, false→not}
use lib.ListN.{length}
use Rattle.prelude.specs.Checks.{Check, Hold}
use Rattle.prelude.specs.Lists.{Every}
use Rattle.prelude.proofs.Settle.{hold_append, Numbered, numbered_append}
use Rattle.arc_records.specs.Limits.{most_vertices, most_arcs, most_weight}
use Rattle.arc_records.specs.Arcs.{Arc}
use Rattle.network.specs.Question.{Question, shortest_path, maximum_flow, assignment, acyclicity, question_of, unasked, Setting, asks, pumps, Asked, Sized, TwoVertices, BothZero, PumpsAndSites, EndsFor, Opened, SidesFor, Joins, WeightWithin, Allowed}
use Rattle.network.specs.Certificate.{rules_for, MayClaim}
use Rattle.network.specs.Tests.{is_asked, size_ok, two_vertices, both_zero, pumps_and_sites, ends_for, ends_ok, opening_checks, sides_for, joins_ok, weight_ok, arc_checks, reading_checks, reading_all, claim_of, claim_ok}

-- ---- numbers that differ

not_eqb : (a b : ℕ) → T (not (eqb a b)) → a ≢ b
not_eqb a b t e = absurd (rw (eq-eqb a b e) at t)

eqb_not : (a b : ℕ) → a ≢ b → T (not (eqb a b))
eqb_not a b h = false→not (eqb a b) (ne_eqb a b h)

eq→T : (a b : ℕ) → a ≡ b → T (eqb a b)
eq→T a b e = rw e (eqb_refl b)

-- ---- 1

pub asked_rule : (q : Question) → T (is_asked q) → Asked q
asked_rule shortest_path t = tt
asked_rule maximum_flow t = tt
asked_rule assignment t = tt
asked_rule acyclicity t = tt
asked_rule unasked t = absurd t

pub asked_test : (q : Question) → Asked q → T (is_asked q)
asked_test shortest_path h = tt
asked_test maximum_flow h = tt
asked_test assignment h = tt
asked_test acyclicity h = tt
asked_test unasked h = absurd h

-- a number that asks a question is 1 to 4
pub asked_least : (k : ℕ) → T (is_asked (question_of k)) → k ≤ 4
asked_least k t = go (dec_le k 4)
  where
    go : Dec (k ≤ 4) → k ≤ 4
    go (yes h) = h
    go (no h) =
        absurd (rw (ne_eqb k 1 (λ e. h (omega arith)), ne_eqb k 2 (λ e. h (omega arith)), ne_eqb k 3 (λ e. h (omega arith)), ne_eqb k 4 (λ e. h (omega arith))) at t)

-- ---- 2

pub size_rule : (st : Setting) → T (size_ok st) → Sized st
size_rule st t = record { at_least = leb→le 2 st.n (and_left (leb 2 st.n) (leb st.n most_vertices) t); at_most = leb→le st.n most_vertices (and_right (leb 2 st.n) (leb st.n most_vertices) t) }

pub size_test : (st : Setting) → Sized st → T (size_ok st)
size_test st h = both (leb 2 st.n) (leb st.n most_vertices) (le→leb 2 st.n h.at_least) (le→leb st.n most_vertices h.at_most)

-- ---- 3

two_rule : (st : Setting) → T (two_vertices st) → TwoVertices st
two_rule st t =
    let r = and_left (ltb st.s st.n && ltb st.t st.n) (not (eqb st.s st.t)) t in
    record {
      source_below = ltb→lt st.s st.n (and_left (ltb st.s st.n) (ltb st.t st.n) r);
      sink_below = ltb→lt st.t st.n (and_right (ltb st.s st.n) (ltb st.t st.n) r);
      apart = not_eqb st.s st.t (and_right (ltb st.s st.n && ltb st.t st.n) (not (eqb st.s st.t)) t);
    }

two_test : (st : Setting) → TwoVertices st → T (two_vertices st)
two_test st h =
    both (ltb st.s st.n && ltb st.t st.n) (not (eqb st.s st.t))
    (both (ltb st.s st.n) (ltb st.t st.n) (lt→ltb st.s st.n h.source_below) (lt→ltb st.t st.n h.sink_below))
    (eqb_not st.s st.t h.apart)

zero_rule : (st : Setting) → T (both_zero st) → BothZero st
zero_rule st t =
    record { source_zero = eqb→eq st.s 0 (and_left (eqb st.s 0) (eqb st.t 0) t); sink_zero = eqb→eq st.t 0 (and_right (eqb st.s 0) (eqb st.t 0) t) }

zero_test : (st : Setting) → BothZero st → T (both_zero st)
zero_test st h = both (eqb st.s 0) (eqb st.t 0) (eq→T st.s 0 h.source_zero) (eq→T st.t 0 h.sink_zero)

pumps_rule : (st : Setting) → T (pumps_and_sites st) → PumpsAndSites st
pumps_rule st t =
    let r = and_left (leb 1 st.s && ltb st.s st.n) (eqb st.t 0) t in
    record {
      some_pump = leb→le 1 st.s (and_left (leb 1 st.s) (ltb st.s st.n) r);
      some_site = ltb→lt st.s st.n (and_right (leb 1 st.s) (ltb st.s st.n) r);
      sink_zero = eqb→eq st.t 0 (and_right (leb 1 st.s && ltb st.s st.n) (eqb st.t 0) t);
    }

pumps_test : (st : Setting) → PumpsAndSites st → T (pumps_and_sites st)
pumps_test st h =
    both (leb 1 st.s && ltb st.s st.n) (eqb st.t 0)
    (both (leb 1 st.s) (ltb st.s st.n) (le→leb 1 st.s h.some_pump) (lt→ltb st.s st.n h.some_site))
    (eq→T st.t 0 h.sink_zero)

ends_rule_for : (q : Question) (st : Setting) → T (ends_for q st) → EndsFor q st
ends_rule_for shortest_path st t = two_rule st t
ends_rule_for maximum_flow st t = two_rule st t
ends_rule_for assignment st t = pumps_rule st t
ends_rule_for acyclicity st t = zero_rule st t
ends_rule_for unasked st t = absurd t

ends_test_for : (q : Question) (st : Setting) → EndsFor q st → T (ends_for q st)
ends_test_for shortest_path st h = two_test st h
ends_test_for maximum_flow st h = two_test st h
ends_test_for assignment st h = pumps_test st h
ends_test_for acyclicity st h = zero_test st h
ends_test_for unasked st h = absurd h

pub ends_rule : (st : Setting) → T (ends_ok st) → EndsFor (asks st) st
ends_rule st t = ends_rule_for (asks st) st t

pub ends_test : (st : Setting) → EndsFor (asks st) st → T (ends_ok st)
ends_test st h = ends_test_for (asks st) st h

-- ---- 7

sides_rule : (q : Question) (st : Setting) (e : Arc) → T (sides_for q st e) → SidesFor q st e
sides_rule shortest_path st e t = tt
sides_rule maximum_flow st e t = tt
sides_rule assignment st e t =
    record {
      from_pump = ltb→lt e.tail (pumps st) (and_left (ltb e.tail (pumps st)) (leb (pumps st) e.head) t);
      to_site = leb→le (pumps st) e.head (and_right (ltb e.tail (pumps st)) (leb (pumps st) e.head) t);
    }
sides_rule acyclicity st e t = tt
sides_rule unasked st e t = absurd t

sides_test : (q : Question) (st : Setting) (e : Arc) → SidesFor q st e → T (sides_for q st e)
sides_test shortest_path st e h = tt
sides_test maximum_flow st e h = tt
sides_test assignment st e h =
    both (ltb e.tail (pumps st)) (leb (pumps st) e.head) (lt→ltb e.tail (pumps st) h.from_pump) (le→leb (pumps st) e.head h.to_site)
sides_test acyclicity st e h = tt
sides_test unasked st e h = absurd h

module _ (st : Setting) (e : Arc) where
  inside : Bool
  inside = ltb e.tail st.n && ltb e.head st.n

  pub joins_rule : T (joins_ok st e) → Joins st e
  unfolding inside
  joins_rule t =
      let i = and_left inside (sides_for (asks st) st e) t in
      record {
        tail_below = ltb→lt e.tail st.n (and_left (ltb e.tail st.n) (ltb e.head st.n) i);
        head_below = ltb→lt e.head st.n (and_right (ltb e.tail st.n) (ltb e.head st.n) i);
        sides = sides_rule (asks st) st e (and_right inside (sides_for (asks st) st e) t);
      }

  pub joins_test : Joins st e → T (joins_ok st e)
  unfolding inside
  joins_test h =
      both inside (sides_for (asks st) st e)
      (both (ltb e.tail st.n) (ltb e.head st.n) (lt→ltb e.tail st.n h.tail_below) (lt→ltb e.head st.n h.head_below))
      (sides_test (asks st) st e h.sides)

-- ---- 8

pub weight_rule : (e : Arc) → T (weight_ok e) → WeightWithin e
weight_rule e t = leb→le e.weight most_weight t

pub weight_test : (e : Arc) → WeightWithin e → T (weight_ok e)
weight_test e h = le→leb e.weight most_weight h

-- ---- 9

-- a claim that has a number is 1 or 2
one_or_two : (k : ℕ) → T (leb 1 k && leb k 2) → (k ≡ 1) ⊎ (k ≡ 2)
one_or_two k t = go (ℕ_discrete k 1)
  where
    go : Dec (k ≡ 1) → (k ≡ 1) ⊎ (k ≡ 2)
    go (yes e) = inl e
    go (no n) = inr (omega (arith, leb→le 1 k (and_left (leb 1 k) (leb k 2) t), leb→le k 2 (and_right (leb 1 k) (leb k 2) t)))

claim_rule_for : (q : Question) (k : ℕ) → (k ≡ 1) ⊎ (k ≡ 2) → T (rules_for q (claim_of k)).admitted → MayClaim q k
claim_rule_for shortest_path k d a = d
claim_rule_for maximum_flow k (inl e) a = e
claim_rule_for maximum_flow k (inr e) a = absurd (rw e at a)
claim_rule_for assignment k d a = d
claim_rule_for acyclicity k d a = d
claim_rule_for unasked k d a = a

pub claim_rule : (st : Setting) (k : ℕ) → T (claim_ok st k) → MayClaim (asks st) k
claim_rule st k t =
    let named = leb 1 k && leb k 2 in
    claim_rule_for (asks st) k (one_or_two k (and_left named (rules_for (asks st) (claim_of k)).admitted t)) (and_right named (rules_for (asks st) (claim_of k)).admitted t)

claim_test_for : (q : Question) (k : ℕ) → MayClaim q k → T ((leb 1 k && leb k 2) && (rules_for q (claim_of k)).admitted)
claim_test_for shortest_path k (inl e) = rw e tt
claim_test_for shortest_path k (inr e) = rw e tt
claim_test_for maximum_flow k e = rw e tt
claim_test_for assignment k (inl e) = rw e tt
claim_test_for assignment k (inr e) = rw e tt
claim_test_for acyclicity k (inl e) = rw e tt
claim_test_for acyclicity k (inr e) = rw e tt
claim_test_for unasked k h = absurd h

pub claim_test : (st : Setting) (k : ℕ) → MayClaim (asks st) k → T (claim_ok st k)
claim_test st k h = claim_test_for (asks st) k h

-- ---- together: opening and reading accept exactly what the rules allow

pub opening_rule : (st : Setting) → Hold (opening_checks st) → Opened st
opening_rule st h = record { asked = asked_rule (asks st) h.0; sized = size_rule st h.1.0; ends = ends_rule st h.1.1.0 }

pub opening_test : (st : Setting) → Opened st → Hold (opening_checks st)
opening_test st o = (asked_test (asks st) o.asked, (size_test st o.sized, (ends_test st o.ends, tt)))

-- s and t are below n: two vertices, a number of pumps and 0, or both 0
pub ends_below : (st : Setting) → Opened st → (st.s < st.n) × (st.t < st.n)
ends_below st o = go (asks st) o.ends
  where
    go : (q : Question) → EndsFor q st → (st.s < st.n) × (st.t < st.n)
    go shortest_path e = (e.source_below, e.sink_below)
    go maximum_flow e = (e.source_below, e.sink_below)
    go assignment e = (e.some_site, omega (arith, e.sink_zero, o.sized.at_least))
    go acyclicity e = (omega (arith, e.source_zero, o.sized.at_least), omega (arith, e.sink_zero, o.sized.at_least))
    go unasked e = absurd e

-- each number of a setting fits a byte
pub opened_small : (st : Setting) → Opened st → (st.question ≤ 255) × (st.n ≤ 255) × (st.s ≤ 255) × (st.t ≤ 255)
opened_small st o =
    let ends = ends_below st o in
    let most = o.sized.at_most in
    (omega (arith, asked_least st.question (asked_test (asks st) o.asked)), most, omega (arith, most, ends.0), omega (arith, most, ends.1))

pub arc_rule : (st : Setting) (e : Arc) → Hold (arc_checks st e) → Allowed st e
arc_rule st e h = record { joins = joins_rule st e h.0; weight_within = weight_rule e h.1.0 }

pub arc_test : (st : Setting) (e : Arc) → Allowed st e → Hold (arc_checks st e)
arc_test st e a = (joins_test st e a.joins, (weight_test e a.weight_within, tt))

-- ---- a list of arcs, read one after the other where i are read already

pub reading_append : (st : Setting) (i : ℕ) (xs ys : List Arc) → reading_all st i (xs ++ ys) ≡ reading_all st i xs ++ reading_all st (i + length xs) ys
unfolding reading_all
reading_append st i [] ys = ap (λ (k : ℕ). reading_all st k ys) (sym (add-zero i))
reading_append st i (x ∷ xs) ys =
    let e : suc i + length xs ≡ i + suc (length xs) = omega arith in
    ap (λ (l : List Check). reading_checks st i x ++ l) (reading_append st (suc i) xs ys ∙ ap (λ (k : ℕ). reading_all st (suc i) xs ++ reading_all st k ys) e)

pub one_numbered : (st : Setting) (i : ℕ) (e : Arc) → Numbered (reading_checks st i e)
one_numbered st i e = (refl, (refl, (refl, tt)))

pub reading_numbered : (st : Setting) (i : ℕ) (net : List Arc) → Numbered (reading_all st i net)
unfolding reading_all
reading_numbered st i [] = tt
reading_numbered st i (e ∷ net) = numbered_append (reading_checks st i e) (reading_all st (suc i) net) (one_numbered st i e) (reading_numbered st (suc i) net)

pub opening_numbered : (st : Setting) → Numbered (opening_checks st)
opening_numbered st = (refl, (refl, (refl, tt)))

-- reading accepts exactly the lists of arcs that are allowed, as many as there is room for
pub reading_rule : (st : Setting) (i : ℕ) (net : List Arc) → Hold (reading_all st i net) → Every (Allowed st) net
unfolding reading_all
reading_rule st i [] h = tt
reading_rule st i (e ∷ net) h = (arc_rule st e (h.1.0, (h.1.1.0, tt)), reading_rule st (suc i) net h.1.1.1)

pub reading_few : (st : Setting) (i : ℕ) (net : List Arc) → i ≤ most_arcs → Hold (reading_all st i net) → i + length net ≤ most_arcs
unfolding reading_all
reading_few st i [] l h = omega arith
reading_few st i (e ∷ net) l h = omega (arith, reading_few st (suc i) net (ltb→lt i most_arcs h.0) h.1.1.1)

pub reading_test : (st : Setting) (i : ℕ) (net : List Arc) → Every (Allowed st) net → i + length net ≤ most_arcs → Hold (reading_all st i net)
unfolding reading_all
reading_test st i [] a l = tt
reading_test st i (e ∷ net) a l =
    hold_append (reading_checks st i e) (reading_all st (suc i) net) (lt→ltb i most_arcs (omega arith), arc_test st e a.0) (reading_test st (suc i) net a.1 (omega arith))
