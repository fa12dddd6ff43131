-- Laws that the proofs of the steps cite: a turn by the number that its checks gave, and what its checks say.
use mathlib.Core.Path.{◌≡◌, refl, sym, ◌∙◌, ap}
use mathlib.Core.Bool.{Bool, true}
use mathlib.Core.List.{List, [], ◌∷◌, ◌++◌, append-nil}
use Prim.Native.Nat.{ℕ, ◌*◌, ◌≤◌, ◌<◌}
use native.Mathlib.Nat.{le_trans}
use lib.Dec.{T, eqb, leb, ltb, leb→le, ltb→lt, lit≤}
use lib.IntN.{ℤ, pos}
use Rattle.prelude.specs.Checks.{Check, ◌unless◌, first_broken, Hold}
use Rattle.prelude.specs.Choice.{indicator}
use Rattle.prelude.specs.Lists.{at}
use Rattle.prelude.specs.Sums.{all_to}
use Rattle.words.specs.Bounded.{bounded_sum}
use Rattle.prelude.proofs.Choice.{on}
use Rattle.prelude.proofs.Settle.{settled, hold_left, Numbered, none_broken, part_refused}
use Rattle.arc_records.specs.Arcs.{Arc, arc_held}
use Rattle.network.specs.Network.{Load, load_held}
use Rattle.network.specs.Question.{Question, shortest_path, maximum_flow, assignment, acyclicity, unasked, Setting, asks, unit_cost}
use Rattle.network.specs.Certificate.{Claim, of_value, of_none, Ends, ends_of, Sums, Rules, rules_for, rules_of}
use Rattle.network.specs.Tests.{opening_checks, arc_checks}
use Rattle.arc_records.specs.declared.Record.{Record}
use Rattle.network.proofs.Allowed.{opening_rule, opened_small, weight_rule}
use Rattle.points.specs.Points.{point_ok, same_print, extend_stream}
use Rattle.points.specs.declared.Point.{Point}
use Rattle.points.specs.declared.Stream.{Stream}
use Rattle.totals.specs.Held.{sums_held}
use Rattle.session_groups.proofs.GroupLaws.{broken_first, broken_later}
use Rattle.state.specs.State.{is_claimed, setting_held, claim_held, marks_held, repeat_more, state_of, open_checks, with_read, repeat_checks, with_repeat, finish_checks}
use Rattle.state.specs.Turns.{Turn, turned}
use Rattle.state.specs.declared.State.{State}

-- ---- a turn by the number that its checks gave

-- a refusal, and an acceptance
abbrev pub stays : State → ℕ → Turn
stays x k = record { state = x; why = k }

abbrev pub goes : State → Turn
goes y = record { state = y; why = 0 }

-- each list of checks has numbers above 0
module _ (x y : State) (cs : List Check) (n : Numbered cs) (why : ℕ) (found : why ≡ first_broken cs) where
  pub turn_refused : (why ≡ 0 → ⊥) → stays x why ≡ turned x cs y
  turn_refused h = part_refused (stays x) cs [] (goes y) n why found h ∙ ap (λ (ds : List Check). turned x ds y) (append-nil cs)

  pub turn_holds : why ≡ 0 → Hold cs
  turn_holds z = none_broken cs n (sym found ∙ z)

  pub turn_accepted : why ≡ 0 → (z : State) → z ≡ y → goes z ≡ turned x cs y
  turn_accepted z w e = ap (λ (u : State). goes u) e ∙ sym (settled (stays x) cs (goes y) (turn_holds z))

-- ---- reading

pub read_done : (x : State) (e : Arc) (m : Stream) → m ≡ extend_stream x.reading.point x.reading.list e
    → state_of x.phase (record { setting = x.reading.setting; point = x.reading.point; list = m }) x.numbering x.repeating ≡ with_read x e
read_done x e m h = λ i. state_of x.phase (record { setting = x.reading.setting; point = x.reading.point; list = h i }) x.numbering x.repeating

-- ---- numbers that fit eight bits, by the checks that they passed

pub open_small : (st : Setting) (r : Point) (why : ℕ) → why ≡ first_broken (open_checks st r) → why ≡ 0
    → (st.question ≤ 255) × (st.n ≤ 255) × (st.s ≤ 255) × (st.t ≤ 255)
open_small st r why found z =
    let h : Hold (open_checks st r) = none_broken (open_checks st r) (refl, (refl, (refl, (refl, tt)))) (sym found ∙ z) in
    opened_small st (opening_rule st (hold_left (opening_checks st) (4 unless point_ok r ∷ []) h))

-- ---- what the checks of a repeated arc say of its numbers

pub record Limits (x : State) (arc : Record) (v : ℕ) : Type 0 where
  pub weight : arc.weight ≤ 32767
  pub amount : v ≤ 32767
  pub room : x.repeating.list.count < x.reading.list.count

-- an amount that check 11 lets pass
amount_small : (q : Question) (c : Claim) (e : Arc) (v : ℕ) → e.weight ≤ 32767 → T (leb v ((rules_for q c).most e)) → v ≤ 32767
amount_small q c e v h t = le_trans (leb→le v ((rules_for q c).most e) t) (most q c)
  where
    most : (q : Question) (c : Claim) → (rules_for q c).most e ≤ 32767
    most shortest_path of_value = lit≤ tt
    most shortest_path of_none = lit≤ tt
    most maximum_flow of_value = h
    most maximum_flow of_none = lit≤ tt
    most assignment of_value = lit≤ tt
    most assignment of_none = lit≤ tt
    most acyclicity of_value = lit≤ tt
    most acyclicity of_none = lit≤ tt
    most unasked c = lit≤ tt

pub load_limits : (x : State) (y : ℕ → ℤ) (arc : Record) (v : ℕ) → Hold (repeat_checks x y (load_held arc v)) → Limits x arc v
load_limits x y arc v h =
    let w = weight_rule (arc_held arc) h.1.1.1.1.0 in
    record {
      weight = w;
      amount = amount_small (asks (setting_held x)) (claim_held x) (arc_held arc) v w h.1.1.1.1.1.0;
      room = ltb→lt x.repeating.list.count x.reading.list.count h.1.1.0;
    }

-- what a unit costs
pub cost_small : (q : Question) (e : Arc) → e.weight ≤ 32767 → unit_cost q e ≤ 32767
cost_small shortest_path e h = h
cost_small maximum_flow e h = lit≤ tt
cost_small assignment e h = h
cost_small acyclicity e h = lit≤ tt
cost_small unasked e h = lit≤ tt

-- ---- checks of what was read from the state

-- a repeated arc: the checks on the arc, and after them those on its amount
abbrev arc_part : State → Arc → List Check
arc_part x e =
    5 unless is_claimed x
    ∷ 5 unless eqb x.numbering.given x.reading.setting.n
    ∷ 6 unless ltb x.repeating.list.count x.reading.list.count
    ∷ arc_checks (setting_held x) e

abbrev load_part : Rules → Ends → Load → List Check
load_part rules ends l = 11 unless leb l.amount (rules.most l.arc) ∷ 12 unless rules.on_arc ends l ∷ []

-- `first` was found of the checks on the arc
module _ (x : State) (y : ℕ → ℤ) (arc : Record) (v : ℕ) (first : ℕ) (found : first ≡ first_broken (arc_part x (arc_held arc))) where
  abbrev loads : List Check
  loads = load_part (rules_of (setting_held x) (claim_held x)) (ends_of y (marks_held x) (arc_held arc)) (load_held arc v)

  pub arc_broken : (first ≡ 0 → ⊥) → first ≡ first_broken (repeat_checks x y (load_held arc v))
  arc_broken = broken_first (arc_part x (arc_held arc)) loads (refl, (refl, (refl, (refl, (refl, tt))))) first found

  -- `second` was found of those on the amount, by the row and the ends that were found
  pub load_broken : first ≡ 0 → {rules : Rules} {ends : Ends} → rules ≡ rules_of (setting_held x) (claim_held x) → ends ≡ ends_of y (marks_held x) (arc_held arc)
      → (second : ℕ) → second ≡ first_broken (load_part rules ends (load_held arc v)) → second ≡ first_broken (repeat_checks x y (load_held arc v))
  load_broken z e f second g =
      broken_later (arc_part x (arc_held arc)) loads (refl, (refl, (refl, (refl, (refl, tt))))) first found z second
      (g ∙ λ i. first_broken (load_part (e i) (f i) (load_held arc v)))

-- finishing: the checks on the two lists, and after them those on the balances and the sums
abbrev list_part : State → List Check
list_part x = 13 unless leb x.reading.list.count x.repeating.list.count ∷ 14 unless same_print x.reading.list.print x.repeating.list.print ∷ []

abbrev total_part : State → Rules → List ℤ → Sums → List Check
total_part x rules ys u =
    15 unless all_to x.reading.setting.n (λ v. rules.on_balance (setting_held x) v (u.balances v))
    ∷ 16 unless rules.on_sums (setting_held x) (at ys) (marks_held x) u
    ∷ []

-- `first` was found of the checks on the lists
module _ (x : State) (ys bs : List ℤ) (claimed : is_claimed x ≡ true) (full : eqb x.numbering.given x.reading.setting.n ≡ true) (first : ℕ) (found : first ≡ first_broken (list_part x)) where
  abbrev sums : Sums
  sums = sums_held bs x.repeating.cost x.repeating.cut

  abbrev totals : List Check
  totals = total_part x (rules_of (setting_held x) (claim_held x)) ys sums

  ready : (k : ℕ) → k ≡ first_broken (list_part x ++ totals) → k ≡ first_broken (finish_checks x (at ys) sums)
  ready k e =
      on ℕ k (first_broken (5 unless eqb x.numbering.given x.reading.setting.n ∷ (list_part x ++ totals))) 5 (is_claimed x) claimed
      (on ℕ k (first_broken (list_part x ++ totals)) 5 (eqb x.numbering.given x.reading.setting.n) full e)

  pub lists_broken : (first ≡ 0 → ⊥) → first ≡ first_broken (finish_checks x (at ys) sums)
  lists_broken h = ready first (broken_first (list_part x) totals (refl, (refl, tt)) first found h)

  -- `second` was found of those on the balances and the sums, by the row and the sums that were found
  pub totals_broken : first ≡ 0 → {rules : Rules} {k c : ℤ} → rules ≡ rules_of (setting_held x) (claim_held x) → k ≡ x.repeating.cost → c ≡ x.repeating.cut
      → (second : ℕ) → second ≡ first_broken (total_part x rules ys (sums_held bs k c)) → second ≡ first_broken (finish_checks x (at ys) sums)
  totals_broken z e f g second h =
      ready second (broken_later (list_part x) totals (refl, (refl, tt)) first found z second (h ∙ λ i. first_broken (total_part x (e i) ys (sums_held bs (f i) (g i)))))

-- ---- one arc more repeated

pub cut_read : {z w : ℤ} {u k : ℕ} {b d : Bool} → z ≡ w → u ≡ k → b ≡ d → bounded_sum z (pos (u * indicator b)) ≡ bounded_sum w (pos (k * indicator d))
cut_read e f g = λ i. bounded_sum (e i) (pos (f i * indicator (g i)))

pub repeat_done : (x : State) (l : Load) {m : Stream} {k c : ℤ} → m ≡ (repeat_more x l).list → k ≡ (repeat_more x l).cost → c ≡ (repeat_more x l).cut
    → state_of x.phase x.reading x.numbering (record { list = m; cost = k; cut = c }) ≡ with_repeat x l
repeat_done x l e f g = λ i. state_of x.phase x.reading x.numbering (record { list = e i; cost = f i; cut = g i })
