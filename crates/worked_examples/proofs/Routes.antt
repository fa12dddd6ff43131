-- The node numbers of R1, R4 and T1 are those of a helper's annotation: least lengths, and marks where a walk leads.
use mathlib.Core.Path.{◌≡◌, refl, sym, ◌∙◌, ap, subst}
use mathlib.Core.Logic.{inl, inr}
use mathlib.Core.Bool.{false}
use mathlib.Core.List.{List, [], ◌∷◌}
use Prim.Native.Nat.{ℕ, zero, suc, ◌+◌, ◌≤◌, ◌<◌}
use native.Mathlib.Omega.{arith}
use lib.Dec.{lit≤}
use lib.IntN.{ℤ, pos}
use lib.ListN.{length}
use lib.Seq.{ext_get_or}
use Rattle.prelude.specs.Integers.{natural}
use Rattle.prelude.specs.Lists.{Every, Member, at}
use Rattle.arc_records.specs.Arcs.{Arc, arc_of}
use Rattle.network.specs.Network.{total}
use Rattle.network.specs.Question.{Question, shortest_path, maximum_flow, assignment, acyclicity, unasked, Setting, asks, Walk, ShortestPath, value, none, TrueFor}
use Rattle.network.specs.Certificate.{Claim, of_value, of_none, marked}
use Rattle.network.proofs.Paths.{walk_above, no_walk}
use Rattle.network.proofs.Promises.{one_answer}
use Rattle.cert_instances.specs.Instance.{toward}
use Rattle.cert_instances.specs.Certify.{told_by, Told, LengthsFor}
use Rattle.worked_examples.specs.Table.{Plan, SameNumbers, R1, R4, T1}

-- ---- the numbers of a route are determined

pub numbers_alike : (q : Question) (st : Setting) (net : List Arc) (c : Claim) (ys zs : List ℤ) → length ys ≡ st.n → length zs ≡ st.n
    → LengthsFor q st net c (at ys) → LengthsFor q st net c (at zs) → SameNumbers q ys zs
numbers_alike shortest_path st net c ys zs ny nz hy hz = ext_get_or (pos 0) ys zs (ny ∙ sym nz) (λ v l. go v (hy v (omega arith)) (hz v (omega arith)))
  where
    go : (v : ℕ) → Told st net c (at ys) v → Told st net c (at zs) v → at ys v ≡ at zs v
    go v a b = a.told ∙ ap (told_by c) (one_answer (toward st v) net a.answer b.answer a.is_true b.is_true) ∙ sym b.told
numbers_alike maximum_flow st net c ys zs ny nz hy hz = tt
numbers_alike assignment st net c ys zs ny nz hy hz = tt
numbers_alike acyclicity st net c ys zs ny nz hy hz = tt
numbers_alike unasked st net c ys zs ny nz hy hz = tt

-- ---- the rows

below_four : (P : ℕ → Type 0) → P 0 → P 1 → P 2 → P 3 → (v : ℕ) → v < 4 → P v
below_four P a b c d zero h = a
below_four P a b c d (suc zero) h = b
below_four P a b c d (suc (suc zero)) h = c
below_four P a b c d (suc (suc (suc zero))) h = d
below_four P a b c d (suc (suc (suc (suc v)))) h = absurd (omega arith)

-- y obeys the rule on every arc, so a walk that is as long as y says is shortest
shortest :
    (st : Setting) (net : List Arc) (y : ℕ → ℕ) → Every (λ e. y e.head ≤ y e.tail + e.weight) net → y st.s ≡ 0
    → (es : List Arc) → Walk st net es → total es ≡ y st.t → ShortestPath st net (y st.t)
shortest st net y rule start es w long = record {
  path = es;
  is_walk = w;
  attained = long;
  least = λ fs v. omega (arith, start, walk_above y net rule fs st.s st.t v.over v.leads);
}

-- the least length to v, by the node numbers of a route
abbrev length_to : Plan → ℕ → ℕ
length_to w v = natural (at w.numbers v)

route_told :
    (w : Plan) → shortest_path ≡ asks w.setting → Every (λ e. length_to w e.head ≤ length_to w e.tail + e.weight) w.net → length_to w w.setting.s ≡ 0
    → (v : ℕ) (es : List Arc) → Walk (toward w.setting v) w.net es → total es ≡ length_to w v → at w.numbers v ≡ pos (length_to w v)
    → Told w.setting w.net of_value (at w.numbers) v
route_told w route rule start v es walk long e = record {
  answer = value (length_to w v);
  is_true = subst (λ (q : Question). TrueFor q (toward w.setting v) w.net (value (length_to w v))) route (shortest (toward w.setting v) w.net (length_to w) rule start es walk long);
  told = e;
}

r1_told :
    (v : ℕ) (es : List Arc) → Walk (toward R1.setting v) R1.net es → total es ≡ length_to R1 v → at R1.numbers v ≡ pos (length_to R1 v)
    → Told R1.setting R1.net of_value (at R1.numbers) v
r1_told = route_told R1 refl (lit≤ tt, (lit≤ tt, (lit≤ tt, (lit≤ tt, (lit≤ tt, tt))))) refl

pub r1_lengths : (v : ℕ) → v < 4 → Told R1.setting R1.net of_value (at R1.numbers) v
unfolding total
r1_lengths =
    below_four (Told R1.setting R1.net of_value (at R1.numbers))
    (r1_told 0 [] (record { over = tt; leads = refl }) refl refl)
    (r1_told 1 (arc_of 0 1 2 ∷ []) (record { over = (inl refl, tt); leads = (refl, refl) }) refl refl)
    (r1_told 2 (arc_of 0 1 2 ∷ arc_of 1 2 1 ∷ []) (record { over = (inl refl, (fifth, tt)); leads = (refl, (refl, refl)) }) refl refl)
    (r1_told 3 (arc_of 0 1 2 ∷ arc_of 1 2 1 ∷ arc_of 2 3 2 ∷ [])
    (record { over = (inl refl, (fifth, (inr (inr (inr (inl refl))), tt))); leads = (refl, (refl, (refl, refl))) }) refl refl)
  where
    fifth : Member (arc_of 1 2 1) R1.net
    fifth = inr (inr (inr (inr (inl refl))))

pub r4_lengths : (v : ℕ) → v < 4 → Told R4.setting R4.net of_none (at R4.numbers) v
unfolding total
r4_lengths =
    below_four (Told R4.setting R4.net of_none (at R4.numbers))
    (record {
      answer = value 0;
      is_true = record { path = []; is_walk = record { over = tt; leads = refl }; attained = refl; least = λ es w. omega arith };
      told = refl;
    })
    (unreached 1 refl refl)
    (unreached 2 refl refl)
    (unreached 3 refl refl)
  where
    unreached : (v : ℕ) → marked (at R4.numbers) v ≡ false → at R4.numbers v ≡ pos 0 → Told R4.setting R4.net of_none (at R4.numbers) v
    unreached v m e = record { answer = none; is_true = no_walk (toward R4.setting v) (marked (at R4.numbers)) [] refl m tt; told = e }

pub t1_lengths : (v : ℕ) → v < 2 → Told T1.plan.setting T1.plan.net of_value (at T1.plan.numbers) v
unfolding total
t1_lengths zero h = route_told T1.plan refl (lit≤ tt, (lit≤ tt, tt)) refl 0 [] (record { over = tt; leads = refl }) refl refl
t1_lengths (suc zero) h = route_told T1.plan refl (lit≤ tt, (lit≤ tt, tt)) refl 1 (arc_of 0 1 2 ∷ []) (record { over = (inl refl, tt); leads = (refl, refl) }) refl refl
t1_lengths (suc (suc v)) h = absurd (omega arith)
