-- Self-loops: which are read, that they change no balance, no cut and no true answer, and what they may carry in a certificate.
use mathlib.Core.Path.{◌≡◌, refl, sym, ◌∙◌, ap, fun_ext, subst}
use mathlib.Core.Logic.{◌≢◌, ◌↔◌, inl, inr}
use mathlib.Core.Bool.{Bool, true, false, not, ◌&&◌}
use mathlib.Core.List.{List, [], ◌∷◌, ◌++◌, map-append}
use Prim.Native.Nat.{ℕ, ◌*◌, ◌≤◌, ◌<◌}
use native.Mathlib.Omega.{arith}
use native.Mathlib.Decide.{ℕ_discrete}
use borrow.Author.Tests.{eq-eqb, ne_eqb}
use lib.Dec.{T}
use lib.IntN.{ℤ, pos, ◌+ℤ◌}
use lib.ListN.{length}
use lib.Signed.{◌≤ℤ◌}
use Rattle.prelude.specs.Lists.{Every, Member}
use Rattle.prelude.proofs.Booleans.{false→not}
use Rattle.prelude.proofs.Integers.{signed, parts_add, parts_sub}
use Rattle.prelude.proofs.Lists.{every_map, every_image, image_every, every_insert, every_of}
use Rattle.arc_records.specs.Limits.{most_weight}
use Rattle.arc_records.specs.Arcs.{Arc, arc_of, delta}
use Rattle.network.specs.Network.{SelfLoop, without_self_loops, Load, arcs, sum_of, balance, crosses, sum_across, total}
use Rattle.network.specs.Question.{Question, shortest_path, maximum_flow, assignment, acyclicity, unasked, Setting, asks, Asked, unit_cost, units_most, TwoVertices, EndsFor, Opened, SidesFor, Joins, Allowed, Admissible, Answer, value, none, Leads, Walk, ShortestPath, TrueFor, TrueAnswer}
use Rattle.network.specs.Certificate.{marked, ends_of, Sums, sums_of, Rules, no_shortcut, stays_inside, path_rules, flow_rules, no_path_rules, rules_for, CertifiedBy, claim_for, Certified}
use Rattle.network.specs.Promises.{PathOrFlow, MayCarry}
use Rattle.network.proofs.Rules.{PathBalances, PathCertificate, path_rules_lem}
use Rattle.network.proofs.Sums.{Inside}
use Rattle.network.proofs.Paths.{walk_in}
use Rattle.network.proofs.ClosedWalks.{loop_closed}
use Rattle.network.proofs.Sound.{unit_flow, path_above}
use Rattle.network.proofs.Append.{sum_of_insert, across_insert, balance_insert}
use Rattle.network.proofs.IdleArcs.{SameButIdle, end, keep, first, loop_even, same_maximum}

-- ---- which are read

loop_sides : (q : Question) (st : Setting) (e : Arc) → Asked q → q ≢ assignment → SidesFor q st e
loop_sides shortest_path st e h other = tt
loop_sides maximum_flow st e h other = tt
loop_sides assignment st e h other = absurd (other refl)
loop_sides acyclicity st e h other = tt
loop_sides unasked st e h other = absurd h

pub loop_allowed : (st : Setting) (v w : ℕ) → Asked (asks st) → asks st ≢ assignment → v < st.n → w ≤ most_weight → Allowed st (arc_of v v w)
loop_allowed st v w q other h k =
    record { joins = record { tail_below = h; head_below = h; sides = loop_sides (asks st) st (arc_of v v w) q other }; weight_within = k }

pub loop_refused : (st : Setting) (e : Arc) → asks st ≡ assignment → Joins st e → ¬ (SelfLoop e)
loop_refused st e q j s =
    let sides : SidesFor assignment st e = rw q at j.sides in
    absurd (omega (arith, sides.from_pump, sides.to_site))

-- ---- balances and cuts

pub loop_is_loop : (st : Setting) (net : List Arc) (e : Arc) → asks st ≡ acyclicity → SelfLoop e → Member e net → TrueAnswer st net none
loop_is_loop st net e q s m = rw q (loop_closed net e s m)

pub loop_cancels : (v : ℕ) (f k : List Load) (l : Load) → SelfLoop l.arc → balance v (f ++ l ∷ k) ≡ balance v (f ++ k)
loop_cancels v f k l s =
    let put = pos (l.amount * delta l.arc.tail v) in
    let taken = pos (l.amount * delta l.arc.head v) in
    omega (
      signed,
      balance_insert v f k l,
      parts_add (balance v (f ++ k)) put,
      parts_sub (balance v (f ++ k) +ℤ put) taken,
      loop_even l.arc s l.amount v,
    )

never_both : (b : Bool) → (b && not b) ≡ false
never_both true = refl
never_both false = refl

pub loop_stays : (inside : ℕ → Bool) (e : Arc) → SelfLoop e → crosses inside e ≡ false
loop_stays inside e s = rw s (never_both (inside e.head))

-- ---- the network without them

without_loop : (e : Arc) (net : List Arc) → SelfLoop e → without_self_loops (e ∷ net) ≡ without_self_loops net
unfolding without_self_loops
without_loop e net s = rw (eq-eqb e.tail e.head s) refl

without_other : (e : Arc) (net : List Arc) → ¬ (SelfLoop e) → without_self_loops (e ∷ net) ≡ e ∷ without_self_loops net
unfolding without_self_loops
without_other e net s = rw (ne_eqb e.tail e.head s) refl

loops_idle : (net : List Arc) → SameButIdle net (without_self_loops net)
unfolding without_self_loops
loops_idle [] = end
loops_idle (e ∷ net) = go (ℕ_discrete e.tail e.head) (loops_idle net)
  where
    go : Dec (SelfLoop e) → SameButIdle net (without_self_loops net) → SameButIdle (e ∷ net) (without_self_loops (e ∷ net))
    go (yes s) p = rw (without_loop e net s) (first (λ x v h. loop_even e s x v) p)
    go (no s) p = rw (without_other e net s) (keep p)

-- what is left may be read too
without_every : (P : Arc → Type 0) (net : List Arc) → Every P net → Every P (without_self_loops net)
unfolding without_self_loops
without_every P [] h = tt
without_every P (e ∷ net) h = go (ℕ_discrete e.tail e.head) (without_every P net h.1)
  where
    go : Dec (SelfLoop e) → Every P (without_self_loops net) → Every P (without_self_loops (e ∷ net))
    go (yes s) k = rw (without_loop e net s) k
    go (no s) k = rw (without_other e net s) (h.0, k)

without_fewer : (net : List Arc) → length (without_self_loops net) ≤ length net
unfolding without_self_loops
without_fewer [] = omega arith
without_fewer (e ∷ net) = go (ℕ_discrete e.tail e.head) (without_fewer net)
  where
    go : Dec (SelfLoop e) → length (without_self_loops net) ≤ length net → length (without_self_loops (e ∷ net)) ≤ length (e ∷ net)
    go (yes s) k = rw (without_loop e net s) (omega (arith, k))
    go (no s) k = rw (without_other e net s) (omega (arith, k))

pub admissible_without : (st : Setting) (net : List Arc) → Admissible st net → Admissible st (without_self_loops net)
admissible_without st net h =
    record { opened = h.opened; allowed = without_every (Allowed st) net h.allowed; few = omega (arith, without_fewer net, h.few) }

-- ---- walks

member_kept : (a : Arc) → ¬ (SelfLoop a) → (net : List Arc) → Member a net → Member a (without_self_loops net)
unfolding without_self_loops
member_kept a s [] m = m
member_kept a s (e ∷ net) m = go (ℕ_discrete e.tail e.head) m (λ k. member_kept a s net k)
  where
    go : Dec (SelfLoop e) → Member a (e ∷ net) → (Member a net → Member a (without_self_loops net)) → Member a (without_self_loops (e ∷ net))
    go (yes l) (inl q) later = absurd (s (rw q l))
    go (yes l) (inr k) later = rw (without_loop e net l) (later k)
    go (no l) (inl q) later = rw (without_other e net l) (inl q)
    go (no l) (inr k) later = rw (without_other e net l) (inr (later k))

member_back : (a : Arc) (net : List Arc) → Member a (without_self_loops net) → Member a net
unfolding without_self_loops
member_back a [] m = m
member_back a (e ∷ net) m = go (ℕ_discrete e.tail e.head) (λ k. member_back a net k)
  where
    kept : (Member a (without_self_loops net) → Member a net) → Member a (e ∷ without_self_loops net) → Member a (e ∷ net)
    kept later (inl q) = inl q
    kept later (inr k) = inr (later k)

    go : Dec (SelfLoop e) → (Member a (without_self_loops net) → Member a net) → Member a (e ∷ net)
    go (yes l) later = inr (later (rw (without_loop e net l) at m))
    go (no l) later = kept later (rw (without_other e net l) at m)

-- a walk without its self-loops
record Shorter (net : List Arc) (u t : ℕ) (es : List Arc) : Type 0 where
  path : List Arc
  over : Every (λ e. Member e (without_self_loops net)) path
  leads : Leads u path t
  short : total path ≤ total es

shorter : (net : List Arc) (u t : ℕ) (es : List Arc) → Every (λ e. Member e net) es → Leads u es t → Shorter net u t es
unfolding total
shorter net u t [] m h = record { path = []; over = tt; leads = h; short = omega arith }
shorter net u t (e ∷ es) m h = go (ℕ_discrete e.tail e.head) (shorter net e.head t es m.1 h.1)
  where
    go : Dec (SelfLoop e) → Shorter net e.head t es → Shorter net u t (e ∷ es)
    go (yes s) r = record {
      path = r.path;
      over = r.over;
      leads = rw (sym s ∙ h.0) at r.leads;
      short = omega (arith, r.short);
    }
    go (no s) r = record {
      path = e ∷ r.path;
      over = (member_kept e s net m.0, r.over);
      leads = (h.0, r.leads);
      short = omega (arith, r.short);
    }

module _ (st : Setting) (net : List Arc) where
  walk_back : (es : List Arc) → Walk st (without_self_loops net) es → Walk st net es
  walk_back es w = record { over = every_map (λ a m. member_back a net m) es w.over; leads = w.leads }

  walk_shorter : (es : List Arc) → Walk st net es → Shorter net st.s st.t es
  walk_shorter es w = shorter net st.s st.t es w.over w.leads

  walk_of : {es : List Arc} → (r : Shorter net st.s st.t es) → Walk st (without_self_loops net) r.path
  walk_of r = record { over = r.over; leads = r.leads }

  path_without : (v : ℕ) → ShortestPath st net v → ShortestPath st (without_self_loops net) v
  path_without v h =
      let r = walk_shorter h.path h.is_walk in
      record {
        path = r.path;
        is_walk = walk_of r;
        attained = omega (arith, r.short, h.attained, h.least r.path (walk_back r.path (walk_of r)));
        least = λ es w. h.least es (walk_back es w);
      }

  path_with : (v : ℕ) → ShortestPath st (without_self_loops net) v → ShortestPath st net v
  path_with v h = record {
    path = h.path;
    is_walk = walk_back h.path h.is_walk;
    attained = h.attained;
    least = λ es w. let r = walk_shorter es w in omega (arith, r.short, h.least r.path (walk_of r));
  }

  -- ---- the true answer

  same_for : (q : Question) (a : Answer) → PathOrFlow q → TrueFor q st net a ↔ TrueFor q st (without_self_loops net) a
  same_for shortest_path (value v) h = (path_without v, path_with v)
  same_for shortest_path none h = (λ k es w. k es (walk_back es w), λ k es w. let r = walk_shorter es w in k r.path (walk_of r))
  same_for maximum_flow (value v) h = same_maximum st (loops_idle net) v
  same_for maximum_flow none h = (λ k. k, λ k. k)
  same_for assignment a h = absurd h
  same_for acyclicity a h = absurd h
  same_for unasked a h = absurd h

  pub same_without : (a : Answer) → PathOrFlow (asks st) → TrueAnswer st net a ↔ TrueAnswer st (without_self_loops net) a
  same_without a h = same_for (asks st) a h

-- ---- certificates

member_insert : (a : Arc) (f k : List Load) (l : Load) → Member a (arcs (f ++ k)) → Member a (arcs (f ++ l ∷ k))
member_insert a [] k l m = inr m
member_insert a (d ∷ f) k l (inl q) = inl q
member_insert a (d ∷ f) k l (inr m) = inr (member_insert a f k l m)

-- the arcs of the loads, one among them left out
arcs_of : (P : Arc → Type 0) (f k : List Load) (l : Load) → Every P (arcs (f ++ l ∷ k)) → Every P (arcs (f ++ k))
arcs_of P f k l h = image_every (λ d. d.arc) P (f ++ k) (every_of (λ d. P d.arc) f k l (every_image (λ d. d.arc) P (f ++ l ∷ k) h)).1

module _ (st : Setting) (y : ℕ → ℤ) (f k : List Load) (l : Load) (s : SelfLoop l.arc) where
  -- the path goes on without the self-loop, so what that carries has no length
  loop_free : (v : ℕ) → TwoVertices st → Every (Inside st.n) (arcs (f ++ l ∷ k)) → PathCertificate st y (f ++ l ∷ k) v → l.amount * l.arc.weight ≡ 0
  loop_free v ends inside c =
      let kept : PathBalances st (f ++ k) = λ u h. sym (loop_cancels u f k l s) ∙ c.balances u h in
      let w = walk_in (sum_of (λ e. 1) (f ++ k)) st.n st.s st.t (f ++ k) ends.source_below (arcs_of (Inside st.n) f k l inside) refl (unit_flow st (f ++ k) ends kept) in
      let walk : Walk st (arcs (f ++ l ∷ k)) w.path = record { over = every_map (λ a m. member_insert a f k l m) w.path w.over; leads = w.leads } in
      omega (signed, w.short, path_above st y (f ++ l ∷ k) v ends inside c w.path walk, sum_of_insert (λ e. e.weight) f k l, c.sums, c.answer)

  same_cut : (g : Arc → ℕ) (m : ℕ → Bool) → sum_across g m (arcs (f ++ l ∷ k)) ≡ sum_across g m (arcs (f ++ k))
  same_cut g m =
      rw (map-append (λ d. d.arc) f (l ∷ k), map-append (λ d. d.arc) f k)
      (omega (arith, rw (loop_stays m l.arc s) at (across_insert g m (arcs f) (arcs k) l.arc)))

  -- where the self-loop carries nothing that costs, no sum knows of it
  module _ (q : Question) (free : l.amount * unit_cost q l.arc ≡ 0) where
    same_cost : sum_of (unit_cost q) (f ++ l ∷ k) ≡ sum_of (unit_cost q) (f ++ k)
    same_cost = omega (arith, free, sum_of_insert (unit_cost q) f k l)

    same_sums : sums_of q (marked y) (f ++ l ∷ k) ≡ sums_of q (marked y) (f ++ k)
    same_sums = λ i. record {
      balances = fun_ext (λ v. loop_cancels v f k l s) i;
      cost = ap pos same_cost i;
      cut = ap pos (same_cut (units_most q) (marked y)) i;
    }

    took : (rules : Rules) (a : Answer) → CertifiedBy rules q st y (f ++ l ∷ k) a → CertifiedBy rules q st y (f ++ k) a
    took rules a c = record {
      admitted = c.admitted;
      nodes = c.nodes;
      amounts = (every_of (λ d. d.amount ≤ rules.most d.arc) f k l c.amounts).1;
      on_arcs = (every_of (λ d. T (rules.on_arc (ends_of y (marked y) d.arc) d)) f k l c.on_arcs).1;
      balances = λ v h. subst (λ (b : ℤ). T (rules.on_balance st v b)) (loop_cancels v f k l s) (c.balances v h);
      sums = subst (λ (u : Sums). T (rules.on_sums st y (marked y) u)) same_sums c.sums;
      answer = c.answer ∙ ap rules.answer same_sums;
    }

    put : (rules : Rules) (a : Answer) → l.amount ≤ rules.most l.arc → T (rules.on_arc (ends_of y (marked y) l.arc) l)
        → CertifiedBy rules q st y (f ++ k) a → CertifiedBy rules q st y (f ++ l ∷ k) a
    put rules a m r c = record {
      admitted = c.admitted;
      nodes = c.nodes;
      amounts = every_insert (λ d. d.amount ≤ rules.most d.arc) f k l m c.amounts;
      on_arcs = every_insert (λ d. T (rules.on_arc (ends_of y (marked y) d.arc) d)) f k l r c.on_arcs;
      balances = λ v h. subst (λ (b : ℤ). T (rules.on_balance st v b)) (sym (loop_cancels v f k l s)) (c.balances v h);
      sums = subst (λ (u : Sums). T (rules.on_sums st y (marked y) u)) (sym same_sums) c.sums;
      answer = c.answer ∙ ap rules.answer (sym same_sums);
    }

  -- the rule on an arc holds of it, for potentials and for marks
  no_shortcut_lem : T (no_shortcut (ends_of y (marked y) l.arc) l)
  no_shortcut_lem =
      let fact : y l.arc.head ≤ℤ (y l.arc.tail +ℤ pos l.arc.weight) = rw s (omega (signed, parts_add (y l.arc.head) (pos l.arc.weight))) in
      fact.le

  stays : T (stays_inside (ends_of y (marked y) l.arc) l)
  stays = false→not (crosses (marked y) l.arc) (loop_stays (marked y) l.arc s)

  none_carried : l.amount ≡ 0 → l.amount * l.arc.weight ≡ 0
  none_carried z = rw z (omega arith)

  took_for : (q : Question) (a : Answer) → PathOrFlow q → EndsFor q st → Every (Inside st.n) (arcs (f ++ l ∷ k))
      → CertifiedBy (rules_for q (claim_for a)) q st y (f ++ l ∷ k) a → CertifiedBy (rules_for q (claim_for a)) q st y (f ++ k) a × MayCarry q a l
  took_for shortest_path (value v) h ends inside c =
      let free = loop_free v ends inside (path_rules_lem st y (f ++ l ∷ k) v ends c) in
      (took shortest_path free path_rules (value v) c, ((every_of (λ d. d.amount ≤ 1) f k l c.amounts).0, free))
  took_for shortest_path none h ends inside c =
      let most : l.amount ≤ 0 = (every_of (λ d. d.amount ≤ 0) f k l c.amounts).0 in
      let zero : l.amount ≡ 0 = omega arith in
      (took shortest_path (none_carried zero) no_path_rules none c, zero)
  took_for maximum_flow (value v) h ends inside c =
      (took maximum_flow (omega arith) flow_rules (value v) c, (every_of (λ d. d.amount ≤ d.arc.weight) f k l c.amounts).0)
  took_for maximum_flow none h ends inside c = absurd c.admitted
  took_for assignment a h ends inside c = absurd h
  took_for acyclicity a h ends inside c = absurd h
  took_for unasked a h ends inside c = absurd h

  put_for : (q : Question) (a : Answer) → CertifiedBy (rules_for q (claim_for a)) q st y (f ++ k) a → MayCarry q a l
      → CertifiedBy (rules_for q (claim_for a)) q st y (f ++ l ∷ k) a
  put_for shortest_path (value v) c m = put shortest_path m.1 path_rules (value v) m.0 no_shortcut_lem c
  put_for shortest_path none c m = put shortest_path (none_carried m) no_path_rules none (omega arith) stays c
  put_for maximum_flow (value v) c m = put maximum_flow (omega arith) flow_rules (value v) m tt c
  put_for maximum_flow none c m = absurd m
  put_for assignment a c m = absurd m
  put_for acyclicity a c m = absurd m
  put_for unasked a c m = absurd m

  pub loop_certified : (a : Answer) → PathOrFlow (asks st) → Opened st → Every (Allowed st) (arcs (f ++ l ∷ k))
      → Certified st y (f ++ l ∷ k) a ↔ (Certified st y (f ++ k) a × MayCarry (asks st) a l)
  loop_certified a q o allowed =
      let inside : Every (Inside st.n) (arcs (f ++ l ∷ k)) = every_map (λ e (h : Allowed st e). (h.joins.tail_below, h.joins.head_below)) (arcs (f ++ l ∷ k)) allowed in
      (λ c. took_for (asks st) a q o.ends inside c, λ c. put_for (asks st) a c.0 c.1)
