-- Shortest path: what a search from the source found, and what a push to the sink moved, are certificates, and the keys hold the least length to every vertex.
use mathlib.Core.Path.{◌≡◌, refl, sym, ◌∙◌, ap, subst}
use mathlib.Core.Bool.{false}
use mathlib.Core.Logic.{◌≢◌, ◌⊎◌, inl, inr, ⊎_elim}
use mathlib.Core.List.{List, [], ◌∷◌, ◌++◌}
use Prim.Native.Nat.{ℕ, zero, suc, ◌+◌, ◌-◌, ◌*◌, ◌/◌, ◌%◌, ◌<◌, ◌≤◌}
use native.Mathlib.Omega.{arith}
use native.Mathlib.Decide.{ℕ_discrete}
use borrow.Author.Tests.{eq-eqb, ne_eqb}
use lib.ListN.{length}
use lib.IntN.{pos}
use Rattle.prelude.specs.Lists.{Every, Member}
use Rattle.prelude.proofs.Integers.{signed}
use Rattle.prelude.proofs.Lists.{every_snoc}
use Rattle.arc_records.specs.Arcs.{Arc}
use Rattle.network.specs.Network.{Load, leaving, entering, balance, total, crosses, loads_of}
use Rattle.network.specs.Question.{Setting, Leads, ShortestPath, NoWalk}
use Rattle.arc_records.specs.Limits.{most_potential}
use Rattle.network.specs.Certificate.{marked, path_balance}
use Rattle.network.proofs.Rules.{PathCertificate, NoPathCertificate, PathBalances, ZeroOrOne, NoAmount, Closed, Feasible}
use Rattle.network.proofs.Sums.{Inside, Compared, compared, delta_same}
use Rattle.network.proofs.Paths.{walk_above, no_walk}
use Rattle.network.proofs.Sound.{balance_parts}
use Rattle.packed_arcs.specs.Entries.{entry}
use Rattle.flow_residual.specs.Residual.{unreached, residual, key_beyond, ParentArc}
use Rattle.flow_residual.specs.Push.{Moved}
use Rattle.flow_residual.specs.Phase.{SearchResult, PhaseState}
use Rattle.cert_instances.specs.Instance.{Fits, tails, heads, weights, constant, VertexList, single, distance_of, potential_of, mark_of, toward}
use Rattle.packed_arcs.proofs.LentParts.{zero_at}
use Rattle.flow_residual.proofs.PhaseLaws.{opened}
use Rattle.flow_residual.proofs.LastSearch.{few_arcs, near_enough, leads_on, from_left}
use Rattle.cert_instances.proofs.ColumnsAndLoads.{constant_at, when_delta, index_every, since_none, index, loads_arcs, column_arc, every_arc, every_load, column_len, paid_cost, fallen, Carried, carried_by, as_much, Seen, seen, unseen, sight, marks_fit, no_cross}

-- ---- walks

member_at : (es : List Arc) (e : ℕ) → e < length es → Member (column_arc es e) es
member_at [] e h = absurd (omega arith)
member_at (a ∷ es) zero h = inl refl
member_at (a ∷ es) (suc e) h = inr (member_at es e (omega arith))

leads_snoc : (u : ℕ) (p : List Arc) (e : Arc) → Leads u p e.tail → Leads u (p ++ e ∷ []) e.head
leads_snoc u [] e h = (sym h, refl)
leads_snoc u (a ∷ p) e h = (h.0, leads_snoc a.head p e h.1)

total_snoc : (p : List Arc) (e : Arc) → total (p ++ e ∷ []) ≡ total p + e.weight
unfolding total
total_snoc [] e = omega arith
total_snoc (a ∷ p) e = omega (arith, total_snoc p e)

-- a walk from s to v of the length d
record Reached (es : List Arc) (s v d : ℕ) : Type 0 where
  path : List Arc
  over : Every (λ e. Member e es) path
  leads : Leads s path v
  length_is : total path ≡ d

-- none, from a vertex to itself
stay : (es : List Arc) (s v d : ℕ) → s ≡ v → d ≡ 0 → Reached es s v d
unfolding total
stay es s v d e z = record { path = []; over = tt; leads = e; length_is = sym z }

-- by one arc further
go_on : (es : List Arc) (s d : ℕ) (e : Arc) → Member e es → Reached es s e.tail d → Reached es s e.head (d + e.weight)
go_on es s d e m w = record {
  path = w.path ++ e ∷ [];
  over = every_snoc (λ a. Member a es) w.path e w.over m;
  leads = leads_snoc s w.path e w.leads;
  length_is = omega (arith, total_snoc w.path e, w.length_is);
}

module _ (st : Setting) (es : List Arc) (fits : Fits st.n es) (hs : st.s < st.n) {pi left need key par : List ℕ}
    (none : VertexList st.n (λ v. 0) pi) (supply : VertexList st.n (single st.s 1) left)
    (state : PhaseState (tails es) (heads es) (weights es) (constant es 1) (constant es 0) pi left need)
    (F : SearchResult (residual (tails es) (heads es) (weights es) (constant es 1) (constant es 0) pi) left key par) where
  vertex : (v : ℕ) → v < st.n → v < length key
  vertex v h = omega (arith, F.key_len, supply.len)

  room : (e : ℕ) → e < length es → entry (constant es 0) e < entry (constant es 1) e
  room e h = omega (arith, zero_at (length es) e, constant_at es 1 e h)

  -- the ends of an arc have no potentials
  flat : (e : ℕ) → e < length es → (entry pi (entry (tails es) e) ≡ 0) × (entry pi (entry (heads es) e) ≡ 0)
  flat e h = let i = every_arc (Inside st.n) es fits.inside e h in (none.entries (entry (tails es) e) i.0, none.entries (entry (heads es) e) i.1)

  -- the key at the tail of an arc, where that is reached
  counted : (e : ℕ) → e < length es → entry key (entry (tails es) e) < unreached → entry key (entry (tails es) e) % 256 ≤ 254
  counted e h r = few_arcs state F (entry (tails es) e) (vertex (entry (tails es) e) (every_arc (Inside st.n) es fits.inside e h).0) r

  -- an arc from a reached vertex leads on to a reached one
  arc_on : (e : ℕ) → e < length es → entry key (entry (tails es) e) < unreached → entry key (entry (heads es) e) < unreached
  arc_on e h = leads_on state F e (index es e h) (room e h)

  in_reach : (v : ℕ) → v < st.n → distance_of key v ≤ most_potential
  in_reach v h = ⊎_elim (λ r. omega (arith, r.distance, near_enough state F v (vertex v h) r.below)) (λ r. omega (arith, r.distance)) (sight key v)

  -- and its head is no further than its tail and its weight
  arc_feasible : (e : ℕ) → e < length es → distance_of key (entry (heads es) e) ≤ distance_of key (entry (tails es) e) + entry (weights es) e
  arc_feasible e h = ⊎_elim
      (λ r. omega (arith, r.distance, (seen key (entry (heads es) e) (arc_on e h r.below)).distance, (F.relaxed e (index es e h)).forward (room e h) r.below, flat e h, counted e h r.below))
      (λ r. omega (arith, r.distance, in_reach (entry (heads es) e) (every_arc (Inside st.n) es fits.inside e h).1))
      (sight key (entry (tails es) e))

  -- the arc by which a vertex was reached is as long as the difference
  arc_by : (e : ℕ) → e < length es → entry key (entry (tails es) e) < unreached → entry key (entry (heads es) e) < unreached
      → key_beyond (entry key (entry (tails es) e)) (entry (weights es) e + entry pi (entry (tails es) e) - entry pi (entry (heads es) e)) ≤ entry key (entry (heads es) e)
      → entry key (entry (heads es) e) / 256 ≡ entry key (entry (tails es) e) / 256 + entry (weights es) e
  arc_by e h r q o = omega (arith, (F.relaxed e (index es e h)).forward (room e h) r, flat e h, counted e h r)

  -- the source is reached
  source_zero : entry key st.s ≡ 0
  source_zero = from_left state F st.s (omega (arith, supply.entries st.s hs, delta_same st.s st.s refl))

  source_seen : Seen key st.s
  source_seen = seen key st.s (omega (arith, source_zero))

  pub no_path_certificate : unreached ≤ entry key st.t → NoPathCertificate st (mark_of key) (loads_of es (constant es 0))
  no_path_certificate far = record {
    marks = marks_fit st key;
    source = source_seen.mark;
    sink = (unseen key st.t far).mark;
    amounts = every_load NoAmount es (constant es 0) (λ e h. zero_at (length es) e);
    closed = every_load (Closed (mark_of key)) es (constant es 0) (λ e h. no_cross key (column_arc es e) (arc_on e h));
  }

  -- a push of 1 moves 1
  pub moved_one : {x' left' : List ℕ} {v g : ℕ} → Moved (tails es) (heads es) (constant es 1) par key (constant es 0) left x' left' v 1 g → g ≡ 1
  moved_one M = omega (arith, M.most, M.some (opened state F) (omega arith))

  module _ (ht : st.t < st.n) (apart : st.s ≢ st.t) (near : entry key st.t < unreached) {x' left' : List ℕ}
      (M : Moved (tails es) (heads es) (constant es 1) par key (constant es 0) left x' left' st.t 1 1) where
    abbrev f : List Load
    f = loads_of es x'

    carried : Carried st.n st.s st.t 1 (entry left' st.s) 0 f
    carried = record {
      source_below = hs;
      sink_below = ht;
      apart = apart;
      inside = rw (loads_arcs es x') fits.inside;
      each = λ v h. since_none es x' v _ _ (omega (arith, M.balance v, when_delta st.t v 1, supply.entries v h, fallen st.n 1 st.s left left' supply M.less v h));
    }

    arc_tight : (e : ℕ) → e < length es → 0 < entry x' e → distance_of key (entry (heads es) e) ≡ distance_of key (entry (tails es) e) + entry (weights es) e
    arc_tight e h p = ⊎_elim (λ q. absurd (omega (arith, zero_at (length es) e))) (λ u. go (entry par u.by) u.by u.reached (F.tree u.by u.by_ok u.reached u.not_root) u.code) (M.only e)
      where
        go : (code v : ℕ) → entry key v < unreached → ParentArc (residual (tails es) (heads es) (weights es) (constant es 1) (constant es 0) pi) key code v → ((code ≡ e) ⊎ (code ≡ 4096 + e))
            → distance_of key (entry (heads es) e) ≡ distance_of key (entry (tails es) e) + entry (weights es) e
        go code v k (ParentArc.forward i j t r o) (inl c) =
            subst (λ (z : ℕ). distance_of key (entry (heads es) z) ≡ distance_of key (entry (tails es) z) + entry (weights es) z) c
            (let hc : code < length es = omega (arith, column_len (λ e. e.tail) es) in
            let kc : entry key (entry (heads es) code) < unreached = omega (arith, ap (entry key) t) in
            omega (arith, (seen key (entry (tails es) code) r).distance, (seen key (entry (heads es) code) kc).distance, arc_by code hc r kc (omega (arith, ap (entry key) t))))
        go code v k (ParentArc.forward i j t r o) (inr c) = absurd (omega (arith, fits.few, column_len (λ e. e.tail) es))
        go code v k (ParentArc.backward e' ec i j t r o) c = absurd (omega (arith, zero_at (length es) e'))

    balanced : PathBalances st f
    balanced v h = go (compared st.s v) (compared st.t v)
      where
        go : Compared st.s v → Compared st.t v → balance v f ≡ path_balance st v
        go (inl (p, i)) (inl (q, j)) = absurd (apart (p ∙ sym q))
        go (inl (p, i)) (inr (q, j)) = rw (eq-eqb v st.s (sym p)) (omega (signed, balance_parts (leaving v f) (entering v f), rw (i, j) at (carried.each v h), as_much carried))
        go (inr (p, i)) (inl (q, j)) = rw (ne_eqb v st.s (λ e. p (sym e)), eq-eqb v st.t (sym q)) (omega (signed, balance_parts (leaving v f) (entering v f), rw (i, j) at (carried.each v h), as_much carried))
        go (inr (p, i)) (inr (q, j)) = rw (ne_eqb v st.s (λ e. p (sym e)), ne_eqb v st.t (λ e. q (sym e))) (omega (signed, balance_parts (leaving v f) (entering v f), rw (i, j) at (carried.each v h), as_much carried))

    pub path_certificate : PathCertificate st (potential_of key) f (entry key st.t / 256)
    path_certificate = record {
      potentials = λ v h. record { above = omega signed; below = omega (signed, in_reach v h) };
      source = ap pos (omega (arith, source_seen.distance, source_zero));
      amounts = every_load ZeroOrOne es x' (λ e h. omega (arith, M.within e (index es e h), constant_at es 1 e h));
      feasible = every_load (Feasible (potential_of key)) es x' (λ e h. omega (signed, arc_feasible e h));
      balances = balanced;
      sums = ap pos (omega (
        arith,
        paid_cost (distance_of key) f (every_load _ es x' arc_tight),
        carried_by carried (distance_of key),
        ap (λ (z : ℕ). distance_of key st.s * z) (as_much carried),
        source_seen.distance,
        source_zero,
      ));
      answer = ap pos (seen key st.t near).distance;
    }

  -- ---- to every vertex

  -- by its key, below k
  reach : (k v : ℕ) → v < st.n → entry key v < unreached → entry key v < k → Reached es st.s v (entry key v / 256)
  reach zero v h r b = absurd (omega arith)
  reach (suc k) v h r b = step (ℕ_discrete (entry key v) 0) (reach k)
    where
      step : Dec (entry key v ≡ 0) → ((u : ℕ) → u < st.n → entry key u < unreached → entry key u < k → Reached es st.s u (entry key u / 256)) → Reached es st.s v (entry key v / 256)
      step (yes z) ih = root (compared st.s v)
        where
          root : Compared st.s v → Reached es st.s v (entry key v / 256)
          root (inl (e, i)) = stay es st.s v (entry key v / 256) e (omega arith)
          root (inr (e, i)) = absurd (omega (arith, F.roots v (vertex v h) z, supply.entries v h))
      step (no z) ih = go (entry par v) (F.tree v (vertex v h) r (omega arith))
        where
          go : (code : ℕ) → ParentArc (residual (tails es) (heads es) (weights es) (constant es 1) (constant es 0) pi) key code v → Reached es st.s v (entry key v / 256)
          go code (ParentArc.forward i j t q o) =
              let hc : code < length es = omega (arith, column_len (λ e. e.tail) es) in
              let kc : entry key (entry (heads es) code) < unreached = omega (arith, ap (entry key) t) in
              subst (λ (z : ℕ). Reached es st.s z (entry key z / 256)) t
              (subst (Reached es st.s (entry (heads es) code)) (sym (arc_by code hc q kc (omega (arith, ap (entry key) t))))
              (go_on es st.s (entry key (entry (tails es) code) / 256) (column_arc es code) (member_at es code hc)
              (ih (entry (tails es) code) (every_arc (Inside st.n) es fits.inside code hc).0 q (omega arith))))
          go code (ParentArc.backward e' ec i j t q o) = absurd (omega (arith, zero_at (length es) e'))

  pub least_lengths : (v : ℕ) → v < st.n → entry key v < unreached → ShortestPath (toward st v) es (entry key v / 256)
  least_lengths v h near =
      let w : Reached es st.s v (entry key v / 256) = reach (suc (entry key v)) v h near (omega arith) in
      record {
        path = w.path;
        is_walk = record { over = w.over; leads = w.leads };
        attained = w.length_is;
        least = λ ws u. omega (
          arith,
          walk_above (distance_of key) es (index_every (λ e. distance_of key e.head ≤ distance_of key e.tail + e.weight) es arc_feasible) ws st.s v u.over u.leads,
          (seen key v near).distance,
          source_seen.distance,
          source_zero,
        );
      }

  pub no_walks : (v : ℕ) → unreached ≤ entry key v → NoWalk (toward st v) es
  no_walks v far = no_walk (toward st v) (marked (mark_of key)) es source_seen.inside (unseen key v far).inside
      (index_every (λ e. crosses (marked (mark_of key)) e ≡ false) es (λ e h. no_cross key (column_arc es e) (arc_on e h)))
