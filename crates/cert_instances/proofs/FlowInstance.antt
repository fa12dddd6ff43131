-- Maximum flow: what a flow search gives back, asked with a supply at the source and a demand at the sink above all capacities, is a certificate.
use mathlib.Core.Path.{◌≡◌, refl, ap}
use mathlib.Core.Bool.{Bool, not, ◌&&◌}
use mathlib.Core.Logic.{◌⊎◌, inl, inr}
use mathlib.Core.List.{List, [], ◌∷◌}
use Prim.Native.Nat.{ℕ, ◌+◌, ◌-◌, ◌*◌, ◌<◌, ◌≤◌}
use native.Mathlib.Omega.{arith}
use lib.ListN.{length}
use Rattle.prelude.specs.Choice.{indicator}
use Rattle.prelude.specs.Lists.{Every}
use Rattle.prelude.proofs.Integers.{signed}
use Rattle.arc_records.specs.Arcs.{Arc}
use Rattle.network.specs.Network.{Load, arcs, sum_of, leaving, entering, total, crosses, cut, loads_of, sum_across}
use Rattle.network.specs.Question.{Setting, TwoVertices, WeightWithin}
use Rattle.arc_records.specs.Limits.{most_weight}
use Rattle.network.specs.Certificate.{marked}
use Rattle.network.proofs.Rules.{WithinCapacity, FlowCertificate}
use Rattle.network.proofs.Sound.{balance_parts}
use Rattle.packed_arcs.specs.Entries.{entry}
use Rattle.flow_residual.specs.Phase.{Solved}
use Rattle.cert_instances.specs.Instance.{Fits, tails, heads, weights, constant, VertexList, single, plenty, Falls, mark_of}
use Rattle.flow_residual.proofs.LastSearch.{in_list, leads_on, leads_back, from_left}
use Rattle.cert_instances.proofs.ColumnsAndLoads.{since_none, index, loads_arcs, column_arc, every_load, leaving_most, fallen, Carried, carried_by, as_much, at_source, elsewhere, Seen, Unseen, seen, unseen, sight, marks_fit}

-- no network that is read can carry plenty
total_below : (es : List Arc) → Every WeightWithin es → total es ≤ most_weight * length es
unfolding total
total_below [] h = omega arith
total_below (e ∷ es) h = omega (arith, h.0, total_below es h.1)

pub total_most : (n : ℕ) (es : List Arc) → Fits n es → total es < plenty
total_most n es lim = omega (arith, total_below es lim.light, lim.few)

-- where arcs that leave the set are full and arcs that enter it are empty, what flows out of it is the cut
cut_full : (m : ℕ → Bool) (f : List Load)
    → Every (λ l. l.amount * indicator (m l.arc.tail) ≡ l.amount * indicator (m l.arc.head) + l.arc.weight * indicator (crosses m l.arc)) f
    → sum_of (λ e. indicator (m e.tail)) f ≡ sum_of (λ e. indicator (m e.head)) f + cut m (arcs f)
unfolding sum_of sum_across
cut_full m [] h = refl
cut_full m (l ∷ f) h = omega (arith, h.0, cut_full m f h.1)

weigh : (x w : ℕ) {p q a b : Bool} → p ≡ a → q ≡ b → x * indicator a ≡ x * indicator b + w * indicator (a && not b)
    → x * indicator p ≡ x * indicator q + w * indicator (p && not q)
weigh x w i j h = rw (i, j) h

module _ (st : Setting) (es : List Arc) (S : ℕ) (ends : TwoVertices st) (fits : Fits st.n es) (enough : total es < S)
    {pi left need x' pi' left' need' key' par' : List ℕ}
    (supply : VertexList st.n (single st.s S) left) (demand : VertexList st.n (single st.t S) need)
    (less : Falls left left') (fewer : Falls need need')
    (r : Solved (tails es) (heads es) (constant es 0) (weights es) (constant es 0) pi left need x' pi' left' need' key' par') where
  abbrev f : List Load
  f = loads_of es x'

  abbrev m : ℕ → Bool
  m = marked (mark_of key')

  within : Every WithinCapacity f
  within = every_load WithinCapacity es x' (λ e h. r.state.within e (index es e h))

  carried : Carried st.n st.s st.t S (entry left' st.s) (entry need' st.t) f
  carried = record {
    source_below = ends.source_below;
    sink_below = ends.sink_below;
    apart = ends.apart;
    inside = rw (loads_arcs es x') fits.inside;
    each = λ v h. since_none es x' v _ _ (omega (
      arith,
      r.balance v,
      supply.entries v h,
      demand.entries v h,
      fallen st.n S st.s left left' supply less v h,
      fallen st.n S st.t need need' demand fewer v h,
    ));
  }

  -- the supply is never used up
  some : 0 < entry left' st.s
  some = omega (arith, at_source carried, rw (loads_arcs es x') at (leaving_most st.s f within))

  source_seen : Seen key' st.s
  source_seen = seen key' st.s (omega (arith, from_left r.state r.found st.s some))

  sink_unseen : Unseen key' st.t
  sink_unseen = unseen key' st.t (r.none st.t (omega (arith, in_list need' st.t (omega (arith, as_much carried, some)), r.state.need_len, r.found.key_len)) (omega (arith, as_much carried, some)))

  full : Every (λ l. l.amount * indicator (m l.arc.tail) ≡ l.amount * indicator (m l.arc.head) + l.arc.weight * indicator (crosses m l.arc)) f
  full = every_load _ es x' (λ e h. go e (index es e h) (sight key' (entry (tails es) e)) (sight key' (entry (heads es) e)))
    where
      go : (e : ℕ) → e < length (tails es) → Seen key' (entry (tails es) e) ⊎ Unseen key' (entry (tails es) e) → Seen key' (entry (heads es) e) ⊎ Unseen key' (entry (heads es) e)
          → entry x' e * indicator (m (entry (tails es) e)) ≡ entry x' e * indicator (m (entry (heads es) e)) + entry (weights es) e * indicator (crosses m (column_arc es e))
      go e h (inl a) (inl b) = weigh (entry x' e) (entry (weights es) e) a.inside b.inside (omega arith)
      go e h (inl a) (inr b) =
          let no_room : entry x' e < entry (weights es) e → ⊥ = λ q. omega (arith, leads_on r.state r.found e h q a.below, b.above) in
          weigh (entry x' e) (entry (weights es) e) a.inside b.inside (omega (arith, r.state.within e h))
      go e h (inr a) (inl b) =
          let nothing : 0 < entry x' e → ⊥ = λ q. omega (arith, leads_back r.state r.found e h q b.below, a.above) in
          weigh (entry x' e) (entry (weights es) e) a.inside b.inside (omega arith)
      go e h (inr a) (inr b) = weigh (entry x' e) (entry (weights es) e) a.inside b.inside (omega arith)

  flow_is_cut : leaving st.s f ≡ entering st.s f + cut m (arcs f)
  flow_is_cut =
      omega (
        arith,
        at_source carried,
        cut_full m f full,
        carried_by carried (λ v. indicator (m v)),
        ap (λ (b : Bool). indicator b * entry left' st.s) source_seen.inside,
        ap (λ (b : Bool). indicator b * S) source_seen.inside,
        ap (λ (b : Bool). indicator b * entry need' st.t) sink_unseen.inside,
        ap (λ (b : Bool). indicator b * S) sink_unseen.inside,
      )

  pub flow_certificate : FlowCertificate st (mark_of key') f (S - entry need' st.t)
  flow_certificate = record {
    marks = marks_fit st key';
    source = source_seen.mark;
    sink = sink_unseen.mark;
    amounts = within;
    balances = λ v h p q. omega (signed, balance_parts (leaving v f) (entering v f), elsewhere carried v h p q);
    sums = omega (signed, balance_parts (leaving st.s f) (entering st.s f), flow_is_cut);
    answer = omega (signed, balance_parts (leaving st.s f) (entering st.s f), at_source carried, as_much carried, flow_is_cut);
  }
