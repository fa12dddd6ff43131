-- The search step by step: the path grows, and its last vertex gets the next rank.
use mathlib.Core.Path.{◌≡◌, sym, ◌∙◌, ap, subst}
use mathlib.Core.Logic.{⊎_elim}
use mathlib.Core.List.{List}
use Prim.Native.Nat.{ℕ, ◌+◌, ◌-◌, ◌<◌, ◌≤◌}
use native.Mathlib.Decide.{dec_lt}
use native.Mathlib.Omega.{arith}
use lib.ListN.{length, set, take, length-set}
use lib.Seq.{get_or-set_other}
use Rattle.packed_arcs.specs.Entries.{entry, zero_list, zero_count}
use Rattle.packed_arcs.proofs.LentParts.{zero_at}
use Rattle.packed_arcs.proofs.ListLoops.{set_cases}
use Rattle.arc_index.specs.ArcIndex.{no_arc}
use Rattle.arc_index.specs.Columns.{record_tails, record_heads}
use Rattle.order_path.specs.Steps.{Arcs, Points, Chained, MovedOn, LeadsFrom, Path, Searching, Pushed, Started, Climbed, Ranking, AllRanked, ClosedPath}
use Rattle.order_path.specs.Search.{Ordered}
use Rattle.order_path.specs.Steps.Started.{kept, started}
use Rattle.packed_arcs.proofs.Zeros.{zeros_all, zeros_fewer}
use Rattle.arc_index.proofs.Columns.{tails_len}
use Rattle.order_path.proofs.CurrentArcs.{watch_first}
use Rattle.order_path.proofs.Paths.{path_none, path_moved, has_room, path_longer, path_shorter, not_last}

-- ---- the path grows

module _ {tails heads ranks into path spot : List ℕ} {len : ℕ} (S : Searching tails heads ranks into path spot len) where
  -- the last vertex is looked at
  pub searching_looked : {into' : List ℕ} {v : ℕ} → 0 < len → v ≡ entry path (len - 1) → MovedOn tails heads ranks into v into'
      → Searching tails heads ranks into' path spot len
  searching_looked {into'} {v} some last M = record {
    watch = M.watch;
    on_path = path_moved S.on_path into' some (λ u ne. M.others u (λ q. ne (q ∙ last)));
    unranked = S.unranked;
  }

  -- a vertex v without a rank, off the path, is put at its end
  pub searching_pushed : {path' spot' : List ℕ} {v r : ℕ} → v < length ranks → entry ranks v ≡ 0 → entry spot v ≡ 0
      → (0 < len → LeadsFrom tails (entry into (entry path (len - 1))) v) → Pushed v len path spot path' spot' r
      → Searching tails heads ranks into path' spot' r
  searching_pushed {path'} {spot'} {v} {r} hv hr off joint U = rw (U.path_set, U.spot_set, U.longer) (record {
    watch = S.watch;
    on_path = path_longer S.on_path v hv off joint;
    unranked = λ i h. ⊎_elim
        (λ p. ap (entry ranks) p.1 ∙ hr)
        (λ p. ap (entry ranks) p.1 ∙ S.unranked i (let ne = p.0 in omega arith))
        (set_cases path len v i (omega (arith, S.on_path.path_len, has_room S.on_path v hv off)));
  })

  pub searching_started : {path' spot' : List ℕ} {root r : ℕ} → root < length ranks → entry ranks root ≡ 0 → Started root len path spot path' spot' r
      → Searching tails heads ranks into path' spot' r × (0 < r)
  searching_started {path'} {spot'} {root} {r} hv hr (kept some p s q) = (rw (p, s, q) S, omega arith)
  searching_started {path'} {spot'} {root} {r} hv hr (started none U) = (
    searching_pushed hv hr (omega (arith, S.on_path.within root)) (λ some. absurd (omega arith))
        (subst (λ (k : ℕ). Pushed root k path spot path' spot' r) (sym none) U),
    omega (arith, U.longer),
  )

-- the last vertex v of the path was looked at, and its current arc is e
pub record TopLooked (rs links ranks into path spot into' : List ℕ) (len v e : ℕ) : Type 0 where
  pub chained : Chained (length ranks) (record_tails rs) (record_heads rs) links
  pub searching : Searching (record_tails rs) (record_heads rs) ranks into path spot len
  pub some : 0 < len
  pub last : v ≡ entry path (len - 1)
  pub moved : MovedOn (record_tails rs) (record_heads rs) ranks into v into'
  pub current : e ≡ entry into' v
  pub from : e < no_arc → entry ranks (entry (record_tails rs) e) ≡ 0

-- what the code asks of that arc
pub record AtTop (rs ranks spot : List ℕ) (e : ℕ) : Type 0 where
  pub arc : e < length rs
  pub tail : entry (record_tails rs) e < length ranks
  pub small : length ranks ≤ 255
  pub slot : entry (record_tails rs) e < length spot

module _ {rs links ranks into path spot into' : List ℕ} {len v e : ℕ} (T : TopLooked rs links ranks into path spot into' len v e) where
  abbrev tails : List ℕ
  tails = record_tails rs

  abbrev heads : List ℕ
  heads = record_heads rs

  pub moved_on : Searching tails heads ranks into' path spot len
  moved_on = searching_looked T.searching T.some T.last T.moved

  current : entry into' (entry path (len - 1)) ≡ e
  current = ap (entry into') (sym T.last) ∙ sym T.current

  pub climbed : (e < no_arc → 0 < entry spot (entry tails e)) → Climbed tails heads ranks into' path spot len
  climbed h = record {
    searching = moved_on;
    some = T.some;
    closes = subst (λ (j : ℕ). j < no_arc → 0 < entry spot (entry tails j)) (sym current) h;
  }

  -- it is an arc, from w
  module _ (above : e < no_arc) where
    arc_below : e < length tails
    arc_below =
        let p = subst (Points heads (entry path (len - 1))) current (moved_on.watch.points (entry path (len - 1)) (moved_on.on_path.vertex (len - 1) (omega (arith, T.some)))) in
        omega (arith, p.within above, T.chained.arcs.heads_len)

    pub at_top : AtTop rs ranks spot e
    at_top =
        let tail : entry tails e < length ranks = T.chained.arcs.tails_below e arc_below in
        record {
          arc = omega (arith, arc_below, tails_len rs);
          tail = tail;
          small = T.chained.arcs.vertices;
          slot = omega (arith, moved_on.on_path.spot_len);
        }

    module _ {w : ℕ} (hw : w ≡ entry tails e) (off : entry spot w ≤ 0) where
      pub room_left : len < length ranks
      room_left = has_room moved_on.on_path w (omega (arith, at_top.tail)) (omega arith)

      pub searching_longer : {path' spot' : List ℕ} {r : ℕ} → Pushed w len path spot path' spot' r → Searching tails heads ranks into' path' spot' r
      searching_longer U =
          searching_pushed moved_on (omega (arith, at_top.tail)) (ap (entry ranks) hw ∙ T.from above) (omega arith)
          (λ h. record { some = omega (arith, current); tail = ap (entry tails) current ∙ sym hw }) U

-- ---- the next rank

-- r of the n vertices have a rank, and every vertex below the root
pub record Progress (n : ℕ) (tails heads ranks into path spot : List ℕ) (r root len : ℕ) : Type 0 where
  pub size : length ranks ≡ n
  pub searching : Searching tails heads ranks into path spot len
  pub ranking : Ranking tails heads ranks r
  pub passed : AllRanked ranks root

-- the last vertex v of the path, which no arc enters from a vertex without a rank, gets the rank r + 1
module _ {tails heads ranks into path spot : List ℕ} {len r : ℕ} (A : Arcs (length ranks) tails heads) (C : Climbed tails heads ranks into path spot len)
    (R : Ranking tails heads ranks r) (v : ℕ) (last : v ≡ entry path (len - 1)) (free : no_arc ≤ entry into v) where
  abbrev S : Searching tails heads ranks into path spot len
  S = C.searching

  abbrev ranks₁ : List ℕ
  ranks₁ = set ranks v (r + 1)

  at_end : len - 1 < len
  at_end = omega (arith, C.some)

  vertex : v < length ranks
  vertex = omega (arith, S.on_path.vertex (len - 1) at_end)

  none : entry ranks v ≡ 0
  none = ap (entry ranks) last ∙ S.unranked (len - 1) at_end

  len₁ : length ranks₁ ≡ length ranks
  len₁ = length-set ranks v (r + 1)

  fewer_left : zero_count ranks₁ + 1 ≡ zero_count ranks
  fewer_left = zeros_fewer ranks v (r + 1) vertex none (omega arith)

  pub one_left : r < length ranks
  one_left = omega (arith, fewer_left, R.count)

  -- a rank that was given stays
  stays : (u : ℕ) → 0 < entry ranks u → entry ranks₁ u ≡ entry ranks u
  stays u h = get_or-set_other ranks v u (r + 1) 0 (λ e. absurd (omega (arith, none, ap (entry ranks) e)))

  -- the tail of an arc into v has a rank
  tail_ranked : (d : ℕ) → d < length tails → entry heads d ≡ v → 0 < entry ranks (entry tails d)
  tail_ranked d h q = go (dec_lt 0 (entry ranks (entry tails d)))
    where
      go : Dec (0 < entry ranks (entry tails d)) → 0 < entry ranks (entry tails d)
      go (yes l) = l
      go (no n) = absurd (omega (arith, S.watch.all d h (omega arith), ap (entry into) q, A.few))

  -- the tail of an arc to a vertex with a rank had one, lower than that
  tail_before : (d : ℕ) → d < length tails → 0 < entry ranks₁ (entry heads d)
      → (0 < entry ranks (entry tails d)) × (entry ranks (entry tails d) < entry ranks₁ (entry heads d))
  tail_before d h l =
      ⊎_elim
      (λ p. (tail_ranked d h p.0, omega (arith, p.1, R.low (entry tails d))))
      (λ p. let was : 0 < entry ranks (entry heads d) = omega (arith, p.1) in (R.ranked d h was, omega (arith, p.1, R.rises d h was)))
      (set_cases ranks v (r + 1) (entry heads d) vertex)

  ranking_more : Ranking tails heads ranks₁ (r + 1)
  ranking_more = record {
    low = λ u. ⊎_elim (λ p. omega (arith, p.1)) (λ p. omega (arith, p.1, R.low u)) (set_cases ranks v (r + 1) u vertex);
    ranked = λ d h l. let t = tail_before d h l in omega (arith, t.0, stays (entry tails d) t.0);
    rises = λ d h l. let t = tail_before d h l in omega (arith, t.1, stays (entry tails d) t.0);
    count = omega (arith, R.count, fewer_left, len₁);
  }

  searching_given : Searching tails heads ranks₁ into path (set spot v 0) (len - 1)
  searching_given = record {
    watch = record {
      len = S.watch.len ∙ sym len₁;
      points = λ u h. S.watch.points u (omega (arith, len₁));
      all = λ d h q. S.watch.all d h (before (entry tails d) q);
    };
    on_path = subst (λ (n : ℕ). Path n tails into path (set spot v 0) (len - 1)) (sym len₁) (path_shorter S.on_path v C.some last);
    unranked = λ i h.
        get_or-set_other ranks v (entry path i) (r + 1) 0 (not_last S.on_path v C.some last i h) ∙ S.unranked i (omega arith);
  }
    where
      -- what has no rank had none
      before : (u : ℕ) → entry ranks₁ u ≡ 0 → entry ranks u ≡ 0
      before u q = ⊎_elim (λ p. absurd (omega (arith, p.1))) (λ p. sym p.1 ∙ q) (set_cases ranks v (r + 1) u vertex)

  pub progress_more : {n root : ℕ} → length ranks ≡ n → AllRanked ranks root → Progress n tails heads ranks₁ into path (set spot v 0) (r + 1) root (len - 1)
  progress_more q p = record {
    size = len₁ ∙ q;
    searching = searching_given;
    ranking = ranking_more;
    passed = λ u h. omega (arith, p u h, stays u (p u h));
  }

-- ---- turn by turn

pub arcs_as : {n n' : ℕ} {tails heads : List ℕ} → n' ≡ n → Arcs n tails heads → Arcs n' tails heads
arcs_as {n} {n'} {tails} {heads} q A = subst (λ (k : ℕ). Arcs k tails heads) (sym q) A

-- ---- before the first rank, and after the last

pub searching_none : {tails heads links ranks into path spot : List ℕ} → Chained (length ranks) tails heads links → into ≡ take (length ranks) links
    → length path ≡ length ranks → spot ≡ zero_list (length ranks) → Searching tails heads ranks into path spot 0
searching_none C q p z = record { watch = watch_first C q; on_path = path_none p z; unranked = λ i h. absurd (omega arith) }

pub ranking_none : {tails heads : List ℕ} (ranks : List ℕ) → ranks ≡ zero_list (length ranks) → Ranking tails heads ranks 0
ranking_none {tails} {heads} ranks z = record {
  low = λ v. omega (arith, none v);
  ranked = λ e h l. absurd (omega (arith, none (entry heads e)));
  rises = λ e h l. absurd (omega (arith, none (entry heads e)));
  count = omega (arith, ap zero_count z, zeros_all (length ranks));
}
  where
    none : (v : ℕ) → entry ranks v ≡ 0
    none v = ap (λ (l : List ℕ). entry l v) z ∙ zero_at (length ranks) v
