-- What is handed over, once it is tested, and what comes of the search.
use mathlib.Core.Path.{◌≡◌, refl, sym, ◌∙◌, ap, subst}
use mathlib.Core.Bool.{Bool, true, ◌&&◌}
use mathlib.Core.List.{List, ◌∷◌}
use mathlib.Core.Logic.{inl}
use Prim.Native.Nat.{ℕ, zero, suc, ◌+◌, ◌-◌, ◌<◌, ◌≤◌}
use native.Mathlib.Omega.{arith}
use lib.Dec.{T, eqb, leb, ltb, eqb→eq, leb→le, ltb→lt}
use lib.ListN.{length, take, replicate, length-replicate, get_or-replicate}
use Rattle.std.specs.Prelude.{unwrap_or}
use Rattle.std.specs.declared.option.Option.{Option}
use Rattle.prelude.specs.Lists.{all}
use Rattle.prelude.proofs.Booleans.{true→T, and_left, and_right}
use Rattle.prelude.proofs.Sums.{sum_to_ext, sum_to_same}
use Rattle.arc_records.specs.Limits.{most_vertices, most_arcs, most_weight}
use Rattle.arc_records.specs.Arcs.{word_arc}
use Rattle.packed_arcs.specs.Entries.{entry, zero_list}
use Rattle.packed_arcs.proofs.LentParts.{zero_at}
use Rattle.packed_arcs.proofs.ListLoops.{each_entry}
use Rattle.arc_index.specs.ArcIndex.{no_arc}
use Rattle.arc_index.specs.Columns.{record_tails, record_heads, record_weights}
use Rattle.match_state.specs.Matching.{Bipartite, State}
use Rattle.match_state.specs.Amounts.{Amounts}
use Rattle.match_results.specs.Results.{Marks, Deficient}
use Rattle.match_least_cost.specs.Outcome.{leads_across, matchable, FindOutcome}
use Rattle.match_rounds.specs.Serving.{PassOutcome}
use Rattle.match_least_cost.specs.declared.Match.{Match}
use Rattle.match_least_cost.specs.declared.Match.TheVariants.{Saturating as SaturatingMatch, Deficient as NoMatch}
use Rattle.arc_index.proofs.Columns.{tails_len, heads_len, weights_len, tail_is, head_is, weight_is}
use Rattle.match_results.proofs.Outcomes.{saturating, deficient}

-- ---- what is handed over

pub record Matchable (rs : List ℕ) (h n xs : ℕ) : Type 0 where
  pub within : h ≤ n
  pub small : n ≤ 255
  pub few : length rs ≤ 4096
  pub one_each : xs ≡ length rs
  pub graph : Bipartite h n (record_tails rs) (record_heads rs) (record_weights rs)

pub matchable_facts : (rs : List ℕ) (h n xs : ℕ) → matchable rs h n xs ≡ true → Matchable rs h n xs
matchable_facts rs h n xs ok =
    record {
      within = leb→le h n a;
      small = leb→le n 255 b;
      few = leb→le (length rs) most_arcs c;
      one_each = eqb→eq xs (length rs) d;
      graph = record {
        within = leb→le h n a;
        small = leb→le n 255 b;
        few = omega (arith, leb→le (length rs) most_arcs c, tails_len rs);
        heads_len = heads_len rs ∙ sym (tails_len rs);
        weights_len = weights_len rs ∙ sym (tails_len rs);
        from_left = λ e l. omega (arith, tail_is rs e, ltb→lt (word_arc (entry rs e)).tail h (and_left (p₁ e) (p₂ e) (and_left (p₁ e && p₂ e) (p₃ e) (and_left (p₁ e && p₂ e && p₃ e) (p₄ e) (each e l)))));
        to_right = λ e l. omega (arith, head_is rs e, leb→le h (word_arc (entry rs e)).head (and_right (p₁ e) (p₂ e) (and_left (p₁ e && p₂ e) (p₃ e) (and_left (p₁ e && p₂ e && p₃ e) (p₄ e) (each e l)))));
        below = λ e l. omega (arith, head_is rs e, ltb→lt (word_arc (entry rs e)).head n (and_right (p₁ e && p₂ e) (p₃ e) (and_left (p₁ e && p₂ e && p₃ e) (p₄ e) (each e l))));
        weights = λ e l. omega (arith, weight_is rs e, leb→le (word_arc (entry rs e)).weight most_weight (and_right (p₁ e && p₂ e && p₃ e) (p₄ e) (each e l)));
      };
    }
  where
    t : T (matchable rs h n xs)
    t = true→T (matchable rs h n xs) ok

    t₄ : T (leb h n && leb n most_vertices && leb (length rs) most_arcs && eqb xs (length rs))
    t₄ = and_left (leb h n && leb n most_vertices && leb (length rs) most_arcs && eqb xs (length rs)) (all (leads_across h n) rs) t

    t₃ : T (leb h n && leb n most_vertices && leb (length rs) most_arcs)
    t₃ = and_left (leb h n && leb n most_vertices && leb (length rs) most_arcs) (eqb xs (length rs)) t₄

    t₂ : T (leb h n && leb n most_vertices)
    t₂ = and_left (leb h n && leb n most_vertices) (leb (length rs) most_arcs) t₃

    a : T (leb h n)
    a = and_left (leb h n) (leb n most_vertices) t₂

    b : T (leb n most_vertices)
    b = and_right (leb h n) (leb n most_vertices) t₂

    c : T (leb (length rs) most_arcs)
    c = and_right (leb h n && leb n most_vertices) (leb (length rs) most_arcs) t₃

    d : T (eqb xs (length rs))
    d = and_right (leb h n && leb n most_vertices && leb (length rs) most_arcs) (eqb xs (length rs)) t₄

    each : (e : ℕ) → e < length (record_tails rs) → T (leads_across h n (entry rs e))
    each e l = each_entry (leads_across h n) rs (and_right (leb h n && leb n most_vertices && leb (length rs) most_arcs && eqb xs (length rs)) (all (leads_across h n) rs) t) e (omega (arith, tails_len rs))

    p₁ : ℕ → Bool
    p₁ e = ltb (word_arc (entry rs e)).tail h

    p₂ : ℕ → Bool
    p₂ e = leb h (word_arc (entry rs e)).head

    p₃ : ℕ → Bool
    p₃ e = ltb (word_arc (entry rs e)).head n

    p₄ : ℕ → Bool
    p₄ e = leb (word_arc (entry rs e)).weight most_weight

-- ---- nothing is matched yet

pub begun : (rs : List ℕ) {h n : ℕ} {mate pi : List ℕ} → Bipartite h n (record_tails rs) (record_heads rs) (record_weights rs)
    → mate ≡ replicate n no_arc → pi ≡ zero_list n → State h n (record_tails rs) (record_heads rs) (record_weights rs) mate pi
begun rs {h} {n} {mate} {pi} G em ep = record {
  graph = G;
  pairs = record { len = rw em (length-replicate n no_arc); each = λ v b. inl (bare v b) };
  priced = record {
    len = rw ep (length-replicate n 0);
    feasible = λ e b. omega (arith, none (entry (record_heads rs) e));
    tight = λ v b m. absurd (omega (arith, bare v b));
  };
  exposed = λ a b m. none a;
  range = λ v b. omega (arith, none v);
}
  where
    bare : (v : ℕ) → v < n → entry mate v ≡ no_arc
    bare v b = rw em (get_or-replicate n v no_arc 0 b)

    none : (v : ℕ) → entry pi v ≡ 0
    none v = rw ep (zero_at n v)

-- a part of an array that is the same everywhere
pub same_part : (n k a : ℕ) → n ≤ k → take n (replicate k a) ≡ replicate n a
same_part zero k a h = refl
same_part (suc n) zero a h = absurd (omega arith)
same_part (suc n) (suc k) a h = ap (λ (l : List ℕ). a ∷ l) (same_part n k a (omega arith))

-- ---- more right vertices than left ones

-- marks that are all 0 show that they cannot all be matched
too_few : (h n : ℕ) (T H : List ℕ) → h < n - h → Deficient h n T H (zero_list n)
too_few h n T H l = record {
  len = length-replicate n 0;
  zero_or_one = λ v. omega (arith, zero_at n v);
  closed = λ e k q. absurd (omega (arith, q, zero_at n (entry T e)));
  fewer = omega (
    arith,
    l,
    sum_to_ext h (λ a. 1 - entry (zero_list n) a) (λ a. 1) (λ a k. omega (arith, zero_at n a)),
    sum_to_ext (n - h) (λ i. 1 - entry (zero_list n) (h + i)) (λ i. 1) (λ i k. omega (arith, zero_at n (h + i))),
    sum_to_same h 1,
    sum_to_same (n - h) 1,
  );
}

pub found_too_few : {h n : ℕ} {T H W pi x : List ℕ} → h < n - h → pi ≡ zero_list n → x ≡ zero_list (length T) → FindOutcome h n T H W pi x NoMatch
found_too_few {h} {n} {T} {H} {W} {pi} {x} l p q = FindOutcome.deficient (rw p (too_few h n T H l)) q

-- ---- what comes of the search

module _ {h n : ℕ} {T H W dist mate pi : List ℕ} {t : ℕ} (O : PassOutcome h n T H W 1 dist mate pi t) where
  pub found_saturating : n ≤ t → {x : List ℕ} → Amounts H mate x → FindOutcome h n T H W pi x SaturatingMatch
  found_saturating g {x} A = go O
    where
      go : PassOutcome h n T H W 1 dist mate pi t → FindOutcome h n T H W pi x SaturatingMatch
      go (PassOutcome.whole d S e f) = FindOutcome.saturating (saturating S (f refl) A)
      go (PassOutcome.stuck d S l k K) = absurd (omega arith)

  pub found_none : t < n → {marks x : List ℕ} → Marks n T mate dist t marks → x ≡ zero_list (length T) → FindOutcome h n T H W marks x NoMatch
  found_none l {marks} {x} M z = go O
    where
      go : PassOutcome h n T H W 1 dist mate pi t → FindOutcome h n T H W marks x NoMatch
      go (PassOutcome.whole d S e f) = absurd (omega arith)
      go (PassOutcome.stuck d S q k K) = FindOutcome.deficient (deficient S K.tree K.none M) z

-- ---- the same for lists of the same lengths

pub bipartite_at : {h n h' n' : ℕ} {T H W : List ℕ} → h' ≡ h → n' ≡ n → Bipartite h n T H W → Bipartite h' n' T H W
bipartite_at {h} {n} {h'} {n'} {T} {H} {W} p q G = subst (λ (z : ℕ). Bipartite z n' T H W) (sym p) (subst (λ (z : ℕ). Bipartite h z T H W) (sym q) G)

pub outcome_at : {h n h' n' : ℕ} {T H W pi x : List ℕ} {r : Match} → h' ≡ h → n' ≡ n → FindOutcome h' n' T H W pi x r → FindOutcome h n T H W pi x r
outcome_at {h} {n} {h'} {n'} {T} {H} {W} {pi} {x} {r} p q O = subst (λ (z : ℕ). FindOutcome z n T H W pi x r) p (subst (λ (z : ℕ). FindOutcome h' z T H W pi x r) q O)

pub pass_again : {h n h' n' : ℕ} {T H W dist mate pi : List ℕ} {step : ℕ} (r : Option ℕ) → h' ≡ h → n' ≡ n → PassOutcome h' n' T H W step dist mate pi (unwrap_or r n')
    → PassOutcome h n T H W step dist mate pi (unwrap_or r n)
pass_again {h} {n} {h'} {n'} {T} {H} {W} {dist} {mate} {pi} {step} r p q O =
    subst (λ (z : ℕ). PassOutcome z n T H W step dist mate pi (unwrap_or r n)) p (subst (λ (z : ℕ). PassOutcome h' z T H W step dist mate pi (unwrap_or r z)) q O)
