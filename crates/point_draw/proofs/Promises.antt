-- What is promised of a drawn point and of a drawn pair is kept.
use mathlib.Core.Path.{◌≡◌, refl, sym, ap, ap₂, ◌∙◌}
use mathlib.Core.Bool.{Bool, true, false, ◌&&◌, and-true, and-false}
use mathlib.Core.List.{List, [], ◌∷◌}
use Prim.Native.Nat.{ℕ, zero, suc, ◌+◌, ◌*◌, ◌/◌, ◌<◌}
use native.Mathlib.Nat.{zero-add, suc-add}
use native.Mathlib.Decide.{ℕ_discrete}
use native.Mathlib.Omega.{arith}
use borrow.Author.Tests.{lt-ltb, ltb-true, eq-eqb, ne_eqb}
use lib.Dec.{ltb, eqb}
use lib.ListN.{length, take, drop}
use Rattle.std.specs.Prelude.{Option, Some, None}
use Rattle.std.proofs.lemmas.Option.{some_pair_parts}
use Rattle.prelude.specs.Choice.{pick, indicator}
use Rattle.prelude.specs.Sums.{sum_to}
use Rattle.prelude.proofs.Sums.{sum_to_ext, sum_to_add, sum_to_none, sum_to_split}
use Rattle.field.specs.Field.{p}
use Rattle.file_fields.specs.Bytes.{read32, bytes32}
use Rattle.point_draw.specs.Draw.{low31, or_else, first_point, words_in, paired, first_pair}
use Rattle.point_draw.specs.Promises.{DrawsPoints, is_drawn, words, count_lists, TwoWordsEach, NoOther, EquallyLikely, DrawsPairs, is_drawn_pair, PairsEquallyLikely}

-- ---- what is drawn is a point

below : (ws : List ℕ) (r : ℕ) → first_point ws ≡ Some r → r < p
below [] r e = let z : ◌≡◌ {A = ℕ} 0 1 = cc in absurd (omega arith)
below (w ∷ ws) r e = go (ltb (low31 w) p) refl (below ws r) e
  where
    go : (b : Bool) → ltb (low31 w) p ≡ b → (first_point ws ≡ Some r → r < p) → pick b (Some (low31 w)) (first_point ws) ≡ Some r → r < p
    go true t later e = let same : low31 w ≡ r = cc in omega (arith, ltb-true (low31 w) p t)
    go false t later e = later e

read_back : (r : ℕ) → read32 (bytes32 r) 0 ≡ r
read_back r = omega arith

pub draws_points : DrawsPoints
draws_points random r e = (below (words_in random) r e, read_back r)

-- ---- how many words give a point

-- what a word of which k is the number and b says whether it is a point gives
gives_on : (b : Bool) (k r : ℕ) → b ≡ true → k ≡ r → indicator (is_drawn r (pick b (Some k) None)) ≡ 1
gives_on true k r t e = ap indicator (eq-eqb k r e)
gives_on false k r t e = absurd (let z : ◌≡◌ {A = ℕ} 0 1 = cc in omega arith)

gives_off : (b : Bool) (k r : ℕ) → (b ≡ true → k ≡ r → ⊥) → indicator (is_drawn r (pick b (Some k) None)) ≡ 0
gives_off true k r h = ap indicator (ne_eqb k r (h refl))
gives_off false k r h = refl

-- one number counts once, the others not at all
one_counts : (n r : ℕ) (g : ℕ → ℕ) → r < n → g r ≡ 1 → ((i : ℕ) → i < n → (i ≡ r → ⊥) → g i ≡ 0) → sum_to n g ≡ 1
unfolding sum_to
one_counts zero r g h one none = absurd (omega arith)
one_counts (suc n) r g h one none = go (ℕ_discrete n r) (one_counts n r g)
  where
    go : Dec (n ≡ r) → (r < n → g r ≡ 1 → ((i : ℕ) → i < n → (i ≡ r → ⊥) → g i ≡ 0) → sum_to n g ≡ 1) → sum_to n g + g n ≡ 1
    go (yes e) before = omega (arith, sum_to_none n g (λ i b. none i (omega arith) (omega arith)), ap g e)
    go (no ne) before = omega (arith, before (omega arith) one (λ i b. none i (omega arith)), none n (omega arith) ne)

-- 1 for a word that gives r, else 0
abbrev gives : ℕ → ℕ → ℕ
gives r w = indicator (is_drawn r (or_else w None))

-- half of the words: each number of 31 bits stands once in their low bits
abbrev half : ℕ
half = 2147483648

half_gives : (r : ℕ) → r < p → (f : ℕ → ℕ) → ((i : ℕ) → i < half → low31 (f i) ≡ i) → sum_to half (λ i. gives r (f i)) ≡ 1
half_gives r h f same =
    one_counts half r (λ i. gives r (f i)) (omega arith)
    (gives_on (ltb (low31 (f r)) p) (low31 (f r)) r (lt-ltb (low31 (f r)) p (omega (arith, same r (omega arith)))) (same r (omega arith)))
    (λ i b ne. gives_off (ltb (low31 (f i)) p) (low31 (f i)) r (λ t e. ne (sym (same i b) ∙ e)))

pub two_words_each : TwoWordsEach
two_words_each r h =
    sum_to_split half half (gives r)
    ∙ ap₂ ◌+◌ (half_gives r h (λ i. i) (λ i b. omega arith)) (half_gives r h (λ i. half + i) (λ i b. omega arith))

pub no_other : NoOther
no_other r h =
    sum_to_none words (gives r)
    (λ w b. gives_off (ltb (low31 w) p) (low31 w) r (λ t e. let q : low31 w < p = ltb-true (low31 w) p t in omega arith))

-- ---- how many lists of words draw a point

sum_to_scale : (n : ℕ) (g : ℕ → ℕ) (a : ℕ) → sum_to n (λ v. g v * a) ≡ sum_to n g * a
unfolding sum_to
sum_to_scale zero g a = omega arith
sum_to_scale (suc n) g a = omega (arith, sum_to_scale n g a)

-- all lists of k words, and those that draw r
abbrev lists : ℕ → ℕ
lists k = count_lists k (λ ws. true)

abbrev draws : ℕ → ℕ → ℕ
draws k r = count_lists k (λ ws. is_drawn r (first_point ws))

no_lists : (k : ℕ) → count_lists k (λ ws. false) ≡ 0
unfolding count_lists
no_lists zero = refl
no_lists (suc k) = sum_to_none words (λ w. count_lists k (λ ws. false)) (λ w b. no_lists k)

count_lists_ext : (k : ℕ) (f g : List ℕ → Bool) → ((ws : List ℕ) → f ws ≡ g ws) → count_lists k f ≡ count_lists k g
unfolding count_lists
count_lists_ext zero f g e = ap indicator (e [])
count_lists_ext (suc k) f g e = sum_to_ext words _ _ (λ w b. count_lists_ext k (λ ws. f (w ∷ ws)) (λ ws. g (w ∷ ws)) (λ ws. e (w ∷ ws)))

-- a test that does not look at the words, with one that may and by itself
one_test_and : (k : ℕ) (b : Bool) (g : List ℕ → Bool) → count_lists k (λ ws. b && g ws) ≡ indicator b * count_lists k g
one_test_and k true g = omega arith
one_test_and k false g = no_lists k ∙ omega arith

one_test : (k : ℕ) (b : Bool) → count_lists k (λ ws. b) ≡ indicator b * lists k
one_test k b = count_lists_ext k _ _ (λ ws. sym (and-true b)) ∙ one_test_and k b (λ ws. true)

-- the lists that begin with a word: all or none where it gives a point, and those whose rest draws r where it is dropped
beginning : (k r w : ℕ) (b : Bool)
    → count_lists k (λ ws. is_drawn r (pick b (Some w) (first_point ws))) ≡ indicator (is_drawn r (pick b (Some w) None)) * lists k + pick b 0 (draws k r)
beginning k r w true = one_test k (eqb w r) ∙ omega arith
beginning k r w false = omega arith

-- the lists whose first word is dropped, where n draw r with the rest
abbrev dropped : ℕ → ℕ
dropped n = sum_to words (λ w. pick (ltb (low31 w) p) 0 n)

longer : (k r : ℕ) → r < p → draws (suc k) r ≡ 2 * lists k + dropped (draws k r)
unfolding count_lists
longer k r h =
    sum_to_ext words _ (λ w. gives r w * lists k + pick (ltb (low31 w) p) 0 (draws k r)) (λ w b. beginning k r (low31 w) (ltb (low31 w) p))
    ∙ sum_to_add words (λ w. gives r w * lists k) (λ w. pick (ltb (low31 w) p) 0 (draws k r))
    ∙ ap (λ (n : ℕ). n + dropped (draws k r)) (sum_to_scale words (gives r) (lists k) ∙ ap (λ (n : ℕ). n * lists k) (two_words_each r h))

pub equally_likely : EquallyLikely
unfolding count_lists
equally_likely zero r s h g = refl
equally_likely (suc k) r s h g = longer k r h ∙ ap (λ (n : ℕ). 2 * lists k + dropped n) (equally_likely k r s h g) ∙ sym (longer k s g)

-- ---- how many lists of words draw a pair

-- a test of the first j words and one of the others
parts_counted : (j k : ℕ) (f g : List ℕ → Bool) → count_lists (j + k) (λ ws. f (take j ws) && g (drop j ws)) ≡ count_lists j f * count_lists k g
unfolding count_lists
parts_counted zero k f g = rw zero-add (one_test_and k (f []) g)
parts_counted (suc j) k f g =
    rw suc-add
    (sum_to_ext words _ (λ w. count_lists j (λ ws. f (w ∷ ws)) * count_lists k g) (λ w b. parts_counted j k (λ ws. f (w ∷ ws)) g)
    ∙ sum_to_scale words (λ w. count_lists j (λ ws. f (w ∷ ws))) (count_lists k g))

paired_drawn : (r q : ℕ) (a b : Option ℕ) → is_drawn_pair r q (paired a b) ≡ (is_drawn r a && is_drawn q b)
paired_drawn r q (Some k) (Some l) = refl
paired_drawn r q (Some k) None = sym (and-false (eqb k r))
paired_drawn r q None b = refl

pairs_counted : (j k r q : ℕ) → count_lists (j + k) (λ ws. is_drawn_pair r q (first_pair j ws)) ≡ draws j r * draws k q
pairs_counted j k r q =
    count_lists_ext (j + k) _ _ (λ ws. paired_drawn r q (first_point (take j ws)) (first_point (drop j ws)))
    ∙ parts_counted j k (λ ws. is_drawn r (first_point ws)) (λ ws. is_drawn q (first_point ws))

pub pairs_equally_likely : PairsEquallyLikely
pairs_equally_likely j k r q s t hr hq hs ht =
    pairs_counted j k r q ∙ ap₂ ◌*◌ (equally_likely j r s hr hs) (equally_likely k q t hq ht) ∙ sym (pairs_counted j k s t)

-- ---- what is drawn is a pair of points

-- a pair is drawn where both of its points are
paired_are : (a b : Option ℕ) (r q : ℕ) → paired a b ≡ Some (r, q) → (a ≡ Some r) × (b ≡ Some q)
paired_are (Some k) (Some l) r q e = let same = some_pair_parts k r l q e in (ap Some same.0, ap Some same.1)
paired_are (Some k) None r q e = let z : ◌≡◌ {A = ℕ} 0 1 = cc in absurd (omega arith)
paired_are None b r q e = let z : ◌≡◌ {A = ℕ} 0 1 = cc in absurd (omega arith)

pub draws_pairs : DrawsPairs
draws_pairs random r q e =
    let k = length random / 8 in
    let first = take k (words_in random) in
    let second = drop k (words_in random) in
    let w = paired_are (first_point first) (first_point second) r q e in
    (below first r w.0, below second q w.1, read_back r, read_back q)
