-- Fingerprints of arcs: one arc more, the tests of checks 4 and 14, and how few pairs of points mislead.
use mathlib.Core.Path.{◌≡◌, refl, sym, ◌∙◌, ap, ap₂}
use mathlib.Core.Bool.{Bool}
use mathlib.Core.List.{List, [], ◌∷◌, ◌++◌, map}
use Prim.Native.Nat.{ℕ, ◌≤◌, ◌<◌}
use native.Mathlib.Omega.{arith}
use lib.Dec.{T, ltb, eqb, eqb→eq, eqb_refl, ltb→lt, lt→ltb}
use lib.ListN.{length, length-map}
use Rattle.prelude.specs.Lists.{Every, Perm, AtMost}
use Rattle.prelude.proofs.Booleans.{and_left, and_right, both}
use Rattle.prelude.proofs.Bounds.{at_most_pairs}
use Rattle.prelude.proofs.Counts.{at_most→pairs}
use Rattle.prelude.proofs.Lists.{every_map}
use Rattle.field.specs.Field.{p, fingerprint, extended, product}
use Rattle.field.specs.Promises.{misleading}
use Rattle.field.proofs.Promises.{few_bad}
use Rattle.field.proofs.Step.{fingerprint_snoc}
use Rattle.arc_records.specs.Arcs.{Arc}
use Rattle.network.specs.Network.{key}
use Rattle.points.specs.Points.{pair, IsPoint, no_point, point_ok, print_of, empty_print, extend_print, same_print, count_points, misleading_points}
use Rattle.points.specs.declared.Point.{Point}
use Rattle.points.specs.declared.Print.{Print}

abbrev pub as_print : ℕ → ℕ → Print
as_print k l = record { first = k; second = l }

pub print_none : (x : Point) → empty_print ≡ print_of x []
unfolding product
print_none x = refl

pub print_more : (x : Point) (l : List Arc) (e : Arc) → extend_print x (print_of x l) e ≡ print_of x (l ++ e ∷ [])
print_more x l e = ap₂ as_print (at x.first) (at x.second)
  where
    keys_snoc : (l : List Arc) → map key (l ++ e ∷ []) ≡ map key l ++ key e ∷ []
    keys_snoc [] = refl
    keys_snoc (d ∷ l) = ap (λ (ks : List ℕ). key d ∷ ks) (keys_snoc l)

    at : (r : ℕ) → extended r (fingerprint r (map key l)) (key e) ≡ fingerprint r (map key (l ++ e ∷ []))
    at r = sym (fingerprint_snoc r (key e) (map key l)) ∙ ap (fingerprint r) (sym (keys_snoc l))

-- check 4: the test tells the points
pub point_rule : (x : Point) → T (point_ok x) → IsPoint x
point_rule x t =
    (ltb→lt x.first p (and_left (ltb x.first p) (ltb x.second p) t), ltb→lt x.second p (and_right (ltb x.first p) (ltb x.second p) t))

pub point_test : (x : Point) → IsPoint x → T (point_ok x)
point_test x h = both (ltb x.first p) (ltb x.second p) (lt→ltb x.first p h.0) (lt→ltb x.second p h.1)

-- a session that is void holds a point, too: there is one
pub no_point_lem : IsPoint no_point
no_point_lem = (omega arith, omega arith)

-- check 14: the test tells equal fingerprints
pub same_print_lem : (f g : Print) → T (same_print f g) → f ≡ g
same_print_lem f g t =
    let first = eqb f.first g.first in
    let second = eqb f.second g.second in
    ap₂ as_print (eqb→eq f.first g.first (and_left first second t)) (eqb→eq f.second g.second (and_right first second t))

pub print_same : (f g : Print) → f ≡ g → T (same_print f g)
print_same f g e = rw e (both (eqb g.first g.first) (eqb g.second g.second) (eqb_refl g.first) (eqb_refl g.second))

-- ---- pairs of points

-- pairs that are bad only where two lists of `size` arcs agree at both points though they are no permutations are few: few first points, and few second ones with each
pub few_misled : (size : ℕ) (Bad : Point → Type 0) (l m : List Arc) → Every (λ k. k < p) (map key l) → Every (λ k. k < p) (map key m) → length l ≡ size → length m ≡ size
    → ((x : Point) → Bad x → IsPoint x × T (same_print (print_of x l) (print_of x m)) × ¬ (Perm (map key l) (map key m))) → AtMost (misleading_points size) Bad
few_misled size Bad l m hl hm e f h xs d a =
    at_most_pairs (λ (x : Point). x.first) (λ (x : Point). x.second) (λ x y u v. ap₂ pair u v)
    (misleading size) Agrees few (misleading size) Agrees few xs d (every_map (λ x w. each x (h x w)) xs a)
  where
    -- at one of the two points
    Agrees : ℕ → Type 0
    Agrees r = (r < p) × (fingerprint r (map key l) ≡ fingerprint r (map key m)) × ¬ (Perm (map key l) (map key m))

    few : AtMost (misleading size) Agrees
    few = rw (length-map l key ∙ e) at (few_bad (map key l) (map key m) Agrees hl hm (length-map l key ∙ e ∙ sym (length-map m key ∙ f)) (λ r w. w))

    each : (x : Point) → IsPoint x × T (same_print (print_of x l) (print_of x m)) × ¬ (Perm (map key l) (map key m)) → Agrees x.first × Agrees x.second
    each x w =
        let same = same_print_lem (print_of x l) (print_of x m) w.1 in
        ((w.0.0, ap (λ (f : Print). f.first) same, w.2), (w.0.1, ap (λ (f : Print). f.second) same, w.2))

-- what at most k pairs meet holds at k of them at most, counted
pub at_most→points : (Bad : Point → Type 0) (test : Point → Bool) (k : ℕ) → ((x : Point) → IsPoint x → T (test x) → Bad x) → AtMost k Bad → count_points test ≤ k
at_most→points Bad test k h =
    at_most→pairs pair (λ x. x.first) (λ x. x.second) (λ r q. refl) (λ r q. refl) Bad (λ r q. test (pair r q)) p k (λ r q low w. h (pair r q) (low, w.0) w.1)
