-- The cases of a call of `certify`: arrays lent in part, and the outcome from the test's result.
use mathlib.Core.Path.{◌≡◌, refl, sym, subst, ◌∙◌}
use mathlib.Core.Bool.{Bool, true, false, not}
use mathlib.Core.List.{List}
use Prim.Native.Nat.{ℕ}
use native.Mathlib.Omega.{arith}
use lib.IntN.{ℤ}
use lib.ListN.{length, take}
use Rattle.prelude.proofs.Tested.{passed, refused as failed}
use Rattle.arc_records.specs.Limits.{most_vertices}
use Rattle.arc_records.specs.Arcs.{Arc, word_arcs}
use Rattle.network.specs.Question.{Setting, Admissible}
use Rattle.packed_arcs.specs.Entries.{zero_list}
use Rattle.packed_arcs.proofs.LentParts.{zero_list_length}
use Rattle.cert_instances.specs.Certify.{admissible, Solution, CertifyOutcome, refused, solved}
use Rattle.cert_instances.proofs.Solutions.{accepted}

-- of an array of zeros one is lent for each vertex
module _ {st : Setting} {es : List Arc} (a : Admissible st es) (i : ℕ) (e : i ≡ st.n) where
  lent_length : length (take i (zero_list most_vertices)) ≡ i
  lent_length = zero_list_length i most_vertices (omega (arith, a.opened.sized.at_most))

  pub lent : i ≡ length (take i (zero_list most_vertices))
  lent = sym lent_length

  pub one_each : length (take i (zero_list most_vertices)) ≡ st.n
  one_each = lent_length ∙ e

-- ---- after the test, whose result u the code negates

module _ (st : Setting) (rs : List ℕ) where
  -- i numbers and j amounts were handed over
  pub begun : (i j : ℕ) (u : Bool) → not u ≡ false → u ≡ admissible st rs i j → Admissible st (word_arcs rs) × (j ≡ length rs) × (i ≡ st.n)
  begun i j u h e = let a = accepted st rs i j (passed (admissible st rs i j) u h e) in (a.0, a.2, a.1)

  -- ys and xs were handed over, ys' and xs' are handed back
  pub ended :
      (ys : List ℤ) (xs : List ℕ) (ys' : List ℤ) (xs' : List ℕ) (reply : ℕ) (u : Bool) → not u ≡ false → u ≡ admissible st rs (length ys) (length xs)
      → length ys' ≡ length ys → length xs' ≡ length xs → Solution st (word_arcs rs) ys' xs' reply → CertifyOutcome st rs ys xs ys' xs' reply
  ended ys xs ys' xs' reply u h e = solved (passed (admissible st rs (length ys) (length xs)) u h e)

  pub turned_away : (ys : List ℤ) (xs : List ℕ) (u : Bool) → not u ≡ true → u ≡ admissible st rs (length ys) (length xs) → CertifyOutcome st rs ys xs ys xs 0
  turned_away ys xs u h e = refused (failed (admissible st rs (length ys) (length xs)) u h e) refl refl refl

-- the outcome with the number r of what was found
pub by_number :
    {st : Setting} {rs : List ℕ} {ys ys' : List ℤ} {xs xs' : List ℕ} {r k : ℕ} → r ≡ k
    → CertifyOutcome st rs ys xs ys' xs' k → CertifyOutcome st rs ys xs ys' xs' r
by_number {st} {rs} {ys} {ys'} {xs} {xs'} e o = subst (CertifyOutcome st rs ys xs ys' xs') (sym e) o
