-- With as many pumps as sites a matching that serves every site is perfect: the true answer of a pairing is what it was before pumps could be spare.
use mathlib.Core.Path.{◌≡◌, sym, subst}
use mathlib.Core.Logic.{◌↔◌}
use mathlib.Core.List.{List}
use Prim.Native.Nat.{ℕ, ◌+◌, ◌*◌, ◌≤◌, ◌<◌}
use native.Mathlib.Omega.{arith}
use native.Mathlib.Decide.{dec_lt}
use Rattle.prelude.specs.Lists.{Every}
use Rattle.prelude.specs.Sums.{sum_to}
use Rattle.prelude.proofs.Lists.{every_map, every_image}
use Rattle.prelude.proofs.Sums.{sum_to_same, sum_to_full}
use Rattle.arc_records.specs.Arcs.{Arc}
use Rattle.network.specs.Network.{Load, arcs, leaving, degree}
use Rattle.network.specs.Question.{Question, assignment, Setting, pumps, sites, SidesFor, Allowed, Answer, value, none, Assignment, TrueFor}
use Rattle.network.specs.PerfectMatchings.{PerfectMatching, PerfectlyTrue}
use Rattle.network.specs.Promises.{SameWhereHalf}
use Rattle.network.proofs.Sums.{by_vertex}
use Rattle.network.proofs.Assignments.{Between, crosses_over, enters_no_pump, sites_sum}

module _ (st : Setting) (net : List Arc) (half : pumps st + pumps st ≡ st.n) (rule : Every (Between (pumps st) (sites st)) net) (f : List Load) where
  served_all : PerfectMatching st net f → Assignment st net f
  served_all a = record { each = a.each; chosen = a.chosen; pumps_once = λ v h. omega (arith, a.once v (omega arith)); sites_once = λ v g h. a.once v h }

  used_all : Assignment st net f → PerfectMatching st net f
  used_all a = record { each = a.each; chosen = a.chosen; once = λ v h. once v h (dec_lt v (pumps st)) }
    where
      here : Every (Between (pumps st) (sites st)) (arcs f)
      here = rw a.each rule

      at_most : (v : ℕ) → v < pumps st → 1 * leaving v f ≤ 1
      at_most v h = omega (arith, a.pumps_once v h)

      all : pumps st ≤ sum_to (pumps st) (λ v. 1 * leaving v f)
      all = omega (
        arith,
        sites_sum (pumps st) (sites st) f here (λ v g h. a.sites_once v g (omega arith)) (λ v. 1),
        by_vertex (λ e. e.tail) (λ v. 1) (pumps st) f
            (every_map (λ l (p : Between (pumps st) (sites st) l.arc). p.low) f (every_image (λ l. l.arc) (Between (pumps st) (sites st)) f here)),
        sum_to_same (sites st) 1,
      )

      once : (v : ℕ) → v < st.n → Dec (v < pumps st) → degree v f ≡ 1
      once v h (yes p) = omega (arith, sum_to_full (pumps st) (λ u. 1 * leaving u f) at_most all v p, enters_no_pump (pumps st) (sites st) f here v p)
      once v h (no p) = a.sites_once v (omega arith) h

module _ (st : Setting) (net : List Arc) (half : pumps st + pumps st ≡ st.n) (rule : Every (Between (pumps st) (sites st)) net) where
  same_for : (a : Answer) → TrueFor assignment st net a ↔ PerfectlyTrue st net a
  same_for (value v) = (
    λ c. record { chosen = c.chosen; is_perfect = used_all st net half rule c.chosen c.is_assignment; attained = c.attained; least = λ g a. c.least g (served_all st net half rule g a) },
    λ c. record { chosen = c.chosen; is_assignment = served_all st net half rule c.chosen c.is_perfect; attained = c.attained; least = λ g a. c.least g (used_all st net half rule g a) },
  )
  same_for none = (λ c g a. c g (served_all st net half rule g a), λ c g a. c g (used_all st net half rule g a))

pub same_where_half : SameWhereHalf
same_where_half st net a q half allowed =
    subst (λ (k : Question). TrueFor k st net a ↔ PerfectlyTrue st net a) (sym q) (same_for st net (omega (arith, half)) (every_map across net allowed) a)
  where
    across : (e : Arc) → Allowed st e → Between (pumps st) (sites st) e
    across e h = crosses_over st e h.joins.head_below (subst (λ (k : Question). SidesFor k st e) q h.joins.sides)
