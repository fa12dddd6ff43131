use Prim.Native.Nat.{◌-◌}
use native.Mathlib.Nat.{sub-zero}
use borrow.Author.Rules.{rules}
use mir.Syntax.{w64}
use Rattle.rules.proofs.Signed.{returned}
use Rattle.totals.proofs.Totals.{each_sized, difference}
use Rattle.totals.proofs.potential_gap.Goals as goal

pub returns : goal.returns
returns c = let e = simp (returned w64 c.sum_between-of_sites.result c.sum_between-of_sites.type_inv (simp c.pumps-first_site.ensures at c.sum_between-of_sites.ensures), returned w64 c.sum_between-of_pumps.result c.sum_between-of_pumps.type_inv (simp (sub-zero, c.pumps-first_site.ensures) at c.sum_between-of_pumps.ensures)) at c.subtract.ensures in
    returned w64 c.subtract.result c.subtract.type_inv (difference c.args.potentials (λ i. search each_sized) c.args.st.s (c.args.st.n - c.args.st.s) (search rules) (search rules) c.subtract.result e)
