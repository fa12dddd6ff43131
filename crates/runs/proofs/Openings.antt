-- The checks of opening at a pair of points hold exactly where opening accepts the setting and the points.
use mathlib.Core.List.{[], ◌∷◌}
use Rattle.prelude.specs.Checks.{◌unless◌, Hold}
use Rattle.prelude.proofs.Settle.{hold_append, hold_left, hold_right}
use Rattle.network.specs.Question.{Setting}
use Rattle.network.specs.Tests.{opening_checks}
use Rattle.network.proofs.Allowed.{opening_rule, opening_test}
use Rattle.points.specs.Points.{IsPoint, point_ok}
use Rattle.points.specs.declared.Point.{Point}
use Rattle.points.proofs.Prints.{point_rule, point_test}
use Rattle.state.specs.State.{open_checks}
use Rattle.runs.specs.Exchange.{Opens}

module _ (st : Setting) (r : Point) where
  pub opens_rule : Hold (open_checks st r) → Opens st r
  opens_rule h = record {
    opened = opening_rule st (hold_left (opening_checks st) (4 unless point_ok r ∷ []) h);
    point = point_rule r (hold_right (opening_checks st) (4 unless point_ok r ∷ []) h).0;
  }

  -- checks 1 to 3 hold, and the points are points
  pub opens_held : Hold (opening_checks st) → IsPoint r → Hold (open_checks st r)
  opens_held h p = hold_append (opening_checks st) (4 unless point_ok r ∷ []) h (point_test r p, tt)

  -- the checks of opening but for that of the points
  pub without_point : Hold (open_checks st r) → Hold (opening_checks st)
  without_point h = hold_left (opening_checks st) (4 unless point_ok r ∷ []) h

  pub opens_test : Opens st r → Hold (open_checks st r)
  opens_test o = opens_held (opening_test st o.opened) o.point
