use mathlib.Core.Bool.{◌&&◌}
use borrow.Author.Rules.{rules}
use borrow.Author.Tests.{tests}
use Rattle.tide_windows.specs.Windows.{window_in, is_of, includes}
use Rattle.prelude.proofs.SliceTests.{some_held}
use Rattle.tide_windows.proofs.has_open_window.Goals as goal

pub returns : goal.returns
returns c = some_held (λ w. is_of c.args.position w && includes c.args.minute w) window_in c.args.windows.now c.any.ensures.ran (cc) (λ x b q k. search (rules, tests))
