use borrow.Author.Rules.{rules}
use borrow.Author.Tests.{tests}
use Rattle.tide_windows.specs.Windows.{window_in, is_of}
use Rattle.prelude.proofs.SliceTests.{some_held}
use Rattle.tide_windows.proofs.has_window.Goals as goal

pub returns : goal.returns
returns c = some_held (is_of c.args.position) window_in c.args.windows.now c.any.ensures.ran (cc) (λ x b q k. search (rules, tests))
