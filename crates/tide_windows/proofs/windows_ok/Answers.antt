use borrow.Author.Rules.{rules}
use borrow.Author.Tests.{tests}
use Rattle.tide_windows.specs.Windows.{window_in, window_ok}
use Rattle.prelude.proofs.SliceTests.{every_held}
use Rattle.tide_windows.proofs.windows_ok.Goals as goal

pub returns : goal.returns
returns c = every_held (window_ok c.args.m) window_in c.args.windows.now c.all.ensures.ran (cc) (λ x b q k. search (rules, tests))
