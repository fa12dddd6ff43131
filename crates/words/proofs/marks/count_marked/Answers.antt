use mathlib.Core.Path.{◌≡◌}
use lib.ListN.{length}
use borrow.Author.Rules.{rules}
use Rattle.words.proofs.CountLaws.{counted}
use Rattle.words.proofs.marks.count_marked.Goals as goal

pub returns : goal.returns
returns c =
    let l : length c.args.words ≡ 4 = search rules in
    rw (c.mask.ensures, c.mask-2.ensures, c.mask-3.ensures, c.mask-4.ensures)
    (counted c.args.words c.args.low c.args.high l)
