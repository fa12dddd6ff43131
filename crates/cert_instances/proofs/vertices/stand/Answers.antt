use mathlib.Core.Path.{◌≡◌, ◌∙◌, ap}
use mathlib.Core.Logic.{⊎_elim}
use native.Mathlib.Omega.{arith}
use borrow.Author.Rules.{rules}
use lib.ListN.{length, length-set, length-replicate}
use Rattle.packed_arcs.specs.Entries.{zero_list}
use Rattle.packed_arcs.proofs.LentParts.{zero_at}
use Rattle.packed_arcs.proofs.ListLoops.{set_cases}
use Rattle.cert_instances.proofs.Standing.{stands, stands_nowhere}
use Rattle.cert_instances.proofs.vertices.stand.Goals as goal

pub returns-then-k-list : goal.returns-then-k-list
returns-then-k-list c =
    let z : c.fill.new.self ≡ zero_list (length c.args.list.now) = search rules in
    stands _ _ _ _ z c.from-k.ensures c.if-k-list.true

pub returns-else-k-list : goal.returns-else-k-list
returns-else-k-list c =
    let z : c.fill.new.self ≡ zero_list (length c.args.list.now) = search rules in
    stands_nowhere _ _ _ _ z c.from-k.ensures c.if-k-list.false
