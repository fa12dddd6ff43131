use mathlib.Core.Path.{◌∙◌}
use Rattle.std.proofs.Common.{rules, arith, ◌≡◌, ◌+◌, ◌-◌, length}
use Rattle.std.proofs.lemmas.Slice.{overwrites, drop-put_mid}
use Rattle.program_io.proofs.Lines.{zeros_behind}
use Rattle.program_io.proofs.line.Text.push.Goals as goal

pub invariant_of-self : goal.invariant_of-self
invariant_of-self g c = (
  search (rules, overwrites),
  drop-put_mid c.self.inside.size (c.self.inside.size + length c.args.bytes.now - c.self.inside.size) c.self.inside.bytes
      c.copy_from_slice.new.self (c.self.inside.size + length c.args.bytes.now) (omega arith) c.self.invariant.0 same ∙
      zeros_behind g.row.N c.self.inside.size (length c.args.bytes.now) c.self.inside.bytes c.self.invariant.1,
)
  where
    same : length c.copy_from_slice.new.self ≡ c.self.inside.size + length c.args.bytes.now - c.self.inside.size
    same = search (rules, overwrites)
