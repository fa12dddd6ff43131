use native.Mathlib.Omega.{arith}
use Rattle.arc_index.proofs.Columns.{tails_len}
use Rattle.match_augmenting.proofs.RaiseLoop.{rising_start, low_pair, rising_turn, root_low, raised}
use Rattle.match_augmenting.proofs.raise.raise.Goals as goal

pub loop-a-init : goal.loop-a-init
loop-a-init c = rising_start _ _ _ _ _ _

pub raise_pair-requires : goal.raise_pair-requires
raise_pair-requires c = (
  c.loop-a-test.true,
  c.requires.d_bound.0,
  λ near. low_pair c.requires.state c.loop-a.invariant c.loop-a-test.true (c.requires.d_bound.4 c.loop-a.a c.loop-a-test.true) near (tails_len c.args.records.now),
)

pub loop-a-preserved : goal.loop-a-preserved
loop-a-preserved c =
    rw c.raise_pair.ensures (rising_turn c.requires.state c.loop-a.invariant c.loop-a-test.true (c.requires.d_bound.4 c.loop-a.a c.loop-a-test.true))

pub overflow_add-pi : goal.overflow_add-pi
overflow_add-pi c =
    record { fits = omega (arith, c.requires.d_bound.0, root_low c.requires.state c.loop-a.invariant c.loop-a-test.false _ c.requires.d_bound.1 c.requires.d_bound.2 c.requires.d_bound.3) }

pub returns : goal.returns
returns c =
    raised c.requires.state c.loop-a.invariant c.loop-a-test.false _ c.requires.d_bound.1 c.requires.d_bound.2 c.requires.d_bound.3
