use mathlib.Core.Path.{◌∙◌, sym}
use native.Mathlib.Omega.{arith}
use Rattle.flow_residual.proofs.FallingKeys.{lower_refl, lower_trans}
use Rattle.flow_residual.proofs.PhaseLaws.{found}
use Rattle.flow_search.proofs.SearchLaws.{between_start, between_on, take_looking, take_falls, all_relaxed, ready_since}
use Rattle.flow_search.proofs.search.Goals as goal

pub loop-queue-init : goal.loop-queue-init
loop-queue-init c =
    (lower_refl _ _ _, between_start c.requires.key_len.2 c.start.ensures)

pub returns-then-k-ge-UNREACHED : goal.returns-then-k-ge-UNREACHED
returns-then-k-ge-UNREACHED c =
    found _ _ _ _ _ _ c.start.ensures.started c.requires.key_len.1
    (record {
      keeps = c.loop-queue.invariant.0;
      relaxed = all_relaxed (ready_since c.requires.key_len.2 c.start.ensures.started c.loop-queue.invariant.0) c.loop-queue.invariant.1
          (omega (arith, c.if-k-ge-UNREACHED.true, c.least-k.ensures));
    })

pub look-requires : goal.look-requires
look-requires c =
    let R = ready_since c.requires.key_len.2 c.start.ensures.started c.loop-queue.invariant.0 in
    record {
      chains = (c.requires.chains.0, c.requires.chains.1, c.loop-queue.invariant.0.par_len ∙ c.requires.key_len.1 ∙ sym c.start.ensures.started.len ∙ sym c.loop-queue.invariant.0.key_len, R);
      looking = rw (c.from-u.ensures, c.take.ensures.0, c.least-k.ensures)
          (take_looking R c.loop-queue.invariant.1 (omega (arith, c.if-k-ge-UNREACHED.false, c.least-k.ensures)) c.take.ensures.1);
    }

pub loop-queue-smaller : goal.loop-queue-smaller
loop-queue-smaller c =
    let R = ready_since c.requires.key_len.2 c.start.ensures.started c.loop-queue.invariant.0 in
    omega (
      arith,
      c.look.ensures.falls,
      take_falls R c.loop-queue.invariant.1 (omega (arith, c.if-k-ge-UNREACHED.false, c.least-k.ensures)) c.take.ensures.1,
    )

pub loop-queue-preserved : goal.loop-queue-preserved
loop-queue-preserved c =
    let k = lower_trans c.loop-queue.invariant.0 c.look.ensures.keeps in
    (k, between_on (ready_since c.requires.key_len.2 c.start.ensures.started k) c.look.ensures.looking)
