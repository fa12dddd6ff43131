use mathlib.Core.Path.{ap}
use native.Mathlib.Omega.{arith}
use Rattle.packed_arcs.specs.Entries.{entry}
use Rattle.arc_index.proofs.Columns.{tails_len}
use Rattle.match_augmenting.proofs.Augmentation.{augmented, freed_arc, alternates, still}
use Rattle.match_augmenting.proofs.augment.augment.Goals as goal

pub returns-then-f-ge-NO_ARC : goal.returns-then-f-ge-NO_ARC
returns-then-f-ge-NO_ARC c =
    let A = c.loop-r.invariant.0 in
    rw (c.arc_at-arc.ensures.head)
    (augmented A (omega (
      arith,
      c.if-f-ge-NO_ARC.true,
      ap (entry c.loop-r.mate) c.arc_at-arc.ensures.head,
    )) _ c.loop-r.invariant.1)

pub arc_at-freed-requires : goal.arc_at-freed-requires
arc_at-freed-requires c =
    let A = c.loop-r.invariant.0 in
    omega (
      arith,
      freed_arc A (omega (
        arith,
        c.if-f-ge-NO_ARC.false,
        ap (entry c.loop-r.mate) c.arc_at-arc.ensures.head,
      )),
      ap
          (entry c.loop-r.mate) c.arc_at-arc.ensures.head,
      tails_len
          c.args.records.now,
    )

pub loop-r-preserved : goal.loop-r-preserved
loop-r-preserved c =
    let A = c.loop-r.invariant.0 in
    rw (c.arc_at-freed.ensures.tail, c.arc_at-arc.ensures.head) (
      alternates A (omega (
        arith,
        c.if-f-ge-NO_ARC.false,
        ap (entry c.loop-r.mate) c.arc_at-arc.ensures.head,
      )),
      λ v g l m. still A
          (omega (
            arith,
            c.if-f-ge-NO_ARC.false,
            ap (entry c.loop-r.mate) c.arc_at-arc.ensures.head,
          )) v g
          (c.loop-r.invariant.1 v g l m),
    )
