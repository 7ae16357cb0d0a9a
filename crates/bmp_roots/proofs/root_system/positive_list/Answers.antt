use Rattle.std.proofs.Common.{arith, ◌∙◌}
use Rattle.bmp_roots.proofs.PairListLemmas.{positive_pushed, positive_skipped}
use Rattle.bmp_roots.proofs.root_system.positive_list.Goals as goal
use Rattle.bmp_roots.proofs.root_system.positive_list.Goals.{then-is_positive, else-is_positive}

pub push-requires : goal.push-requires
push-requires c = omega (arith, c.loop-pair.invariant.1, c.as_slice-items.ensures.within)

pub loop-pair-preserved : goal.loop-pair-preserved
loop-pair-preserved c =
    elim c.if-is_positive.branch [
      | then-is_positive w ↦
          positive_pushed _ c.as_slice-items.result.now c.loop-pair.pair-index _ _ _ _ c.loop-pair-test.true
          c.is_positive.ensures w.if-is_positive.true c.loop-pair.invariant
          (w.positive-is ∙ w.push.ensures)
      | else-is_positive w ↦
          positive_skipped _ c.as_slice-items.result.now c.loop-pair.pair-index _ _ _ _ c.loop-pair-test.true
          c.is_positive.ensures w.if-is_positive.false c.loop-pair.invariant
          w.positive-is
    ]
