use Rattle.std.proofs.Common.{◌<◌, length, arith}
use Rattle.bmp_levels.specs.Runs.{run_value}
use Rattle.bmp_levels.proofs.AgreementLemmas.{signed_more}
use Rattle.bmp_levels.proofs.agree.add_row.Goals as goal

pub loop-entry-preserved : goal.loop-entry-preserved
loop-entry-preserved c = record {
  added = λ j inside.
      let here : j < length c.loop-entry.sums = omega (arith, inside, c.loop-entry.invariant.sums) in
      signed_more c.args.minus c.args.p c.args.row.now c.loop-entry.entry-index _ (run_value c.args.run.now j) _ _ _ _ _
      c.loop-entry-test.true c.signed-factor.ensures (c.first-numbers.ensures.values j here)
      (c.loop-entry.invariant.added j inside) (c.add_reduced-room.ensures.added j here);
  within = c.add_reduced-room.ensures.within;
  sums = omega (arith, c.add_reduced-room.ensures.sums, c.loop-entry.invariant.sums);
}
