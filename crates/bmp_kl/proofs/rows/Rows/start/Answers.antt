use Rattle.std.proofs.Common.{arith, refl, length}
use Rattle.bmp_kl.specs.BarRows.{HasLiveRows}
use Rattle.bmp_kl.proofs.RowLemmas.{zeros_next, started}
use Rattle.bmp_kl.proofs.rows.Rows.start.Goals as goal

pub loop-x-preserved : goal.loop-x-preserved
loop-x-preserved c = (
  c.clear.ensures.rows (length c.args.self.now.live.items) c.loop-x.invariant.0,
  zeros_next c.loop-x.x c.loop-x.self.values.items c.clear.new.self.values.items c.loop-x.invariant.1
      c.clear.ensures.zeros c.clear.ensures.kept,
)

pub returns-clause-rows : goal.returns-clause-rows
returns-clause-rows c =
    (started (length c.args.self.now.live.items) c.loop-x.self.values.items _ c.loop-x.self.live.items _
    c.loop-x.invariant.0 c.requires.some
    (λ v j l k. c.loop-x.invariant.1 v j (omega (arith, c.len-x-end.ensures)) k) refl refl).0

pub returns-clause-one : goal.returns-clause-one
returns-clause-one c =
    (started (length c.args.self.now.live.items) c.loop-x.self.values.items _ c.loop-x.self.live.items _
    c.loop-x.invariant.0 c.requires.some
    (λ v j l k. c.loop-x.invariant.1 v j (omega (arith, c.len-x-end.ensures)) k) refl refl).1
