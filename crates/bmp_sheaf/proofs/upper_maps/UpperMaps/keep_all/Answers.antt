use Rattle.bmp_sheaf.specs.UpperTables.{IsUpperTable}
use Rattle.bmp_sheaf.proofs.SharedValues.{value_of_all}
use Rattle.bmp_sheaf.proofs.upper_maps.UpperMaps.keep_all.Goals as goal

pub returns-in_err-keep : goal.returns-in_err-keep
returns-in_err-keep g c = λ D all uppers.
    c.keep.ensures D (c.loop-upper.invariant D all uppers)
    (value_of_all c.args.uppers.now c.loop-upper.upper-index c.upper-item.result c.loop-upper-test.true c.upper-item.is
    (IsUpperTable D) uppers)

pub loop-upper-preserved : goal.loop-upper-preserved
loop-upper-preserved g c = λ D all uppers.
    c.keep.ensures D (c.loop-upper.invariant D all uppers)
    (value_of_all c.args.uppers.now c.loop-upper.upper-index c.upper-item.result c.loop-upper-test.true c.upper-item.is
    (IsUpperTable D) uppers)
