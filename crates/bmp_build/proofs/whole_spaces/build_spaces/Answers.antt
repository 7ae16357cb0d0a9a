use Rattle.std.proofs.Common.{arith}
use Rattle.bmp_build.proofs.WholeDown.{whole_pushed, are_whole}
use Rattle.bmp_build.proofs.whole_spaces.build_spaces.Goals as goal

pub returns : goal.returns
returns g c =
    let h = c.lengths.invariant in
    are_whole h
    (omega (
      arith,
      c.lengths-test.false,
      c.pushed.ensures.count,
      c.vertices.ensures.count,
      whole_pushed h,
    ))
