use Rattle.std.proofs.Common.{arith, ◌≡◌, ◌+◌, ◌%◌, ◌<◌, length}
use Rattle.bmp_poly.specs.Coefficients.{coefficient}
use Rattle.bmp_poly.proofs.CoefficientLemmas.{added_more, written_all, sums_past}
use Rattle.bmp_poly.proofs.sums.add_coefficients.Goals as goal

pub loop-i-preserved : goal.loop-i-preserved
loop-i-preserved g c =
    let sized : length c.loop-i.sums ≡ length c.args.sums.now = c.loop-i.invariant.sized in
    let here : c.loop-i.i < length c.args.sums.now = omega (arith, c.loop-i-test.true) in
    added_more (g.F.Field.is_value c.args.f.now) (g.F.Field.num c.args.f.now) (g.F.Field.size c.args.f.now)
    c.args.sums.now c.args.others.now c.loop-i.sums c.loop-i.i c.index-sums-i.result c.index-others-i.result
    c.add.result here (omega (arith, c.requires.sized)) c.loop-i.invariant c.index-sums-i.is c.index-others-i.is
    c.add.ensures.value c.add.ensures.number

pub returns-clause-sums : goal.returns-clause-sums
returns-clause-sums g c =
    let sized : length c.loop-i.sums ≡ length c.args.sums.now = c.loop-i.invariant.sized in
    let two = g.met.F.Field.laws.at_least_two c.args.f.now in
    written_all (g.F.Field.is_value c.args.f.now) (g.F.Field.num c.args.f.now)
    (λ j. (coefficient (g.F.Field.num c.args.f.now) c.args.sums.now j + coefficient (g.F.Field.num c.args.f.now)
    c.args.others.now j) % g.F.Field.size c.args.f.now) c.args.sums.now c.loop-i.sums c.loop-i.i
    (omega (arith, c.loop-i-test.false))
    (sums_past (g.F.Field.num c.args.f.now) (g.F.Field.size c.args.f.now) c.args.sums.now c.args.others.now
    (omega (arith, two)) c.requires.sized) c.loop-i.invariant
