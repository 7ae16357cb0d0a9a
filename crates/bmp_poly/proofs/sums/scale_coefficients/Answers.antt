use Rattle.std.proofs.Common.{arith, ◌≡◌, ◌*◌, ◌%◌, ◌<◌, length}
use Rattle.bmp_poly.specs.Coefficients.{coefficient}
use Rattle.bmp_poly.proofs.CoefficientLemmas.{scaled_more, written_all, multiples_past}
use Rattle.bmp_poly.proofs.sums.scale_coefficients.Goals as goal

pub loop-i-preserved : goal.loop-i-preserved
loop-i-preserved g c =
    let sized : length c.loop-i.multiples ≡ length c.args.multiples.now = c.loop-i.invariant.sized in
    let here : c.loop-i.i < length c.args.multiples.now = omega (arith, c.loop-i-test.true) in
    scaled_more (g.F.Field.is_value c.args.f.now) (g.F.Field.num c.args.f.now) (g.F.Field.size c.args.f.now)
    (g.F.Field.num c.args.f.now c.args.c) c.args.multiples.now c.loop-i.multiples c.loop-i.i
    c.index-multiples-i.result c.mul.result here c.loop-i.invariant c.index-multiples-i.is c.mul.ensures.value
    c.mul.ensures.number

pub returns-clause-multiples : goal.returns-clause-multiples
returns-clause-multiples g c =
    let sized : length c.loop-i.multiples ≡ length c.args.multiples.now = c.loop-i.invariant.sized in
    let two = g.met.F.Field.laws.at_least_two c.args.f.now in
    written_all (g.F.Field.is_value c.args.f.now) (g.F.Field.num c.args.f.now)
    (λ j. (g.F.Field.num c.args.f.now c.args.c * coefficient (g.F.Field.num c.args.f.now) c.args.multiples.now j)
    % g.F.Field.size c.args.f.now) c.args.multiples.now c.loop-i.multiples c.loop-i.i
    (omega (arith, c.loop-i-test.false))
    (multiples_past (g.F.Field.num c.args.f.now) (g.F.Field.size c.args.f.now) (g.F.Field.num c.args.f.now c.args.c)
    c.args.multiples.now (omega (arith, two))) c.loop-i.invariant
