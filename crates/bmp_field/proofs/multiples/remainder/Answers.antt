use Rattle.std.proofs.Common.{◌<◌, ◌*◌, ◌-◌, ◌/◌, ◌∙◌, arith}
use Rattle.bmp_field.proofs.Reciprocals.{short_fits, short_left, short_same}
use Rattle.bmp_field.proofs.multiples.remainder.Goals as goal

pub overflow_sub-sum : goal.overflow_sub-sum
overflow_sub-sum c =
    rw (c.from.ensures, c.from-2.ensures, c.from-3.ensures)
    (short_fits c.args.p c.args.reciprocal c.args.sum c.requires.least c.requires.greatest c.requires.reciprocal
    c.requires.sum)

pub overflow_cast-sum : goal.overflow_cast-sum
overflow_cast-sum c =
    let left : c.args.sum - (c.args.sum * (c.args.reciprocal / 4)) / 65536 * c.args.p < 2 * c.args.p =
    short_left c.args.p c.args.reciprocal c.args.sum c.requires.least c.requires.greatest c.requires.reciprocal
    c.requires.sum in
    rw (c.from.ensures, c.from-2.ensures, c.from-3.ensures) (omega (arith, left))

pub reduced-requires : goal.reduced-requires
reduced-requires c =
    rw (c.from.ensures, c.from-2.ensures, c.from-3.ensures)
    (short_left c.args.p c.args.reciprocal c.args.sum c.requires.least c.requires.greatest c.requires.reciprocal
    c.requires.sum)

pub returns : goal.returns
returns c =
    c.reduced.ensures
    ∙ rw (c.from.ensures, c.from-2.ensures, c.from-3.ensures)
    (short_same c.args.p c.args.reciprocal c.args.sum c.requires.least c.requires.greatest c.requires.reciprocal
    c.requires.sum)
