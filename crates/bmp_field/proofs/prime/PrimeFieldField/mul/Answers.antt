use Rattle.bmp_field.specs.PrimeLaws.{listed_range}
use Rattle.bmp_field.proofs.Reciprocals.{remainder_by_reciprocal}
use Rattle.bmp_field.proofs.prime.PrimeFieldField.mul.Goals as goal

pub returns-clause-number : goal.returns-clause-number
returns-clause-number c =
    let f = c.args.self.now in
    rw (c.from.ensures, c.from-2.ensures, c.from-3.ensures)
    (remainder_by_reciprocal f.prime f.reciprocal c.args.a c.args.b (listed_range f.prime f.listed).1 f.scaled
    c.requires.first c.requires.second)
