use Rattle.std.proofs.Common.{sym}
use Rattle.bmp_poly.proofs.CoefficientLemmas.{coefficient_read}
use Rattle.bmp_module.proofs.coordinates.Coordinates.coordinate.Goals as goal

pub returns-clause-number : goal.returns-clause-number
returns-clause-number g c =
    sym (coefficient_read (g.F.Field.num c.args.f.now) c.args.self.now.numbers.items c.args.i c.index.result.now
    c.requires.place c.index.ensures)
