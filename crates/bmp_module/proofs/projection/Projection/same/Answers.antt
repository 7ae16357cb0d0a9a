use Rattle.std.proofs.Common.{sym}
use Rattle.bmp_poly.specs.Coefficients.{coefficient}
use Rattle.bmp_module.proofs.Projecting.{same_images}
use Rattle.bmp_module.proofs.projection.Projection.same.Goals as goal

pub returns : goal.returns
returns g c =
    let q = c.args.self.now.quotient.now in
    same_images (g.F.Field.size c.args.f.now) q.label.prime q.label.rank q.label.leading q.label.coords
    q.free.degrees.items c.args.a.now.degree c.args.b.now.degree c.in_ok-first.first.degree
    (coefficient (g.F.Field.num c.args.f.now) c.args.a.now.numbers.items)
    (coefficient (g.F.Field.num c.args.f.now) c.args.b.now.numbers.items)
    (coefficient (g.F.Field.num c.args.f.now) c.in_ok-first.first.numbers.items)
    (coefficient (g.F.Field.num c.args.f.now) c.in_ok-second.second.numbers.items)
    c.requires.prime (g.met.F.Field.laws.at_least_two c.args.f.now) (g.met.F.Field.laws.inverse c.args.f.now)
    q.label.leads (sym c.requires.degree) c.in_ok-first.ensures.degree
    c.in_ok-first.ensures.image c.in_ok-second.ensures.image c.same-same.ensures
