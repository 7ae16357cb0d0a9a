use Rattle.std.proofs.Common.{◌∙◌, ap₂}
use Rattle.bmp_poly.specs.Exponents.{count}
use Rattle.bmp_poly.specs.Polynomials.{form_of}
use Rattle.bmp_poly.proofs.Turns.{divides_where_zero}
use Rattle.bmp_poly.proofs.label.Label.divides.Goals as goal

pub returns : goal.returns
returns g c =
    let iff = divides_where_zero (g.F.Field.num c.args.f.now) (g.F.Field.is_value c.args.f.now) c.args.self.now.prime
    (g.F.Field.size c.args.f.now) c.args.self.now.rank c.reduce_in.new.a.rank c.args.a.degree
    c.args.self.now.leading c.args.self.now.coords (form_of (g.F.Field.num c.args.f.now) c.args.a)
    c.reduce_in.new.a.coefficients (g.met.F.Field.laws.at_least_two c.args.f.now) c.requires.prime
    c.args.self.now.leads (g.met.F.Field.laws.inverse c.args.f.now) (g.met.F.Field.laws.below_size c.args.f.now)
    c.reduce_in.ensures.values (c.reduce_in.ensures.rank ∙ c.requires.rank)
    (c.reduce_in.ensures.shape.sized
    ∙ ap₂ count (c.reduce_in.ensures.rank ∙ c.requires.rank) c.reduce_in.ensures.degree)
    c.reduce_in.ensures.normal in
    ((λ t. iff.0 (c.is_zero.ensures.0 t)), (λ h. c.is_zero.ensures.1 (iff.1 h)))
